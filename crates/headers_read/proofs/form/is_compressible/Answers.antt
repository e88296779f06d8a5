use Rattle.headers.specs.Compressible.{compressible}
use Rattle.codes.specs.Reading.{word_at}
use lib.ListN.{length}
use borrow.Author.Tests.{le-leb, lt-leb}
use lib.Bits.{and_mask}
use native.Mathlib.Omega.{arith}
use Rattle.headers_read.proofs.form.is_compressible.Goals as goal

pub returns-then-size-lt40 : goal.returns-then-size-lt40
unfolding compressible
returns-then-size-lt40 c = let a = c.args in rw (lt-leb 40 (length a.p.now) (omega arith))

pub returns : goal.returns
unfolding compressible
returns c =
    let a = c.args in
    rw (
      le-leb 40 (length a.p.now) (omega arith),
      c.word_at-3.ensures,
      c.word_at-2.ensures,
      c.fixed_form.ensures,
      c.count_at-count.ensures.0,
      c.ip_checksum_of.ensures,
      c.word_at.ensures,
      c.word_at-total.ensures,
      and_mask (word_at a.p.now 22) 1,
    )
