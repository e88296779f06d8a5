use Rattle.headers.specs.Compressible.{fixed_form}
use Rattle.codes.specs.Reading.{word_at}
use lib.Bits.{and_mask}
use Rattle.headers_read.proofs.form.fixed_form.Goals as goal

pub returns : goal.returns
unfolding fixed_form
returns c =
    let a = c.args in rw (c.word_at-fragment.ensures, and_mask (word_at a.p.now 6) 14)
