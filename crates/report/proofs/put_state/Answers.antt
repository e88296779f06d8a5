use native.Mathlib.Omega.{arith}
use borrow.Author.Tests.{lt-ltb, le-ltb}
use Rattle.octets.specs.PutLaws.{wrote_nothing}
use Rattle.report.proofs.put_state.Goals as goal

pub returns-then-b-i-le1 : goal.returns-then-b-i-le1
returns-then-b-i-le1 c = rw (le-ltb _ _ c.if-b-i-le1.true) wrote_nothing

pub put_record-requires : goal.put_record-requires
put_record-requires c = (
  omega (arith, c.requires.2),
  rw (lt-ltb _ _ c.if-b-i-le1.false) at c.requires.3,
)

pub returns : goal.returns
returns c = rw (lt-ltb _ _ c.if-b-i-le1.false) c.put_record.ensures.1
