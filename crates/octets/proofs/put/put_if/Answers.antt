use native.Mathlib.Omega.{arith}
use Rattle.octets.specs.PutLaws.{wrote_nothing}
use Rattle.octets.proofs.put.put_if.Goals as goal

pub put-requires : goal.put-requires
put-requires g c = rw c.if-wanted.true at c.requires

pub returns-then-wanted : goal.returns-then-wanted
returns-then-wanted g c =
    rw c.if-wanted.true (c.put.ensures.ends, c.put.ensures)

pub returns-else-wanted : goal.returns-else-wanted
returns-else-wanted g c = rw c.if-wanted.false (omega arith, wrote_nothing)
