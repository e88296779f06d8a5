use Rattle.octets.specs.PutLaws.{wrote_then}
use native.Mathlib.Omega.{arith}
use Rattle.refresh.proofs.cs.put_count.Goals as goal

pub returns : goal.returns
returns c = (
  omega arith,
  wrote_then c.put-at.ensures c.put.ensures,
)
