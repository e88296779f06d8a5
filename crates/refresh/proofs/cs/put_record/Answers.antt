use Rattle.octets.specs.PutLaws.{wrote_then}
use native.Mathlib.Omega.{arith}
use Rattle.refresh.proofs.cs.put_record.Goals as goal

pub returns : goal.returns
returns c = (
  omega arith,
  rw c.pack_record-flags.ensures at
      (wrote_then c.put-at.ensures (wrote_then c.put-at-2.ensures c.put.ensures)),
)
