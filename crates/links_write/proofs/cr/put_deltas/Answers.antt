use Rattle.octets.specs.PutLaws.{wrote_then}
use native.Mathlib.Omega.{arith}
use Rattle.links_write.proofs.cr.put_deltas.Goals as goal

pub returns : goal.returns
returns c = (
  omega arith,
  wrote_then c.put_delta-at.ensures (wrote_then c.put_delta-at-2.ensures c.put_delta.ensures),
)
