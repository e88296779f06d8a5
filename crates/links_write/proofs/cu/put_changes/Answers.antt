use Rattle.octets.specs.PutLaws.{wrote_then}
use Rattle.links_write.specs.SizeLaws.{whole_two}
use native.Mathlib.Omega.{arith}
use Rattle.links_write.proofs.cu.put_changes.Goals as goal

pub returns : goal.returns
returns c = (
  omega (arith, whole_two c.args.h.id),
  wrote_then c.put_if-at.ensures.1 (
      wrote_then c.put_delta-at.ensures (
      wrote_then c.put_delta-at-2.ensures c.put_whole.ensures)),
)
