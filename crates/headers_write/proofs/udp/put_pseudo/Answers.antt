use native.Mathlib.Omega.{arith}
use Rattle.octets.specs.PutLaws.{wrote_then}
use Rattle.headers_write.specs.Summed.{pseudo_bytes}
use Rattle.headers_write.proofs.udp.put_pseudo.Goals as goal

pub returns : goal.returns
unfolding pseudo_bytes
returns c = (
  omega arith,
  wrote_then c.put-at.ensures (
      wrote_then c.put-at-2.ensures (
      wrote_then c.put-at-3.ensures c.put.ensures)),
)
