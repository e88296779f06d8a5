use Rattle.headers.specs.Header.{udp_bytes}
use native.Mathlib.Omega.{arith}
use Rattle.octets.specs.PutLaws.{wrote_then}
use Rattle.headers_write.proofs.write.put_udp.Goals as goal

pub returns : goal.returns
unfolding udp_bytes
returns c = (
  omega arith,
  wrote_then c.put-at.ensures (
      wrote_then c.put-at-2.ensures (
      wrote_then c.put-at-3.ensures c.put.ensures)),
)
