use Rattle.headers.specs.Header.{ip_back}
use native.Mathlib.Omega.{arith}
use Rattle.octets.specs.PutLaws.{wrote_then}
use Rattle.headers_write.proofs.ip.put_ip_back.Goals as goal

pub returns : goal.returns
unfolding ip_back
returns c = (
  omega arith,
  wrote_then c.put-at.ensures (
      wrote_then c.put-at-2.ensures (
      wrote_then c.put-at-3.ensures (
      wrote_then c.put-at-4.ensures c.put.ensures))),
)
