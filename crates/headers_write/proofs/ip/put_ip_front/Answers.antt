use Rattle.headers.specs.Header.{ip_front}
use native.Mathlib.Omega.{arith}
use Rattle.octets.specs.PutLaws.{wrote_then}
use Rattle.headers_write.proofs.ip.put_ip_front.Goals as goal

pub returns : goal.returns
unfolding ip_front
returns c = (
  omega arith,
  wrote_then c.put-at.ensures (
      wrote_then c.put-at-2.ensures (
      wrote_then c.put-at-3.ensures (
      wrote_then c.put-at-4.ensures (rw c.fragment_word-fragment.ensures at c.put.ensures)))),
)
