use Rattle.headers.specs.Header.{rtp_fixed}
use native.Mathlib.Omega.{arith}
use Rattle.octets.specs.PutLaws.{wrote_then}
use Rattle.headers_write.proofs.write.put_rtp.Goals as goal

pub returns : goal.returns
unfolding rtp_fixed
returns c = (
  omega arith,
  wrote_then (rw c.pack_first-first.ensures at c.put-at.ensures) (
      wrote_then (rw c.pack_second-second.ensures at c.put-at-2.ensures) (
      wrote_then c.put-at-3.ensures (
      wrote_then c.put-at-4.ensures c.put.ensures))),
)
