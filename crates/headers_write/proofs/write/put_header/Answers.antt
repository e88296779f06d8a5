use Rattle.headers.specs.Header.{header_bytes}
use native.Mathlib.Omega.{arith}
use Rattle.octets.specs.PutLaws.{wrote_then}
use Rattle.headers_write.proofs.write.put_header.Goals as goal

pub returns : goal.returns
unfolding header_bytes
returns c = (
  omega arith,
  wrote_then c.put_ip_front-at.ensures.1 (
      wrote_then c.put_ip_back-at.ensures.1 (
      wrote_then c.put_udp-at.ensures.1 (
      wrote_then c.put_rtp-at.ensures.1 c.put_list.ensures.1))),
)
