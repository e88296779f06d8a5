use native.Mathlib.Nat.{sub-zero}
use native.Mathlib.Omega.{arith}
use Rattle.octets.specs.PutLaws.{wrote_then, wrote-taken}
use Rattle.headers_write.proofs.udp.sum_header.Goals as goal

pub returns : goal.returns
returns c =
    let w = wrote_then c.put_pseudo-at.ensures.1 (
    wrote_then c.put_udp-at.ensures.1 (
    wrote_then c.put_rtp-at.ensures.1 c.put_list-at.ensures.1)) in
    rw (c.sum.ensures, sub-zero, wrote-taken w (omega (arith, w.ends)))
