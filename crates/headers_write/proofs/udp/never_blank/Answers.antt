use native.Mathlib.Omega.{arith}
use Rattle.headers.proofs.UdpChecksumLaws.{never_blank-same}
use Rattle.headers_write.proofs.udp.never_blank.Goals as goal

pub returns-else-x-eq0 : goal.returns-else-x-eq0
returns-else-x-eq0 c = never_blank-same c.args.x (omega (arith, c.if-x-eq0.false))
