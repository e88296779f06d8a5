use Rattle.headers.specs.Header.{rtp_at}
use Rattle.headers.specs.declared.rtp.RtpFirst.{RtpFirst}
use native.Mathlib.Omega.{arith}
use mathlib.Core.Path.{ap}
use Rattle.headers_read.proofs.read.read_rtp_list.Goals as goal

pub read_list-requires : goal.read_list-requires
read_list-requires c =
    let e = ap (λ (f : RtpFirst). f.count) c.split_first-first.ensures.0 in (omega arith, omega arith)

pub returns : goal.returns
unfolding rtp_at
returns c = rw (c.read_list.ensures, c.split_first-first.ensures.0)
