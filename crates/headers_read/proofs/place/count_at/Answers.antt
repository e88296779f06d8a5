use Rattle.headers.specs.declared.rtp.RtpFirst.{RtpFirst}
use mathlib.Core.Path.{ap}
use Rattle.headers_read.proofs.place.count_at.Goals as goal

pub returns : goal.returns
returns c = (ap (λ (f : RtpFirst). f.count) c.split_first-first.ensures.0, c.split_first-first.ensures.1)
