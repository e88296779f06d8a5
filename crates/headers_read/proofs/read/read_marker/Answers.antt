use Rattle.headers.specs.Header.{rtp_at}
use Rattle.headers_read.proofs.read.read_marker.Goals as goal

pub returns : goal.returns
unfolding rtp_at
returns c = rw c.split_second-second.ensures
