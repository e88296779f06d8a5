use Rattle.headers.specs.Header.{rtp_at}
use Rattle.headers_read.proofs.read.read_rtp.Goals as goal

pub returns : goal.returns
unfolding rtp_at
returns c = rw (
  c.read_marker.ensures,
  c.long_at.ensures,
  c.read_rtp_list-list.ensures,
  c.read_fields-fields.ensures,
)
