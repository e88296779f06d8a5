use Rattle.headers.specs.Header.{header_of}
use Rattle.headers_read.proofs.read.header_with.Goals as goal

pub returns : goal.returns
unfolding header_of
returns c =
    rw (
      c.word_at.ensures,
      c.read_marker.ensures,
      c.read_fields-rtp.ensures,
      c.read_ip-ip.ensures,
      c.read_flow-flow.ensures,
      c.requires.1,
    )
