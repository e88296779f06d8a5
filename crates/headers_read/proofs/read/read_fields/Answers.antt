use Rattle.headers.specs.Header.{rtp_at}
use Rattle.headers_read.proofs.read.read_fields.Goals as goal

pub returns : goal.returns
unfolding rtp_at
returns c = rw (
  c.long_at.ensures,
  c.word_at.ensures,
  c.split_second-second.ensures,
  c.split_first-first.ensures.0,
)
