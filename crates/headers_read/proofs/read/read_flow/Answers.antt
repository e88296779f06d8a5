use Rattle.headers.specs.Header.{flow_of}
use Rattle.headers_read.proofs.read.read_flow.Goals as goal

pub returns : goal.returns
unfolding flow_of
returns c =
    rw (
      c.long_at-3.ensures,
      c.word_at-2.ensures,
      c.word_at.ensures,
      c.long_at-2.ensures,
      c.long_at.ensures,
    )
