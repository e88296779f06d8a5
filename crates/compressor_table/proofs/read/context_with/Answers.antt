use Rattle.compressor_table.specs.Layout.{context_of}
use Rattle.compressor_table.proofs.read.context_with.Goals as goal

pub returns : goal.returns
unfolding context_of
returns c = rw (
  c.usage_of.ensures,
  c.row_at-3.ensures 0,
  c.row_at-2.ensures 0,
  c.row_at.ensures 0,
  c.flow_at-flow.ensures,
  c.requires.4,
)
