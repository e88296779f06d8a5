use Rattle.decompressor_table.specs.Layout.{context_of}
use Rattle.decompressor_table.proofs.read.context_at.Goals as goal

pub returns : goal.returns
unfolding context_of
returns c = rw (
  c.status_of.ensures,
  c.row_at-3.ensures 0,
  c.row_at-2.ensures 0,
  c.row_at-words.ensures 0,
  c.row_at.ensures 0,
  c.flow_at-flow.ensures,
)
