use Rattle.std.proofs.Common.{rules}
use Rattle.context.specs.Compressor.{step_of, sent_with, moved}
use Rattle.compress.proofs.step.next_packet.Goals as goal

pub returns : goal.returns
unfolding step_of sent_with moved
returns c = search rules
