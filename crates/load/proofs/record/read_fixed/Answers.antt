use Rattle.std.proofs.Common.{rules}
use Rattle.fields.specs.Next.{next_byte, next_word, next_long}
use Rattle.saves.specs.Saves.{fixed_of}
use Rattle.load.proofs.record.read_fixed.Goals as goal

pub returns : goal.returns
unfolding fixed_of next_byte next_word next_long
returns c = search rules
