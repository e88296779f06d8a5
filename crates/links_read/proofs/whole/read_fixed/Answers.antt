use borrow.Author.Rules.{rules}
use Rattle.fields.specs.Next.{next_byte, next_word, next_long}
use Rattle.links.specs.Whole.{fixed_of}
use Rattle.links_read.proofs.whole.read_fixed.Goals as goal

pub returns : goal.returns
unfolding fixed_of next_byte next_word next_long
returns c = search rules
