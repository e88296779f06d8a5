use borrow.Author.Rules.{rules}
use Rattle.fields.specs.Next.{next_word, next_delta16, next_delta32}
use Rattle.links.specs.Cu.{changes_of}
use Rattle.links_read.proofs.cu.read_changes.Goals as goal

pub returns : goal.returns
unfolding changes_of next_word next_delta16 next_delta32
returns c = search rules
