use Rattle.octets.specs.Sum.{plus}
use borrow.Author.Rules.{rules}
use Rattle.bench_sum.proofs.former.add.Goals as goal

pub returns : goal.returns
unfolding plus
returns c = search rules
