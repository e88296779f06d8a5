use Rattle.octets.proofs.Bits.{bool_lt}
use borrow.Author.Rules.{rules}
use Rattle.octets.proofs.flags.pack.Goals as goal

pub shifted-requires : goal.shifted-requires
shifted-requires c = search (rules, bool_lt)
