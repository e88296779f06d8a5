use Rattle.std.proofs.Common.{ℕ, rules}
use Rattle.planes.specs.Planes.{every, past_at}
use Rattle.planes.proofs.lists.are_ended.Goals as goal

pub returns : goal.returns
returns c = let a = c.args in
    c.every_below.ensures (λ (k : ℕ). every (past_at a.f a.c a.w.now a.b.now k) 64) (search rules)
