use Rattle.std.proofs.Common.{ℕ, eqb, rules}
use Rattle.planes.specs.Planes.{cell}
use Rattle.planes.proofs.lists.plane_free.Goals as goal

pub returns : goal.returns
returns c = c.every_below.ensures (λ (i : ℕ). eqb (cell c.args.w.now c.args.f i) 0) (search rules)
