use Rattle.std.proofs.Common.{rules}
use Rattle.planes.specs.Planes.{past_at}
use Rattle.planes.proofs.lists.plane_past.Goals as goal

pub returns : goal.returns
returns c = let a = c.args in
    c.every_below.ensures (past_at a.f a.c a.w.now a.b.now a.k) (search rules)
