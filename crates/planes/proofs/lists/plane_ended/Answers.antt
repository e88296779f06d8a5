use Rattle.std.proofs.Common.{◌∙◌, sym}
use Rattle.planes.proofs.EveryLaws.{free-past}
use Rattle.planes.proofs.lists.plane_ended.Goals as goal

pub returns-then-plane_free : goal.returns-then-plane_free
returns-then-plane_free c = let a = c.args in
    free-past a.f a.c a.w.now a.b.now a.k (sym c.plane_free.ensures ∙ c.if-plane_free.true)
