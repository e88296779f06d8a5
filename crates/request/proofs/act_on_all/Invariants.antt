use Rattle.planes.specs.Planes.{lent}
use Rattle.request.proofs.Acting.{Acted}
use Rattle.request.proofs.act_on_all.Given as goal

abbrev pub invariant-loop-i : goal.invariant-loop-i
invariant-loop-i l = Acted (lent l.initial.w l.initial.h l.initial.b) (lent l.w l.h l.b) l.s l.i
