use Prim.Native.Nat.{◌+◌}
use mathlib.Core.Path.{◌≡◌}
use lib.ListN.{drop}
use Rattle.planes.specs.Planes.{replaced}
use Rattle.planes.proofs.row.put_row.Given as goal

abbrev pub invariant-loop-p : goal.invariant-loop-p
invariant-loop-p g l = replaced l.fn.planes l.i l.f l.row ≡ replaced l.planes l.i (l.f + l.p) (drop l.p l.row)
