use mathlib.Core.Path.{◌≡◌}
use lib.ListN.{length}
use Rattle.planes.specs.Planes.{lent}
use Rattle.decompressor_table.specs.Layout.{table_of}
use Rattle.load.specs.LoadLaws.{Storing}
use Rattle.load.proofs.store.store.Given as goal

abbrev pub invariant-loop-i : goal.invariant-loop-i
invariant-loop-i l =
    (length l.contexts ≡ 64) × Storing (table_of (lent l.initial.w l.initial.h l.initial.b)).settings l.contexts l.i
    (lent l.w l.h l.b)
