use Prim.Native.Nat.{◌≤◌, ◌-◌}
use mathlib.Core.Path.{◌≡◌}
use Rattle.planes.specs.Planes.{lent}
use Rattle.compressor.specs.Lookup.{lowest, is_of}
use Rattle.compressor_table.specs.Layout.{table_of}
use Rattle.compressor_places.proofs.lookup.lowest_of.Given as goal

abbrev pub invariant-loop-i : goal.invariant-loop-i
invariant-loop-i l = (l.k ≤ 64) × (lowest (is_of l.f) (table_of (lent l.w l.h l.b)).contexts 0 l.k
    ≡ lowest (is_of l.f) (table_of (lent l.w l.h l.b)).contexts l.i (l.k - l.i))
