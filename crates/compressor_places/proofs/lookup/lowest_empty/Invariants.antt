use Prim.Native.Nat.{◌≤◌, ◌-◌}
use mathlib.Core.Path.{◌≡◌}
use lib.ListN.{length}
use Rattle.planes.specs.Planes.{lent}
use Rattle.compressor.specs.Lookup.{lowest}
use Rattle.compressor.specs.Table.{is_empty}
use Rattle.compressor_table.specs.Layout.{table_of}
use Rattle.compressor_places.proofs.lookup.lowest_empty.Given as goal

abbrev pub invariant-loop-i : goal.invariant-loop-i
invariant-loop-i l = (l.k ≤ 64) × (length l.b ≡ 1282) × (lowest is_empty (table_of (lent l.w l.h l.b)).contexts 0 l.k
    ≡ lowest is_empty (table_of (lent l.w l.h l.b)).contexts l.i (l.k - l.i))
