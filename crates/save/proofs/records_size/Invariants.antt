use Prim.Native.Nat.{◌≤◌, ◌*◌}
use mathlib.Core.Path.{◌≡◌}
use lib.ListN.{length, take}
use Rattle.planes.specs.Planes.{lent}
use Rattle.decompressor_table.specs.Layout.{table_of}
use Rattle.saves.specs.Saves.{records_bytes}
use Rattle.save.proofs.records_size.Given as goal

abbrev pub invariant-loop-i : goal.invariant-loop-i
invariant-loop-i l =
    (l.size ≡ length (records_bytes (take l.i (table_of (lent l.w l.h l.b)).contexts))) × (l.size ≤ 110 * l.i)
