use Prim.Native.Nat.{◌≤◌}
use mathlib.Core.Path.{◌≡◌}
use lib.ListN.{length}
use Rattle.report.specs.ReportLaws.{states_before}
use Rattle.report.specs.Told.{told}
use Rattle.report.proofs.count_records.Given as goal

abbrev pub invariant-loop-i : goal.invariant-loop-i
invariant-loop-i l = (l.n ≡ length (states_before (told l.b) l.i)) × (l.n ≤ l.i)
