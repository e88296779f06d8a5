use Rattle.saves.specs.Saves.{records_of}
use lib.ListN.{length}
use mathlib.Core.Path.{◌≡◌}
use Rattle.load.proofs.read_records.Given as goal

abbrev pub invariant-loop-i : goal.invariant-loop-i
invariant-loop-i l =
    (length l.contexts ≡ 64) × (record { place = l.at; contexts = l.contexts } ≡ records_of l.s l.initial.at l.i)
