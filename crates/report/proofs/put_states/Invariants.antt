use Rattle.octets.specs.Put.{Wrote}
use Rattle.links.specs.Cs.{records_bytes}
use Rattle.report.specs.ReportLaws.{states_before}
use Rattle.report.specs.Told.{told}
use Rattle.report.proofs.put_states.Given as goal

abbrev pub invariant-loop-i : goal.invariant-loop-i
invariant-loop-i l = Wrote l.initial.out l.out l.at l.o (records_bytes (states_before (told l.b) l.i))
