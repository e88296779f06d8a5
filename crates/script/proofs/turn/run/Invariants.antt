use Rattle.std.proofs.Common.{length, ◌≤◌}
use Rattle.script.proofs.turn.run.Given as goal

abbrev pub invariant-loop : goal.invariant-loop
invariant-loop l = (l.s.start ≤ l.s.filled) × (l.s.filled ≤ length l.buf)
