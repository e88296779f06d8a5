use Prim.Native.Nat.{◌≤◌}
use Rattle.script_text.proofs.number.read.Given as goal

abbrev pub invariant-loop-b : goal.invariant-loop-b
invariant-loop-b l = l.v ≤ 4294967295
