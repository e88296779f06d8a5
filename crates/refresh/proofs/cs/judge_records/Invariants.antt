use Rattle.links.specs.Cs.{records_judged}
use mathlib.Core.Path.{◌≡◌}
use Prim.Native.Nat.{◌-◌}
use Rattle.refresh.proofs.cs.judge_records.Given as goal

abbrev pub invariant-loop-i : goal.invariant-loop-i
invariant-loop-i l = records_judged l.contexts l.s 0 l.n ≡ records_judged l.contexts l.s l.i (l.n - l.i)
