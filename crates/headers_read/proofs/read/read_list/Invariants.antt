use Rattle.headers.specs.Header.{longs}
use lib.ListN.{length, drop, replicate}
use mathlib.Core.List.{◌++◌}
use mathlib.Core.Path.{◌≡◌}
use Prim.Native.Nat.{◌-◌}
use Rattle.headers_read.proofs.read.read_list.Given as goal

abbrev pub invariant-loop-i : goal.invariant-loop-i
invariant-loop-i l = (length l.list ≡ 15) × (l.list ≡ longs l.i (drop l.at l.s) ++ replicate (15 - l.i) 0)
