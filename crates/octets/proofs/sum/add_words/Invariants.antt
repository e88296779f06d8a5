use Prim.Native.Nat.{◌+◌, ◌*◌, ◌≤◌}
use mathlib.Core.Path.{◌≡◌}
use lib.ListN.{take}
use Rattle.std.specs.List.{sum_by}
use Rattle.codes.specs.Reading.{word_at}
use Rattle.octets.proofs.sum.add_words.Given as goal

abbrev pub invariant-loop-pair : goal.invariant-loop-pair
invariant-loop-pair l =
    (l.acc ≤ 65535 * (l.pair-index + 1)) × (l.acc ≡ l.start + sum_by (λ p. word_at p 0) (take l.pair-index l.pairs))
