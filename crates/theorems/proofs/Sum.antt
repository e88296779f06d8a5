-- Iarwennol. The law of the ones' complement sum, and what its words say, as it was asked for.
-- Proved by that of `octets`.
use Prim.Native.Nat.{ℕ, ◌+◌, ◌/◌, ◌%◌, ◌≤◌, ◌<◌}
use mathlib.Core.Path.{◌≡◌, refl}
use mathlib.Core.List.{List, [], ◌∷◌}
use lib.ListN.{length}
use Rattle.octets.specs.Sum.{plus, sum_of, total, AllWords, none, more}
use Rattle.octets.specs.SumLaws.{sum_of-at-end}

abbrev fold : ℕ → ℕ
fold t = t % 65536 + t / 65536

-- for up to 800 words folding at the end, which is folding twice, gives what folding after every addition gives
at-end-asked : (start : ℕ) (ws : List ℕ) → start < 65536 → AllWords ws → length ws ≤ 800
    → sum_of start ws ≡ fold (fold (start + total ws))
at-end-asked start ws h a k = sum_of-at-end start h a k

-- which sum_of does, and total does not
none-asked : (start : ℕ) → sum_of start [] ≡ start
none-asked start = refl

every-asked : (start w : ℕ) (ws : List ℕ) → sum_of start (w ∷ ws) ≡ sum_of (fold (start + w)) ws
unfolding plus
every-asked start w ws = refl

total-asked : (w : ℕ) (ws : List ℕ) → total (w ∷ ws) ≡ w + total ws
total-asked w ws = refl

-- any list of numbers of 16 bits
words-asked : {w : ℕ} {ws : List ℕ} → w < 65536 → AllWords ws → AllWords (w ∷ ws)
words-asked h a = more h a

no-words-asked : AllWords []
no-words-asked = none
