use Prim.Native.Nat.{ℕ, zero, suc, ◌+◌, ◌*◌, ◌/◌, ◌≤◌, ◌<◌}
use mathlib.Core.Path.{◌≡◌, refl}
use mathlib.Core.List.{List, [], ◌∷◌}
use native.Mathlib.Omega.{arith}
use lib.ListN.{length, drop}
use Rattle.std.proofs.Common.{None, Some}
use Rattle.std.specs.List.{slice_get}
use Rattle.std.specs.Simd.{first_chunks}
use Rattle.std.specs.List.{sum_by}
use Rattle.std.proofs.lemmas.List.Sums.{sum_by-cons}
use Rattle.std.proofs.lemmas.List.{take_all}
use Rattle.codes.specs.Reading.{word_at}
use Rattle.octets.specs.Sum.{words_of, total}
use Rattle.octets.proofs.sum.add_words.Goals as goal

-- the first pairs of bytes, then the words of the rest
pairs_then : (k : ℕ) (s : List ℕ) → k * 2 ≤ length s
    → total (words_of s) ≡ sum_by (λ p. word_at p 0) (first_chunks 2 k s) + total (words_of (drop (k * 2) s))
pairs_then zero s h = omega arith
pairs_then (suc k) [] h = absurd (omega arith)
pairs_then (suc k) (a ∷ []) h = absurd (omega arith)
pairs_then (suc k) (a ∷ b ∷ s) h =
    let n : suc k * 2 ≡ suc (suc (k * 2)) = omega arith in
    rw (n, pairs_then k s (omega arith), sum_by-cons (λ p. word_at p 0) (a ∷ b ∷ []) (first_chunks 2 k s)) (omega arith)

-- the byte past the pairs
words_of_none : (s : List ℕ) → None ≡ slice_get s 0 → words_of s ≡ []
words_of_none [] h = refl
words_of_none (a ∷ s) h = cc

words_of_one : (s : List ℕ) (b : ℕ) → length s < 2 → Some b ≡ slice_get s 0 → total (words_of s) ≡ b * 256
words_of_one [] b n h = cc
words_of_one (a ∷ []) b n h = let e : b ≡ a = cc in omega arith
words_of_one (a ∷ x ∷ s) b n h = absurd (omega arith)

pub returns-in-None : goal.returns-in-None
returns-in-None c =
    let s = c.args.block.now in
    let e = pairs_then (length s / 2) s (omega arith) in
    rw (
      c.loop-pair.invariant.1,
      take_all c.loop-pair.pair-index c.as_chunks.result.0.now (omega arith),
      c.as_chunks.ensures.front,
      e,
      ← c.as_chunks.ensures.back,
      words_of_none _ c.in-None.ensures.value,
    )
    (omega arith)

pub returns-in-Some : goal.returns-in-Some
returns-in-Some c =
    let s = c.args.block.now in
    let e = pairs_then (length s / 2) s (omega arith) in
    rw (
      c.loop-pair.invariant.1,
      take_all c.loop-pair.pair-index c.as_chunks.result.0.now (omega arith),
      c.as_chunks.ensures.front,
      e,
      ← c.as_chunks.ensures.back,
      words_of_one _ _ (omega arith) c.in-Some.ensures.value,
    )
    (omega arith)
