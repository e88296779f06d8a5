-- Iarwennol. Laws of the settings.
-- The bounds that settings in range have. Assume nothing.
-- Used by the proof of open, and by the tables, whose code may rely on these bounds.
use Rattle.std.specs.Prelude.{ℕ, ◌≤◌, ◌≡◌, true, ◌&&◌, leb}
use Rattle.std.proofs.Math.Bool.{and-eq-true_iff}
use Rattle.std.proofs.Common.{leb-true, le-leb}
use Rattle.settings.specs.Settings.{in_range, length_allowed}

---- in_range

module _ (n k : ℕ) (e : in_range n k ≡ true) where
  lower : (leb n 14 ≡ true) × (leb 1 k ≡ true)
  lower = (and-eq-true_iff (leb n 14) (leb 1 k)).0 ((and-eq-true_iff (leb n 14 && leb 1 k) (leb k 64)).0 e).0

  pub range-repeats : n ≤ 14
  range-repeats = leb-true n 14 lower.0

  pub range-least : 1 ≤ k
  range-least = leb-true 1 k lower.1

  pub range-most : k ≤ 64
  range-most = leb-true k 64 ((and-eq-true_iff (leb n 14 && leb 1 k) (leb k 64)).0 e).1

---- length_allowed

pub length_allowed-true : (n : ℕ) → length_allowed n ≡ true → (1 ≤ n) × (n ≤ 1500)
length_allowed-true n e = let p = (and-eq-true_iff (leb 1 n) (leb n 1500)).0 e in (leb-true 1 n p.0, leb-true n 1500 p.1)

pub length_allowed-made : (n : ℕ) → 1 ≤ n → n ≤ 1500 → length_allowed n ≡ true
length_allowed-made n least most = rw (le-leb 1 n least, le-leb n 1500 most)
