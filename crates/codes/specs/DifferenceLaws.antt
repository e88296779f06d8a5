-- Iarwennol. Laws of differences, each once over the width. Assume nothing.
-- Used by the relation between the two ends (context).
use Rattle.std.specs.Prelude.{◌≡◌, ℕ, ◌+◌, ◌-◌, ◌%◌, ◌^◌, ◌<◌, refl}
use Rattle.std.proofs.Math.Nat.{add-mod-mod, add-mod_right}
use Rattle.std.proofs.Common.{mod-eq_of_lt}
use native.Mathlib.Omega.{arith}
use Rattle.codes.specs.Difference.{difference, sum}

module _ (w : ℕ) where
  ---- sum

  -- a with its difference to b added is b
  pub sum-difference : (a b : ℕ) → a < 2 ^ w → b < 2 ^ w → sum w a (difference w a b) ≡ b
  unfolding difference sum
  sum-difference a b h k =
      let e : a + (b + (2 ^ w - a)) ≡ b + 2 ^ w = omega arith in
      rw (add-mod-mod, e, add-mod_right) (mod-eq_of_lt k)

-- a difference as the sum that it is
pub difference-is : (w a b : ℕ) → difference w a b ≡ (b + (2 ^ w - a)) % 2 ^ w
unfolding difference
difference-is w a b = refl
