-- Iarwennol. Bits joined by | that have different places. Assumes nothing.
-- Used by the proofs of functions that pack bits, here and in the crates above.
use Prim.Native.Nat.{ℕ, ◌+◌, ◌*◌, ◌^◌, ◌<◌}
use mathlib.Core.Path.{◌≡◌, refl}
use mathlib.Core.Bool.{Bool, true, false}
use lib.Dec.{lit<}
use mir.Val.{bool_byte}
use lib.Bits.{bit_or, or_shifted}
use Rattle.octets.specs.Flags.{digit}

pub or-place : (x a k b : ℕ) → x ≡ a * 2 ^ k → b < 2 ^ k → bit_or x b ≡ x + b
or-place x a k b e h = rw e (or_shifted a k b h)

-- a bool as a number is below 2
pub bool_lt : (b : Bool) → bool_byte b < 2
bool_lt true = lit< tt
bool_lt false = lit< tt

pub bool-digit : (b : Bool) → bool_byte b ≡ digit b
bool-digit true = refl
bool-digit false = refl
