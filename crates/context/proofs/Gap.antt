-- Iarwennol. Laws of the gap.
-- What becomes of a CU or CR, and what an accepted one tells. Assume nothing.
-- Used by the law of a packet that arrives, and by the code, which makes g - 1 steps only of an accepted packet.
use Prim.Native.Nat.{ℕ, zero, suc, ◌+◌, ◌%◌, ◌≤◌, ◌<◌}
use mathlib.Core.Path.{◌≡◌, refl}
use mathlib.Core.Bool.{Bool, true, false, cond, true≢false}
use native.Mathlib.Omega.{arith}
use borrow.Author.Tests.{le-ltb, ne_eqb}
use Rattle.codes.specs.Numbers.{out_of_step}
use Rattle.packet.specs.declared.parts.Parts.{Parts}
use Rattle.context.specs.Field.{gap}
use Rattle.context.specs.Decompressor.{furthest, is_out_of_step, gap_judged, gap_of, advanced, accepted_as, settled, applied}
use Rattle.context.specs.declared.decompressor.DecompressorContext.{DecompressorContext}

---- gap_judged

in_step : (n g : ℕ) → is_out_of_step n g ≡ false → 1 ≤ g
in_step n zero e = absurd (true≢false e)
in_step n (suc g) e = omega arith

judged-by : (b : Bool) (n g : ℕ) → is_out_of_step n g ≡ b → cond b out_of_step 0 ≡ 0 → 1 ≤ g
judged-by true n g e h = absurd (omega arith)
judged-by false n g e h = in_step n g e

-- an accepted packet is a step on, or more
pub gap_judged-accepted : (n g : ℕ) → gap_judged n g ≡ 0 → 1 ≤ g
unfolding gap_judged
gap_judged-accepted n g e = judged-by (is_out_of_step n g) n g refl e

---- gap

-- with j packets lost between the two
pub gap-lost : (a b j : ℕ) → j ≤ 14 → a < 16 → b ≡ (a + j + 1) % 16 → gap a b ≡ suc j
unfolding gap
gap-lost a b j h k e = let x : a % 16 ≡ a = omega arith in let y : b % 16 ≡ b = omega arith in rw (x, y) (omega arith)

-- n lost are not too many
gap-in-step : (n j g : ℕ) → g ≡ suc j → j ≤ n → gap_judged n g ≡ 0
unfolding gap_judged
gap-in-step n j g e few = rw (e, ne_eqb (suc j) 0 (omega arith), le-ltb (furthest n) (suc j) (omega arith))

---- applied

pub applied-in-step : (n j q : ℕ) (v w : DecompressorContext) (p : Parts) → gap_of q v ≡ suc j → j ≤ n → advanced (suc j) q v p ≡ w
    → applied n q v p ≡ accepted_as (suc j) w
unfolding applied settled
applied-in-step n j q v w p hg few a = rw (gap-in-step n j (gap_of q v) hg few, hg, a)
