-- Iarwennol. Laws of the refusals. Assume nothing.
-- Used wherever a call's answer is told from its number.
use Rattle.std.specs.Prelude.{ℕ, ◌≤◌, ◌≡◌, refl, Bool, true, false, cond, eqb, Ok, Err}
use Rattle.std.proofs.Common.{arith, sym, ne_eqb, eqb-true}
use Rattle.std.proofs.lemmas.Bool.{eqb-false}
use Rattle.packet.specs.declared.refusal.Refusal.{Refusal}
use Rattle.packet.specs.declared.refusal.Refusal.TheVariants.{Unsound, BadLength, UnknownType, Cut, Forbidden, NoSuchContext}
use Rattle.packet.specs.declared.refusal.Refusal.TheVariants.{UnusedCode, NotLive, OutOfStep, TooLong, NoRoom, Disproved}
use Rattle.packet.specs.Refusal.{Verdict, number_of, verdict_number, verdict_of, is_accepted, first_refusal}

-- no refusal has the number of an acceptance
pub number_of-least : (r : Refusal) → 1 ≤ number_of r
number_of-least Unsound = omega arith
number_of-least BadLength = omega arith
number_of-least UnknownType = omega arith
number_of-least Cut = omega arith
number_of-least Forbidden = omega arith
number_of-least NoSuchContext = omega arith
number_of-least UnusedCode = omega arith
number_of-least NotLive = omega arith
number_of-least OutOfStep = omega arith
number_of-least TooLong = omega arith
number_of-least NoRoom = omega arith
number_of-least Disproved = omega arith

-- so a call that goes by the number takes it for a refusal
pub number_of-refused : (r : Refusal) → eqb (number_of r) 0 ≡ false
number_of-refused r = ne_eqb (number_of r) 0 (λ e. omega (arith, number_of-least r))

-- what is accepted is told by its number, 0
pub is_accepted-number : (v : Verdict) → is_accepted v ≡ eqb (verdict_number v) 0
is_accepted-number (Ok u) = refl
is_accepted-number (Err r) = sym (number_of-refused r)

-- a refusal is told from its number
pub verdict_of-number_of : (r : Refusal) → verdict_of (number_of r) ≡ Err r
verdict_of-number_of Unsound = refl
verdict_of-number_of BadLength = refl
verdict_of-number_of UnknownType = refl
verdict_of-number_of Cut = refl
verdict_of-number_of Forbidden = refl
verdict_of-number_of NoSuchContext = refl
verdict_of-number_of UnusedCode = refl
verdict_of-number_of NotLive = refl
verdict_of-number_of OutOfStep = refl
verdict_of-number_of TooLong = refl
verdict_of-number_of NoRoom = refl
verdict_of-number_of Disproved = refl

first_by : (t : Bool) (a b : ℕ) → eqb a 0 ≡ t → cond t b a ≡ 0 → (a ≡ 0) × (b ≡ 0)
first_by true a b t e = (eqb-true a 0 t, e)
first_by false a b t e = (e, absurd (eqb-false a 0 t e))

pub first_refusal-accepted : (a b : ℕ) → first_refusal a b ≡ 0 → (a ≡ 0) × (b ≡ 0)
first_refusal-accepted a b e = first_by (eqb a 0) a b refl e
