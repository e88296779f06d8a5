-- Iarwennol. The refusals, and what is found of a packet before its call answers.
-- Which of the numbers (codes/specs/Numbers.antt) each case of the code has, and back.
-- Used by everything that judges, and by the answers of every call.
use Rattle.std.specs.Prelude.{ℕ, Bool, cond, List, [], ◌∷◌, eqb, Result, Ok, Err, is_ok, ⊤}
use Rattle.codes.specs.Numbers.{unsound, bad_length, unknown_type, cut, forbidden, no_such_context, unused_code}
use Rattle.codes.specs.Numbers.{not_live, out_of_step, too_long, no_room, disproved}
use Rattle.codes.specs.declared.cursor.Unreadable.{Unreadable}
use Rattle.codes.specs.declared.cursor.Unreadable.TheVariants as unreadable
use Rattle.packet.specs.declared.refusal.Refusal.{Refusal}
use Rattle.packet.specs.declared.refusal.Refusal.TheVariants.{Unsound, BadLength, UnknownType, Cut, Forbidden, NoSuchContext}
use Rattle.packet.specs.declared.refusal.Refusal.TheVariants.{UnusedCode, NotLive, OutOfStep, TooLong, NoRoom, Disproved}

-- rule 3.1
abbrev pub number_of : Refusal → ℕ
number_of Unsound = unsound
number_of BadLength = bad_length
number_of UnknownType = unknown_type
number_of Cut = cut
number_of Forbidden = forbidden
number_of NoSuchContext = no_such_context
number_of UnusedCode = unused_code
number_of NotLive = not_live
number_of OutOfStep = out_of_step
number_of TooLong = too_long
number_of NoRoom = no_room
number_of Disproved = disproved

-- what is found of a packet, or of the part of it that was looked at so far
abbrev pub Verdict : Type 0
Verdict = Result ⊤ Refusal

-- rule 3.1: 0 where it is accepted
abbrev pub verdict_number : Verdict → ℕ
verdict_number (Ok u) = 0
verdict_number (Err r) = number_of r

-- every refusal, and the verdict that has a number
abbrev pub refusals : List Refusal
refusals = Unsound ∷ BadLength ∷ UnknownType ∷ Cut ∷ Forbidden ∷ NoSuchContext ∷ UnusedCode ∷ NotLive ∷ OutOfStep ∷ TooLong
    ∷ NoRoom ∷ Disproved ∷ []

abbrev pub verdict_among : List Refusal → ℕ → Verdict
verdict_among [] n = Ok tt
verdict_among (r ∷ rs) n = cond (eqb (number_of r) n) (Err r) (verdict_among rs n)

abbrev pub verdict_of : ℕ → Verdict
verdict_of n = verdict_among refusals n

abbrev pub is_accepted : Verdict → Bool
is_accepted v = is_ok v

-- rule 3.1: what a field is refused with that cannot be read
abbrev pub refusal_of : Unreadable → Refusal
refusal_of unreadable.Cut = Cut
refusal_of unreadable.UnusedCode = UnusedCode

-- of two numbers the first that is a refusal's
abbrev pub first_refusal : ℕ → ℕ → ℕ
first_refusal a b = cond (eqb a 0) b a
