-- Iarwennol. What a call of an endpoint answers, and what it leaves (rules 3.1, 13.3).
-- Used by the contract of every call: number, type, length, output, both tables and the totals are those of one definition.
use Rattle.std.specs.Prelude.{ℕ, List, Ok, Err}
use Rattle.std.specs.Prelude as std
use Rattle.crtp.specs.Face.{Refusal, refusal_number}
use Rattle.endpoint.specs.declared.answer.Done.{Done}
use Rattle.endpoint.specs.declared.answer.Done.TheVariants.{Opened, Sent, Rebuilt, Requested, Reported}
use Rattle.endpoint.specs.declared.answer.Endpoint.{Endpoint}

-- rules 3.1, 13.3: number (0: accepted), link type and length of what was given out, the output and the endpoint after the call
pub record Result : Type 0 where
  pub number : ℕ
  pub kind : ℕ
  pub length : ℕ
  pub output : List ℕ
  pub endpoint : Endpoint

---- number and values of each outcome

-- what a call answers: what it did, or why it is refused
abbrev pub Outcome : Type 0
Outcome = std.Result Done Refusal

-- rule 3.1
abbrev pub number_of : Outcome → ℕ
number_of (Ok d) = 0
number_of (Err r) = refusal_number r

-- rule 13.3: only a send has a type
abbrev pub type_of : Outcome → ℕ
type_of (Ok Opened) = 0
type_of (Ok (Sent k n)) = k
type_of (Ok (Rebuilt n)) = 0
type_of (Ok Requested) = 0
type_of (Ok (Reported n)) = 0
type_of (Err r) = 0

-- rule 13.3
abbrev pub length_of : Outcome → ℕ
length_of (Ok Opened) = 0
length_of (Ok (Sent k n)) = n
length_of (Ok (Rebuilt n)) = n
length_of (Ok Requested) = 0
length_of (Ok (Reported n)) = n
length_of (Err r) = 0

-- what a call says that answered this, and left this endpoint and this output
abbrev pub said : Outcome → Endpoint → (output : List ℕ) → Result
said o e output = record { number = number_of o; kind = type_of o; length = length_of o; output = output; endpoint = e }
