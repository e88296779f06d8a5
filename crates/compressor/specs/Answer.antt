-- Iarwennol. What a call of the compressor answers, and what it leaves (rules 3.1, 3.5).
-- Used by the contract of every call: number, type, length, output and table are those of one definition.
use Rattle.std.specs.Prelude.{ℕ, cond, List, ltb, length}
use Rattle.codes.specs.Numbers.{no_room}
use Rattle.octets.specs.Put.{fronted}
use Rattle.packet.specs.Refusal as refusal
use Rattle.std.specs.Prelude as std
use Rattle.std.specs.Prelude.{Ok, Err}
use Rattle.packet.specs.declared.refusal.Refusal.{Refusal}
use Rattle.compressor.specs.declared.table.Table.{Table}

-- rule 3.1: number (0: accepted), link type and length of what was given out, the output after the call, the table after the call
pub record Result : Type 0 where
  pub number : ℕ
  pub kind : ℕ
  pub length : ℕ
  pub output : List ℕ
  pub table : Table

-- rule 3.5: the bytes at the front of the output
abbrev pub accepted : Table → (kind : ℕ) → (bytes output : List ℕ) → Result
accepted t k bytes output = record { number = 0; kind = k; length = length bytes; output = fronted output bytes; table = t }

-- rule 3.1: type 0, length 0, table and output as they were
abbrev pub refused : Table → (number : ℕ) → (output : List ℕ) → Result
refused t n output = record { number = n; kind = 0; length = 0; output = output; table = t }

-- rule 3.1: 11 where the output has fewer bytes than the result, and the table stays
abbrev pub delivered : (before after : Table) → (kind : ℕ) → (bytes output : List ℕ) → Result
delivered before after k bytes output = cond (ltb (length output) (length bytes)) (refused before no_room output)
    (accepted after k bytes output)

---- number and values of each outcome

-- what a call answers: the link type and the length of what was given out, or why it is refused
abbrev pub Outcome : Type 0
Outcome = std.Result (ℕ × ℕ) Refusal

-- rule 3.1
abbrev pub number_of : Outcome → ℕ
number_of (Ok (k, n)) = 0
number_of (Err r) = refusal.number_of r

abbrev pub type_of : Outcome → ℕ
type_of (Ok (k, n)) = k
type_of (Err r) = 0

abbrev pub length_of : Outcome → ℕ
length_of (Ok (k, n)) = n
length_of (Err r) = 0

-- what a call says that answered this, and left this table and this output
abbrev pub said : Outcome → Table → (output : List ℕ) → Result
said o t output = record { number = number_of o; kind = type_of o; length = length_of o; output = output; table = t }
