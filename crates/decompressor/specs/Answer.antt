-- Iarwennol. What a call of the decompressor answers, and what it leaves (rules 3.1, 3.5).
-- Used by the contract of every call: number, length, output and table are those of one definition.
use Rattle.std.specs.Prelude.{ℕ, cond, List, ltb, length}
use Rattle.codes.specs.Numbers.{no_room}
use Rattle.octets.specs.Put.{fronted}
use Rattle.packet.specs.Refusal as refusal
use Rattle.std.specs.Prelude as std
use Rattle.std.specs.Prelude.{Ok, Err}
use Rattle.packet.specs.declared.refusal.Refusal.{Refusal}
use Rattle.decompressor.specs.declared.table.Table.{Table}

-- rule 3.1: number (0: accepted), length of what was given out, the output after the call, the table after the call
pub record Result : Type 0 where
  pub number : ℕ
  pub length : ℕ
  pub output : List ℕ
  pub table : Table

-- rule 3.5: the bytes at the front of the output
abbrev pub accepted : Table → (bytes output : List ℕ) → Result
accepted t bytes output = record { number = 0; length = length bytes; output = fronted output bytes; table = t }

-- rule 3.1: length 0, output as it was; t: the table as it was, or with the context broken (8, 9, 12)
abbrev pub refused : Table → (number : ℕ) → (output : List ℕ) → Result
refused t n output = record { number = n; length = 0; output = output; table = t }

-- rule 3.1: 11 where the output has fewer bytes than the result, and the table stays
abbrev pub delivered : (before after : Table) → (bytes output : List ℕ) → Result
delivered before after bytes output = cond (ltb (length output) (length bytes)) (refused before no_room output)
    (accepted after bytes output)

---- number and values of each outcome

-- what a call answers: the length of what was given out, or why it is refused
abbrev pub Outcome : Type 0
Outcome = std.Result ℕ Refusal

-- rule 3.1
abbrev pub number_of : Outcome → ℕ
number_of (Ok n) = 0
number_of (Err r) = refusal.number_of r

abbrev pub length_of : Outcome → ℕ
length_of (Ok n) = n
length_of (Err r) = 0

-- what a call says that answered this, and left this table and this output
abbrev pub said : Outcome → Table → (output : List ℕ) → Result
said o t output = record { number = number_of o; length = length_of o; output = output; table = t }
