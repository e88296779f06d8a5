-- Iarwennol. The answer of a call in one number of 64 bits, for callers from C and Rust (rule 3.1).
-- Used by the contract of every call that is exported.
use Rattle.std.specs.Prelude.{ℕ, ◌+◌, ◌*◌, ◌%◌, ◌≡◌, List}
use Rattle.crtp.specs.Face as crtp
use Rattle.crtp.specs.Face.{Lent, CompressorOutcome, DecompressorOutcome, compressor_of, decompressor_of}
use Rattle.endpoint.specs.Answer.{Outcome}
use Rattle.endpoint.specs.Answer as endpoint
use Rattle.endpoint.specs.declared.answer.Endpoint.{Endpoint}
use Rattle.endpoint.specs.Lent.{Ends, ends, endpoint_of}

-- number in the lowest 8 bits, link type in the next 8, length in the 48 above
abbrev pub packed : (number kind length : ℕ) → ℕ
packed n k l = n + (256 * k + 65536 * (l % 281474976710656))

abbrev pub sent_packed : CompressorOutcome → ℕ
sent_packed o = packed (crtp.sending.number_of o) (crtp.sending.type_of o) (crtp.sending.length_of o)

abbrev pub given_packed : DecompressorOutcome → ℕ
given_packed o = packed (crtp.receiving.number_of o) 0 (crtp.receiving.length_of o)

abbrev pub answer_packed : Outcome → ℕ
answer_packed o = packed (endpoint.number_of o) (endpoint.type_of o) (endpoint.length_of o)

-- what a call did that answered the number r: the same as the call of crtp or endpoint that it stands for
pub record SentAs (before after : Lent) (r : ℕ) (output : List ℕ) (want : crtp.sending.Result) : Type 0 where
  pub answer : r ≡ packed want.number want.kind want.length
  pub gave : output ≡ want.output
  pub table : compressor_of after ≡ want.table
  pub keeps : (want.number ≡ 0 → ⊥) → after ≡ before

pub record GivenAs (before after : Lent) (r : ℕ) (output : List ℕ) (want : crtp.receiving.Result) : Type 0 where
  pub answer : r ≡ packed want.number 0 want.length
  pub gave : output ≡ want.output
  pub table : decompressor_of after ≡ want.table
  pub keeps : (want.number ≡ 0 → ⊥) → want.table ≡ decompressor_of before → after ≡ before

pub record AnsweredAs (before after : Ends) (r : ℕ) (output : List ℕ) (want : endpoint.Result) : Type 0 where
  pub answer : r ≡ packed want.number want.kind want.length
  pub gave : output ≡ want.output
  pub endpoint : endpoint_of after ≡ want.endpoint
  pub sender : (want.number ≡ 0 → ⊥) → want.endpoint.compressor ≡ (endpoint_of before).compressor → after.sender ≡ before.sender
  pub receiver :
      (want.number ≡ 0 → ⊥) → want.endpoint.decompressor ≡ (endpoint_of before).decompressor → after.receiver ≡ before.receiver

-- a call that is handed one end: whatever the other holds
abbrev pub SenderAs : (before after : Lent) → (totals totals' : List ℕ) → ℕ → List ℕ → (Endpoint → endpoint.Result) → Type 0
SenderAs before after totals totals' r output f =
    (d : Lent) → AnsweredAs (ends before d totals) (ends after d totals') r output (f (endpoint_of (ends before d totals)))

abbrev pub ReceiverAs : (before after : Lent) → (totals totals' : List ℕ) → ℕ → List ℕ → (Endpoint → endpoint.Result) → Type 0
ReceiverAs before after totals totals' r output f =
    (c : Lent) → AnsweredAs (ends c before totals) (ends c after totals') r output (f (endpoint_of (ends c before totals)))
