-- Iarwennol. Laws of fields that a link packet may carry, and of runs of bytes one after another. Assume nothing.
-- Used by the laws of the layouts.
use Rattle.std.specs.Prelude.{ℕ, ◌+◌, ◌^◌, ◌<◌, ◌≡◌, refl, Bool, true, false, cond, List, [], ◌∷◌, ◌++◌, length, drop}
use Rattle.std.specs.Prelude.{Option, Some, None, is_some, IfSome}
use Rattle.std.specs.Bool.{then_some}
use Rattle.std.proofs.Common.{append_assoc, arith, length-append, pow_pos}
use Rattle.codes.specs.Bytes.{AllBytes, none, more}
use Rattle.codes.specs.BytesLaws.{AllBytes-big_endian}
use Rattle.codes.specs.CodeLaws.{AllBytes-code_of}
use Rattle.codes.specs.Difference.{has_code}
use Rattle.fields.specs.declared.place.Got.{Got}
use Rattle.fields.specs.Place.{good, or_zero}
use Rattle.fields.specs.Next.{next_word, next_long, next_delta16, next_delta32, next_payload}
use Rattle.fields.specs.NextLaws.{next_word-written, next_long-written, next_payload-written}
use Rattle.fields.specs.NextLaws.{next_delta16-written, next_delta32-written}
use Rattle.links.specs.Sent.{whole, whole_byte, delta}

---- runs, one after another

pub length_three : (A B C : List ℕ) (at : ℕ) → at + length A + length B + length C ≡ at + length (A ++ (B ++ C))
length_three A B C at = simp length-append (omega arith)

pub append-three : (A B C l : List ℕ) → (A ++ (B ++ C)) ++ l ≡ A ++ (B ++ (C ++ l))
append-three A B C l = rw (append_assoc, append_assoc)

pub length-four : (A B C D : List ℕ) (at : ℕ) → at + length A + length B + length C + length D ≡ at + length (A ++ (B ++ (C ++ D)))
length-four A B C D at = simp length-append (omega arith)

pub append-four : (A B C D l : List ℕ) → (A ++ (B ++ (C ++ D))) ++ l ≡ A ++ (B ++ (C ++ (D ++ l)))
append-four A B C D l = rw (append_assoc, append_assoc, append_assoc)

---- a field that was written, or was not, is read back

-- what a reader gives of such a field, in bs
abbrev pub back : (at : ℕ) → List ℕ → Option ℕ → Got ℕ
back at bs o = record { place = good (at + length bs); field = o }

module _ (s : List ℕ) (at : ℕ) (l : List ℕ) where
  pub word-back : (o : Option ℕ) → IfSome o (λ v. v < 2 ^ 16) → drop at s ≡ whole 2 o ++ l
      → next_word s (good at) (is_some o) ≡ back at (whole 2 o) o
  word-back (Some v) h e = next_word-written s at true v l h e
  word-back None h e = next_word-written s at false 0 l (omega arith) e

  pub long-back : (o : Option ℕ) → IfSome o (λ v. v < 2 ^ 32) → drop at s ≡ whole 4 o ++ l
      → next_long s (good at) (is_some o) ≡ back at (whole 4 o) o
  long-back (Some v) h e = next_long-written s at true v l h e
  long-back None h e = next_long-written s at false 0 l (omega arith) e

  pub payload-back : (o : Option ℕ) → IfSome o (λ v. v < 2 ^ 7) → drop at s ≡ whole_byte o ++ l
      → next_payload s (good at) (is_some o) ≡ back at (whole_byte o) o
  payload-back (Some v) h e = next_payload-written s at true v l h e
  payload-back None h e = next_payload-written s at false 0 l (omega arith) e

  pub delta16-back : (o : Option ℕ) → IfSome o (λ v. v < 2 ^ 16) → drop at s ≡ delta 16 o ++ l
      → next_delta16 s (good at) (is_some o) ≡ back at (delta 16 o) o
  delta16-back (Some v) h e = next_delta16-written s at true v l h e
  delta16-back None h e = next_delta16-written s at false 0 l (omega arith) e

  pub delta32-back : (o : Option ℕ) → IfSome o (λ v. v < 2 ^ 32) → IfSome o (λ v. has_code 32 v ≡ true)
      → drop at s ≡ delta 32 o ++ l → next_delta32 s (good at) (is_some o) ≡ back at (delta 32 o) o
  delta32-back (Some v) h c e = next_delta32-written s at true v l h (λ t. c) e
  delta32-back None h c e = next_delta32-written s at false 0 l (omega arith) (λ t. cc) e

-- a number that is 0 where it is not carried
pub carried-back : (w : Bool) (v : ℕ) → cond w v 0 ≡ v → or_zero (then_some w v) ≡ v
carried-back true v b = b
carried-back false v b = b

-- the number of a field that may be there fits where the field does
pub zero-fits : (o : Option ℕ) (w : ℕ) → IfSome o (λ v. v < 2 ^ w) → or_zero o < 2 ^ w
zero-fits (Some v) w h = h
zero-fits None w h = pow_pos w

-- a field that is not there
pub unsent : (o : Option ℕ) → is_some o ≡ false → None ≡ o
unsent (Some v) e = cc
unsent None e = refl

---- bytes

pub AllBytes-whole : (n : ℕ) (o : Option ℕ) → AllBytes (whole n o)
AllBytes-whole n (Some v) = AllBytes-big_endian n v
AllBytes-whole n None = none

pub AllBytes-byte : {v : ℕ} → v < 256 → AllBytes (v ∷ [])
AllBytes-byte h = more h none

pub AllBytes-whole_byte : (o : Option ℕ) → or_zero o < 256 → AllBytes (whole_byte o)
AllBytes-whole_byte (Some v) h = more h none
AllBytes-whole_byte None h = none

pub AllBytes-delta : (w : ℕ) (o : Option ℕ) → AllBytes (delta w o)
AllBytes-delta w (Some d) = AllBytes-code_of d w
AllBytes-delta w None = none
