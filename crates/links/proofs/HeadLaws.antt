-- Iarwennol. How a CU and a CR begin, read back. Assumes nothing.
-- Used by the round trips of CU and CR.
use Rattle.std.specs.Prelude.{ℕ, ◌≤◌, ◌<◌, ◌≡◌, refl, true, List, [], ◌∷◌, length}
use Rattle.std.proofs.Common.{ap, arith}
use Rattle.codes.specs.Reading.{byte_at, read_byte}
use Rattle.octets.specs.declared.flags.Flags.{Flags}
use Rattle.octets.specs.Flags.{byte_of}
use Rattle.octets.specs.FlagsLaws.{flags_of-byte_of}
use Rattle.fields.specs.declared.place.Got.{Got}
use Rattle.fields.specs.Place.{good, or_zero}
use Rattle.fields.specs.Next.{next_as, next_byte}
use Rattle.fields.specs.NextLaws.{left-past, next_byte-written}
use Rattle.fields.proofs.NextRange.{next_byte-within}
use Rattle.links.specs.Head.{context_field, context_of, head_at, head_of}

---- the context number

pub context_of-written : (s : List ℕ) (context : ℕ) (l : List ℕ) → s ≡ context ∷ l → context_of s ≡ context
context_of-written s context l e = ap (λ (g : Got ℕ). or_zero g.field) (next_byte-written s 0 true context l e)

-- whatever the bytes, it is the first of them
pub context_of-first : (s : List ℕ) → context_of s ≡ byte_at s 0
unfolding next_byte next_as read_byte
context_of-first [] = refl
context_of-first (b ∷ s) = context_of-written (b ∷ s) b s refl

---- the flag byte

-- read where the step that read the context number ended
pub head_at-context : (s : List ℕ) (g : Got ℕ) → g ≡ context_field s → head_at s g.place ≡ head_of s
unfolding head_of
head_at-context s g e = ap (λ (x : Got ℕ). head_at s x.place) e

pub head_of-written : (s : List ℕ) (context : ℕ) (f : Flags) (l : List ℕ) → f.low < 16 → s ≡ context ∷ byte_of f ∷ l
    → head_of s ≡ record { place = good 2; flags = f }
unfolding head_of
head_of-written s context f l h e =
    rw (
      next_byte-written s 0 true context (byte_of f ∷ l) e,
      next_byte-written s 1 true (byte_of f) l (left-past s 0 (context ∷ []) (byte_of f ∷ l) e),
      flags_of-byte_of f h,
    )

-- whatever the bytes: the link sequence is below 16, and the reading is not past the end
pub head_of-low : (s : List ℕ) → (head_of s).flags.low < 16
unfolding head_of
head_of-low s = omega arith

pub head_of-within : (s : List ℕ) → (head_of s).place.cursor.at ≤ length s
unfolding head_of
head_of-within s = next_byte-within s (context_field s).place (next_byte-within s (good 0) (omega arith) true) true
