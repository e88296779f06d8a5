-- Iarwennol. How a CU and a CR begin (rules 6.2, 6.3): the context number, then a flag byte whose number is the link sequence.
-- Used by the decompressor, which judges the context between the two.
use Rattle.std.specs.Prelude.{ℕ, true, List, [], ◌∷◌}
use Rattle.octets.specs.declared.flags.Flags.{Flags}
use Rattle.octets.specs.Flags.{flags_of, byte_of}
use Rattle.fields.specs.declared.place.Place.{Place}
use Rattle.fields.specs.declared.place.Got.{Got}
use Rattle.fields.specs.Place.{good, or_zero}
use Rattle.fields.specs.Next.{next_byte}
use Rattle.links.specs.declared.head.Head.{Head}

---- bytes

-- rules 6.2, 6.3
abbrev pub head_bytes : (context : ℕ) → Flags → List ℕ
head_bytes context f = context ∷ byte_of f ∷ []

---- reader

-- rules 6.2, 6.3: the context number, read from the first byte on, and the place past it
abbrev pub context_field : List ℕ → Got ℕ
context_field s = next_byte s (good 0) true

abbrev pub context_of : List ℕ → ℕ
context_of s = or_zero (context_field s).field

-- rules 6.2, 6.3: the flag byte that stands at p, and the place past it
abbrev pub head_at : List ℕ → Place → Head
head_at s p = let flags : Got ℕ = next_byte s p true in record { place = flags.place; flags = flags_of (or_zero flags.field) }

-- rules 6.2, 6.3
unfoldable pub head_of : List ℕ → Head
head_of s = head_at s (context_field s).place
