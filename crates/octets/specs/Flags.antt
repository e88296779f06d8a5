-- Iarwennol. The flag byte, its bits from the top down (rules 6.2, 6.3, 6.6, 6.7).
-- Used by the link layouts (links), each of which names the bits.
use Rattle.std.specs.Prelude.{ℕ, ◌+◌, ◌*◌, ◌/◌, ◌%◌, ◌^◌, Bool, true, false, eqb}
use Rattle.octets.specs.declared.flags.Flags.{Flags}

-- bit k of a number, counted from the lowest
abbrev pub bit_at : ℕ → ℕ → Bool
bit_at k b = eqb (b / 2 ^ k % 2) 1

abbrev pub digit : Bool → ℕ
digit true = 1
digit false = 0

-- rule 6.7: four bits from the top down, and the number that the other four are
abbrev pub flags_of : ℕ → Flags
flags_of b = record { bit7 = bit_at 7 b; bit6 = bit_at 6 b; bit5 = bit_at 5 b; bit4 = bit_at 4 b; low = b % 16 }

abbrev pub byte_of : Flags → ℕ
byte_of f = digit f.bit7 * 128 + digit f.bit6 * 64 + digit f.bit5 * 32 + digit f.bit4 * 16 + f.low
