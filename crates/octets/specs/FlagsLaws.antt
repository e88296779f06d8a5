-- Iarwennol. Laws of the flag byte: splitting and packing are inverse, and what is packed is a byte. Assume nothing.
-- Used by the round trips of the link layouts (links) and of the RTP header (headers).
use Rattle.std.specs.Prelude.{ℕ, zero, suc, ◌+◌, ◌*◌, ◌/◌, ◌%◌, ◌≤◌, ◌<◌, ◌≡◌, refl, Bool, true, false, eqb}
use Rattle.std.proofs.Common.{arith}
use Rattle.octets.specs.declared.flags.Flags.{Flags}
use Rattle.octets.specs.Flags.{flags_of, byte_of, digit}

---- digit

-- a digit is read back as its bool
pub digit-back : (b : Bool) (x : ℕ) → x ≡ digit b → eqb x 1 ≡ b
digit-back true x e = rw e
digit-back false x e = rw e

pub digit_lt : (b : Bool) → digit b < 2
digit_lt true = omega arith
digit_lt false = omega arith

-- a bit that was read, as a number
pub digit-eqb : (x : ℕ) → x ≤ 1 → digit (eqb x 1) ≡ x
digit-eqb zero h = refl
digit-eqb (suc zero) h = refl
digit-eqb (suc (suc x)) h = absurd (omega arith)

---- the byte

pub flags_of-byte_of : (f : Flags) → f.low < 16 → flags_of (byte_of f) ≡ f
flags_of-byte_of f h =
    let bit7 = digit_lt f.bit7 in
    let bit6 = digit_lt f.bit6 in
    let bit5 = digit_lt f.bit5 in
    let bit4 = digit_lt f.bit4 in
    let l : byte_of f % 16 ≡ f.low = omega arith in
    let q7 : byte_of f / 128 ≡ digit f.bit7 = omega arith in
    let q6 : byte_of f / 64 ≡ digit f.bit7 * 2 + digit f.bit6 = omega arith in
    let q5 : byte_of f / 32 ≡ (digit f.bit7 * 2 + digit f.bit6) * 2 + digit f.bit5 = omega arith in
    let q4 : byte_of f / 16 ≡ ((digit f.bit7 * 2 + digit f.bit6) * 2 + digit f.bit5) * 2 + digit f.bit4 = omega arith in
    rw (
      l,
      digit-back f.bit7 (byte_of f / 128 % 2) (rw q7 (omega arith)),
      digit-back f.bit6 (byte_of f / 64 % 2) (rw q6 (omega arith)),
      digit-back f.bit5 (byte_of f / 32 % 2) (rw q5 (omega arith)),
      digit-back f.bit4 (byte_of f / 16 % 2) (rw q4 (omega arith)),
    )

pub byte_of-lt : (f : Flags) → f.low < 16 → byte_of f < 256
byte_of-lt f h =
    let bit7 = digit_lt f.bit7 in
    let bit6 = digit_lt f.bit6 in
    let bit5 = digit_lt f.bit5 in
    let bit4 = digit_lt f.bit4 in
    omega arith
