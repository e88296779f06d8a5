-- Iarwennol. Laws of the RTP header's first two bytes: splitting and packing are inverse, what is packed is a byte. Assume nothing.
-- Used by the round trips of the header (HeaderLaws) and of a CU that carries a whole RTP header (links).
use Rattle.std.specs.Prelude.{ℕ, ◌+◌, ◌*◌, ◌/◌, ◌%◌, ◌<◌, ◌≡◌, Bool, true, false}
use Rattle.std.proofs.Common.{sym, ap, ◌∙◌, arith}
use Rattle.octets.specs.Flags.{bit_at, digit}
use Rattle.octets.specs.FlagsLaws.{digit-back, digit_lt, digit-eqb}
use Rattle.headers.specs.declared.rtp.RtpFirst.{RtpFirst}
use Rattle.headers.specs.declared.rtp.RtpSecond.{RtpSecond}
use Rattle.headers.specs.Rtp.{rtp_first_of, rtp_first_byte, rtp_second_of, rtp_second_byte}

---- the first byte

pub rtp_first_of-byte : (f : RtpFirst) → f.count < 16 → rtp_first_of (rtp_first_byte f) ≡ f
rtp_first_of-byte f h =
    let padding = digit_lt f.padding in
    let extension = digit_lt f.extension in
    let n : rtp_first_byte f % 16 ≡ f.count = omega arith in
    let q6 : rtp_first_byte f / 64 ≡ f.version = omega arith in
    let q5 : rtp_first_byte f / 32 ≡ f.version * 2 + digit f.padding = omega arith in
    let q4 : rtp_first_byte f / 16 ≡ (f.version * 2 + digit f.padding) * 2 + digit f.extension = omega arith in
    rw (
      n,
      q6,
      digit-back f.padding (rtp_first_byte f / 32 % 2) (rw q5 (omega arith)),
      digit-back f.extension (rtp_first_byte f / 16 % 2) (rw q4 (omega arith)),
    )

pub rtp_first_byte-of : (b : ℕ) → rtp_first_byte (rtp_first_of b) ≡ b
rtp_first_byte-of b = rw (digit-eqb (b / 32 % 2) (omega arith), digit-eqb (b / 16 % 2) (omega arith)) (omega arith)

-- the same, where the version was judged
pub rtp_first_byte-two : (b : ℕ) → b / 64 ≡ 2
    → rtp_first_byte (record { version = 2; padding = bit_at 5 b; extension = bit_at 4 b; count = b % 16 }) ≡ b
rtp_first_byte-two b e =
    ap (λ (v : ℕ). v * 64 + digit (bit_at 5 b) * 32 + digit (bit_at 4 b) * 16 + b % 16) (sym e) ∙ rtp_first_byte-of b

pub rtp_first_byte-lt : (f : RtpFirst) → f.version < 4 → f.count < 16 → rtp_first_byte f < 256
rtp_first_byte-lt f v n = omega (arith, digit_lt f.padding, digit_lt f.extension)

pub rtp_first_byte-version : (f : RtpFirst) → f.count < 16 → rtp_first_byte f / 64 ≡ f.version
rtp_first_byte-version f h = omega (arith, digit_lt f.padding, digit_lt f.extension)

---- the second byte

-- the marker's bit, whatever the payload type
marker-back : (m : Bool) (payload : ℕ) → payload < 128 → bit_at 7 (digit m * 128 + payload) ≡ m
marker-back true payload h = let q : (1 * 128 + payload) / 128 % 2 ≡ 1 = omega arith in rw q
marker-back false payload h = let q : (0 * 128 + payload) / 128 % 2 ≡ 0 = omega arith in rw q

payload-back : (m : Bool) (payload : ℕ) → payload < 128 → (digit m * 128 + payload) % 128 ≡ payload
payload-back m payload h = omega arith

pub rtp_second_of-byte : (f : RtpSecond) → f.payload < 128 → rtp_second_of (rtp_second_byte f) ≡ f
rtp_second_of-byte f h = λ i. record {
  marker = marker-back f.marker f.payload h i;
  payload = payload-back f.marker f.payload h i;
}

pub rtp_second_byte-of : (b : ℕ) → b < 256 → rtp_second_byte (rtp_second_of b) ≡ b
rtp_second_byte-of b h = rw (digit-eqb (b / 128 % 2) (omega arith)) (omega arith)

pub rtp_second_byte-lt : (f : RtpSecond) → f.payload < 128 → rtp_second_byte f < 256
rtp_second_byte-lt f h = omega (arith, digit_lt f.marker)
