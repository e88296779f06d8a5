-- Iarwennol. Packets and their UDP checksums (rules 7.9, 11.4), worked out by hand beside the definition.
-- One statement, by computation: it holds the definition of `udp_checksum_of` to what it is meant to say.
use Rattle.std.specs.Prelude.{ℕ, ◌≡◌, refl, Bool, true, false, List, [], ◌∷◌, map}
use Rattle.octets.specs.Sum.{plus}
use Rattle.headers.specs.UdpChecksum.{udp_checksum_of, udp_right}

-- from 10.0.0.1, port 5000, to 10.0.0.2, port 5002; RTP with SSRC 7. size: the last byte of the UDP length, IP's being 20 more
abbrev packet : (size check_high check_low sequence_high sequence_low : ℕ) → (payload : List ℕ) → List ℕ
packet size check_high check_low sequence_high sequence_low payload =
    0x45 ∷ 0x00 ∷ 0x00 ∷ size ∷ 0x26 ∷ 0xC3 ∷ 0x40 ∷ 0x00 ∷ 0x40 ∷ 0x11 ∷ 0x00 ∷ 0x00
    ∷ 0x0A ∷ 0x00 ∷ 0x00 ∷ 0x01 ∷ 0x0A ∷ 0x00 ∷ 0x00 ∷ 0x02
    ∷ 0x13 ∷ 0x88 ∷ 0x13 ∷ 0x8A ∷ 0x00 ∷ size ∷ check_high ∷ check_low
    ∷ 0x80 ∷ 0x00 ∷ sequence_high ∷ sequence_low ∷ 0x00 ∷ 0x00 ∷ 0x00 ∷ 0x0A ∷ 0x00 ∷ 0x00 ∷ 0x00 ∷ 0x07
    ∷ payload

pub record Case : Type 0 where
  pub packet : List ℕ
  pub checksum : ℕ  -- the one that it should have
  pub right : Bool  -- it has that one

abbrev case : List ℕ → ℕ → Bool → Case
case p k r = record { packet = p; checksum = k; right = r }

-- no payload: right, one off, its bytes the other way, blank; one byte and two bytes of payload; words that sum to FFFF, with FFFF
-- and with 0000
unfoldable pub cases : List Case
cases =
    case (packet 20 0x44 0x9F 0x00 0x01 []) 0x449F true
    ∷ case (packet 20 0x44 0x9E 0x00 0x01 []) 0x449F false
    ∷ case (packet 20 0x9F 0x44 0x00 0x01 []) 0x449F false
    ∷ case (packet 20 0x00 0x00 0x00 0x01 []) 0x449F false
    ∷ case (packet 21 0x99 0x9C 0x00 0x01 (0xAB ∷ [])) 0x999C true
    ∷ case (packet 22 0x98 0xCD 0x00 0x01 (0xAB ∷ 0xCD ∷ [])) 0x98CD true
    ∷ case (packet 20 0xFF 0xFF 0x44 0xA0 []) 0xFFFF true
    ∷ case (packet 20 0x00 0x00 0x44 0xA0 []) 0xFFFF false
    ∷ []

abbrev pub given : Case → Case
given c = record { packet = c.packet; checksum = udp_checksum_of c.packet; right = udp_right c.packet }

pub cases-hold : map given cases ≡ cases
unfolding cases udp_checksum_of udp_right plus
cases-hold = refl
