-- Iarwennol. Packets that are compressed and packets that are not, one for each condition (rules 5.1, 5.2, 11.2).
-- One statement, by computation: it holds the definition of `compressible` to what it is meant to say.
use Rattle.std.specs.Prelude.{ℕ, ◌/◌, ◌%◌, ◌≡◌, refl, Bool, true, false, List, [], ◌∷◌, map, set, take}
use Rattle.codes.specs.Reading.{word_at}
use Rattle.octets.specs.Sum.{plus}
use Rattle.headers.specs.Checksum.{ip_checksum_of}
use Rattle.headers.specs.Compressible.{fixed_form, compressible}

-- a packet of 40 bytes whose nine words sum to FFFF, so that its IP checksum is 0000
unfoldable pub sample : List ℕ
sample =
    0x45 ∷ 0x00 ∷ 0x00 ∷ 0x28 ∷ 0x26 ∷ 0xC3 ∷ 0x40 ∷ 0x00
    ∷ 0x40 ∷ 0x11 ∷ 0x00 ∷ 0x00 ∷ 0x0A ∷ 0x00 ∷ 0x00 ∷ 0x01 ∷ 0x0A ∷ 0x00 ∷ 0x00 ∷ 0x02
    ∷ 0x13 ∷ 0x88 ∷ 0x13 ∷ 0x8A ∷ 0x00 ∷ 0x14 ∷ 0x00 ∷ 0x00
    ∷ 0x80 ∷ 0x00 ∷ 0x00 ∷ 0x01 ∷ 0x00 ∷ 0x00 ∷ 0x00 ∷ 0x0A ∷ 0x00 ∷ 0x00 ∷ 0x00 ∷ 0x07
    ∷ []

-- one byte changed, and the IP checksum worked out again, so that nothing else is wrong
unfoldable pub changed : (at byte : ℕ) → List ℕ
changed at byte =
    let p = set sample at byte in
    let k = ip_checksum_of p (word_at p 2) in
    set (set p 10 (k / 256)) 11 (k % 256)

-- a packet that is compressed, and one that goes plain
pub data Case : Type 0 where
  compressed : List ℕ → Case
  plain : List ℕ → Case

-- the packet itself; DF and TTL as they may be; FFFF for 0000; cut short; then first byte, IP length, MF, fragment offset,
-- protocol, UDP length, destination port, RTP version and CSRC count as they must not be
unfoldable pub cases : List Case
cases =
    compressed sample
    ∷ compressed (changed 6 0x00)
    ∷ compressed (changed 8 0x01)
    ∷ plain (set (set sample 10 0xFF) 11 0xFF)
    ∷ plain (take 39 sample)
    ∷ plain (changed 0 0x46)
    ∷ plain (changed 3 0x29)
    ∷ plain (changed 6 0x60)
    ∷ plain (changed 7 0x01)
    ∷ plain (changed 9 0x06)
    ∷ plain (changed 25 0x15)
    ∷ plain (changed 23 0x8B)
    ∷ plain (changed 28 0x40)
    ∷ plain (changed 28 0x81)
    ∷ []

abbrev pub said : Case → Bool
said (compressed p) = true
said (plain p) = false

abbrev pub given : Case → Bool
given (compressed p) = compressible p
given (plain p) = compressible p

pub cases-hold : map given cases ≡ map said cases
unfolding cases sample changed compressible fixed_form ip_checksum_of plus
cases-hold = refl
