-- Iarwennol. Laws of the IP checksum: from the bytes or from the fields, it is the same. Assume nothing.
-- Used by the round trip of a compressible packet, and by the full header (links), whose checksum is that of its packet.
use Rattle.std.specs.Prelude.{ℕ, ◌+◌, ◌*◌, ◌/◌, ◌%◌, ◌^◌, ◌≤◌, ◌<◌, ◌≡◌, true, length, take, drop}
use Rattle.std.proofs.Common.{ap, arith, length-append, length-drop, length-take-le}
use mathlib.Core.List.{List, [], ◌∷◌, ◌++◌}
use Rattle.codes.specs.Bytes.{AllBytes, big_endian}
use Rattle.codes.specs.Reading.{byte_at, word_at, long_at}
use Rattle.codes.proofs.BytesRead.{AllBytes-byte_at, word_at-lt, word_at-big_endian}
use Rattle.packet.specs.Ranges.{FlowInRange, IpInRange, HeaderInRange}
use Rattle.packet.specs.declared.header.Header.{Header}
use Rattle.octets.specs.Sum.{sum_of, words_of, complement, AllWords, none, more}
use Rattle.octets.specs.SumLaws.{plus-start, sum_of-zero, words_of-append, words_of-part}
use Rattle.headers.specs.Header.{header_of, flow_of, ip_of, header_bytes, ip_front, ip_back}
use Rattle.headers.specs.Checksum.{ip_checksum_of, ip_checksum, high_word, low_word}
use Rattle.headers.specs.Compressible.{fixed_form}
use Rattle.headers.proofs.CompressibleLaws.{fixed_form-true}

---- the two words of a number of 32 bits

high_word-big_endian : (v : ℕ) → v < 2 ^ 32 → (s : List ℕ) → word_at (big_endian 4 v ++ s) 0 ≡ high_word v
high_word-big_endian v h s = omega arith

low_word-big_endian : (v : ℕ) (s : List ℕ) → word_at (big_endian 4 v ++ s) 2 ≡ low_word v
low_word-big_endian v s = omega arith

module _ {s : List ℕ} (a : AllBytes s) (at : ℕ) where
  high_word-long_at : high_word (long_at s at) ≡ word_at s at
  high_word-long_at = omega (arith, AllBytes-byte_at a (at + 2), AllBytes-byte_at a (at + 3))

  low_word-long_at : low_word (long_at s at) ≡ byte_at s (at + 2) * 256 + byte_at s (at + 3)
  low_word-long_at = omega (arith, AllBytes-byte_at a (at + 2), AllBytes-byte_at a (at + 3))

---- the word of flags and fragment offset

-- with nothing but the reserved bit and DF in it
pub flags-whole : (a b : ℕ) → a < 256 → b < 256 → (a * 256 + b) % 0x4000 ≡ 0 → a / 64 * 0x4000 ≡ a * 256 + b
flags-whole a b h k e = omega arith

---- ip_checksum_of

-- the bytes of a header beside its length and its checksum
module _ (p : List ℕ) (h : 40 ≤ length p) where
  abbrev pub beside : List ℕ
  beside = take 2 (drop 0 p) ++ (take 6 (drop 4 p) ++ take 8 (drop 12 p))

  length_part : (n i : ℕ) → i + n ≤ 40 → length (take n (drop i p)) ≡ n
  length_part n i k = length-take-le n (drop i p) (omega (arith, length-drop i p))

  pub length-beside : length beside ≡ 16
  length-beside =
      rw (
        length-append,
        length-append,
        length_part 2 0 (omega arith),
        length_part 6 4 (omega arith),
        length_part 8 12 (omega arith),
      )

  words-beside : words_of beside
      ≡ word_at p 0 ∷ word_at p 4 ∷ word_at p 6 ∷ word_at p 8 ∷ word_at p 12 ∷ word_at p 14 ∷ word_at p 16 ∷ word_at p 18 ∷ []
  words-beside =
      rw (
        words_of-append (take 2 (drop 0 p)) (take 6 (drop 4 p) ++ take 8 (drop 12 p))
            (omega (arith, length_part 2 0 (omega arith))),
        words_of-append (take 6 (drop 4 p)) (take 8 (drop 12 p)) (omega (arith, length_part 6 4 (omega arith))),
        words_of-part p 0 0 (omega arith),
        words_of-part p 4 4 (omega arith),
        words_of-part p 6 2 (omega arith),
        words_of-part p 8 0 (omega arith),
        words_of-part p 12 6 (omega arith),
        words_of-part p 14 4 (omega arith),
        words_of-part p 16 2 (omega arith),
        words_of-part p 18 0 (omega arith),
      )

  -- summed over them, with the length as the start value
  pub ip_checksum_of-beside : AllBytes p → (total : ℕ) → complement (sum_of total (words_of beside)) ≡ ip_checksum_of p total
  unfolding ip_checksum_of
  ip_checksum_of-beside a total = rw (words-beside, plus-start total (word_at-lt a 0))

pub ip_checksum_of-lt : (p : List ℕ) (total : ℕ) → ip_checksum_of p total < 2 ^ 16
unfolding ip_checksum_of
ip_checksum_of-lt p total = omega arith

---- ip_checksum

pub ip_checksum-lt : (h : Header) (total : ℕ) → ip_checksum h total < 2 ^ 16
unfolding ip_checksum
ip_checksum-lt h total = omega arith

-- summed over the header's twenty bytes with 0 in the checksum's place
module _ (h : Header) (total : ℕ) where
  -- the words before the checksum, and those after it
  abbrev front : List ℕ
  front = (0x4500 + h.ip.tos) ∷ total ∷ h.ip.id ∷ h.ip.flags * 0x4000 ∷ (h.ip.ttl * 256 + 17) ∷ []

  abbrev back : List ℕ
  back =
      high_word h.flow.source
      ∷ low_word h.flow.source
      ∷ high_word h.flow.destination
      ∷ low_word h.flow.destination
      ∷ []

  module _ (r : IpInRange h.ip) (q : FlowInRange h.flow) (t : total < 2 ^ 16) where
    front-words : AllWords front
    front-words =
        more {w = 0x4500 + h.ip.tos} (omega arith)
        (more t (more r.id (more {w = h.ip.flags * 0x4000} (omega arith)
        (more {w = h.ip.ttl * 256 + 17} (omega arith) none))))

    words-written : words_of (ip_front total h ++ ip_back 0 h) ≡ front ++ (0 ∷ back)
    unfolding ip_front ip_back
    words-written = λ i.
        (0x4500 + h.ip.tos)
        ∷ word_at-big_endian total t [] i
        ∷ word_at-big_endian h.ip.id r.id [] i
        ∷ word_at-big_endian (h.ip.flags * 0x4000) (omega arith) [] i
        ∷ (h.ip.ttl * 256 + 17)
        ∷ 0
        ∷ high_word-big_endian h.flow.source q.source [] i
        ∷ low_word-big_endian h.flow.source [] i
        ∷ high_word-big_endian h.flow.destination q.destination [] i
        ∷ low_word-big_endian h.flow.destination [] i
        ∷ []

    pub ip_checksum-written : complement (sum_of 0 (words_of (ip_front total h ++ ip_back 0 h))) ≡ ip_checksum h total
    unfolding ip_checksum
    ip_checksum-written = rw words-written (ap complement (sum_of-zero 0 back (omega arith) front-words))

pub ip_checksum_of-header_bytes : (l u k : ℕ) (h : Header) (rest : List ℕ) (total : ℕ) → HeaderInRange h
    → ip_checksum_of (header_bytes l u k h ++ rest) total ≡ ip_checksum h total
unfolding ip_checksum_of ip_checksum header_bytes ip_front ip_back
ip_checksum_of-header_bytes l u k h rest total r = λ i. complement (sum_of 0 (
    (0x4500 + h.ip.tos)
    ∷ total
    ∷ word_at-big_endian h.ip.id r.ip.id [] i
    ∷ word_at-big_endian (h.ip.flags * 0x4000) (omega arith) [] i
    ∷ (h.ip.ttl * 256 + 17)
    ∷ high_word-big_endian h.flow.source r.flow.source [] i
    ∷ low_word-big_endian h.flow.source [] i
    ∷ high_word-big_endian h.flow.destination r.flow.destination [] i
    ∷ low_word-big_endian h.flow.destination [] i
    ∷ []
    ))

module _ {p : List ℕ} (a : AllBytes p) (f : fixed_form p ≡ true) where
  first_word : 0x4500 + byte_at p 1 ≡ word_at p 0
  first_word = let t = fixed_form-true p f in omega arith

  pub flags-word : byte_at p 6 / 64 * 0x4000 ≡ word_at p 6
  flags-word = flags-whole (byte_at p 6) (byte_at p 7) (AllBytes-byte_at a 6) (AllBytes-byte_at a 7) (fixed_form-true p f).whole

  protocol-word : byte_at p 8 * 256 + 17 ≡ word_at p 8
  protocol-word = let t = fixed_form-true p f in omega arith

  pub ip_checksum-header_of : (total : ℕ) → ip_checksum (header_of p) total ≡ ip_checksum_of p total
  unfolding ip_checksum_of ip_checksum header_of flow_of ip_of
  ip_checksum-header_of total = λ i. complement (sum_of 0 (
      first_word i
      ∷ total
      ∷ word_at p 4
      ∷ flags-word i
      ∷ protocol-word i
      ∷ high_word-long_at a 12 i
      ∷ low_word-long_at a 12 i
      ∷ high_word-long_at a 16 i
      ∷ low_word-long_at a 16 i
      ∷ []
      ))
