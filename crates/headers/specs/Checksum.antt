-- Iarwennol. The IP checksum (rule 5.2): the complement of the sum of the header's other nine words.
-- Used by `compressible`, by the full header's refusals (links), and for the packets that are rebuilt (rule 7.8).
use Rattle.std.specs.Prelude.{ℕ, ◌+◌, ◌-◌, ◌*◌, ◌/◌, ◌%◌, List, [], ◌∷◌}
use Rattle.codes.specs.Reading.{word_at}
use Rattle.packet.specs.declared.header.Header.{Header}
use Rattle.octets.specs.Sum.{sum_of, complement}
use Rattle.headers.specs.Header.{header_bytes}

-- rule 5.2: of the header that stands in some bytes, with total for its IP length
unfoldable pub ip_checksum_of : List ℕ → (total : ℕ) → ℕ
ip_checksum_of p total =
    complement (sum_of 0 (word_at p 0 ∷ total ∷ word_at p 4 ∷ word_at p 6 ∷ word_at p 8 ∷ word_at p 12 ∷ word_at p 14 ∷ word_at p 16
    ∷ word_at p 18 ∷ []))

-- the two words of a number of 32 bits
abbrev pub high_word : ℕ → ℕ
high_word v = v / 65536

abbrev pub low_word : ℕ → ℕ
low_word v = v % 65536

-- rule 5.2: of a header, from its fields
unfoldable pub ip_checksum : Header → (total : ℕ) → ℕ
ip_checksum h total =
    complement
    (sum_of 0 (
    (0x4500 + h.ip.tos)
    ∷ total
    ∷ h.ip.id
    ∷ h.ip.flags * 0x4000
    ∷ (h.ip.ttl * 256 + 17)
    ∷ high_word h.flow.source
    ∷ low_word h.flow.source
    ∷ high_word h.flow.destination
    ∷ low_word h.flow.destination
    ∷ []
    ))

-- rule 7.8: the header of a packet of so many bytes, with the lengths and the IP checksum that it must have
abbrev pub printed : Header → (total : ℕ) → List ℕ
printed h total = header_bytes total (total - 20) (ip_checksum h total) h
