-- Iarwennol. The UDP checksum (rule 7.9), over the bytes of a packet whose IP header has no options.
-- Used by the arrivals that are judged (decompressor), and by what is asked of packets that arrive after a gap (crtp).
use Rattle.std.specs.Prelude.{ℕ, zero, suc, Bool, List, [], ◌∷◌, ◌++◌, eqb, drop}
use Rattle.codes.specs.Reading.{word_at}
use Rattle.octets.specs.Sum.{sum_of, words_of, complement}

-- rule 7.9: the words of the pseudo-header: both addresses, the protocol, the UDP length
abbrev pub pseudo_header : List ℕ → List ℕ
pseudo_header p = word_at p 12 ∷ word_at p 14 ∷ word_at p 16 ∷ word_at p 18 ∷ 17 ∷ word_at p 24 ∷ []

-- those of the UDP header: ports, length, and 0 in the checksum's place
abbrev pub udp_header : List ℕ → List ℕ
udp_header p = word_at p 20 ∷ word_at p 22 ∷ word_at p 24 ∷ 0 ∷ []

-- rule 7.9: the sum of both and of the data, which begin at 28; after an odd number of bytes a zero byte is taken to follow
abbrev pub udp_sum : List ℕ → ℕ
udp_sum p = sum_of 0 (pseudo_header p ++ (udp_header p ++ words_of (drop 28 p)))

-- rule 7.9: 0000 would be blank, so FFFF is sent in its place
abbrev pub never_blank : ℕ → ℕ
never_blank zero = 0xFFFF
never_blank (suc x) = suc x

-- rule 7.9
unfoldable pub udp_checksum_of : List ℕ → ℕ
udp_checksum_of p = never_blank (complement (udp_sum p))

-- what stands in the checksum's place is the packet's own; 0000 never is
unfoldable pub udp_right : List ℕ → Bool
udp_right p = eqb (word_at p 26) (udp_checksum_of p)
