-- Iarwennol. FULL_HEADER (rule 6.1): its bytes, and how one of any bytes is judged (rule 3.3) and read.
-- Used by the compressor through outgoing, and by the decompressor.
use Rattle.std.specs.Prelude.{ℕ, ◌+◌, ◌*◌, ◌/◌, ◌%◌, Bool, cond, not, ◌&&◌, List, eqb, leb, ltb, length}
use Rattle.codes.specs.Numbers.{cut, forbidden, no_such_context}
use Rattle.codes.specs.Reading.{byte_at, word_at}
use Rattle.packet.specs.declared.header.Header.{Header}
use Rattle.headers.specs.Header.{count_at, header_of, header_bytes, size_with, header_size}
use Rattle.headers.specs.Checksum.{ip_checksum_of, ip_checksum}
use Rattle.headers.specs.Compressible.{fixed_form}
use Rattle.links.specs.declared.fh.FullHeader.{FullHeader}

---- bytes

-- rule 6.1: in the IP length's place: the bits 0, 1 and the generation in a byte, then the context number
abbrev pub ip_field : (context generation : ℕ) → ℕ
ip_field context generation = (64 + generation) * 256 + context

-- rule 6.1: the header of a packet of so many bytes, whose IP checksum stays; in the UDP length's place stands the link sequence
unfoldable pub fh_bytes : (context generation link : ℕ) → (total : ℕ) → Header → List ℕ
fh_bytes context generation link total h = header_bytes (ip_field context generation) link (ip_checksum h total) h

---- how it is judged

-- rule 6.1: the bits 0, 1 and the twelve that are 0
unfoldable pub fields_form : List ℕ → Bool
fields_form s = eqb (byte_at s 2 / 64) 1 && eqb (word_at s 24 / 16) 0

-- rules 5.2, 6.1: the IP checksum is right once the total length is put back, which is the full header's own
abbrev pub checksum_right : List ℕ → Bool
checksum_right s = eqb (word_at s 10) (ip_checksum_of s (length s))

-- rule 3.3: 4, 6, 5, 4; k: how many contexts there are
unfoldable pub fh_judged : (k : ℕ) → List ℕ → ℕ
fh_judged k s =
    cond (ltb (length s) 40) cut
    (cond (leb k (byte_at s 3)) no_such_context
    (cond (not (fixed_form s && fields_form s && checksum_right s)) forbidden
    (cond (ltb (length s) (size_with (count_at s 28))) cut 0)))

---- what it says

-- rule 6.1
unfoldable pub fh_of : List ℕ → FullHeader
fh_of s = record {
  header = header_of s;
  context = byte_at s 3;
  generation = byte_at s 2 % 64;
  link = byte_at s 25 % 16;
  start = header_size (header_of s);
}
