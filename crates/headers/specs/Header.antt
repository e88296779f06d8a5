-- Iarwennol. The bytes of an IPv4/UDP/RTP header (RFC 791, 768, 3550), and the header fields that stand in some bytes.
-- Used by the link layout of a full header (links), which has other length fields, and by both ends.
use Rattle.std.specs.Prelude.{ℕ, zero, suc, ◌+◌, ◌-◌, ◌*◌, ◌/◌, List, [], ◌∷◌, ◌++◌, drop, replicate}
use Rattle.codes.specs.Bytes.{big_endian}
use Rattle.codes.specs.Reading.{byte_at, word_at, long_at}
use Rattle.packet.specs.declared.csrc.Csrc.{Csrc}
use Rattle.packet.specs.declared.header.Flow.{Flow}
use Rattle.packet.specs.declared.header.Ip.{Ip}
use Rattle.packet.specs.declared.header.Header.{Header}
use Rattle.packet.specs.declared.header.RtpHeader.{RtpHeader}
use Rattle.octets.specs.Put.{list_bytes}
use Rattle.headers.specs.Rtp.{rtp_first_of, rtp_first_byte, rtp_first, rtp_second_of, rtp_second_byte, rtp_second}

---- bytes to header

-- the first n words of 32 bits
abbrev pub longs : ℕ → List ℕ → List ℕ
longs zero s = []
longs (suc n) s = long_at s 0 ∷ longs n (drop 4 s)

-- rule 2.4: a CSRC list of n words; the places past them hold 0
abbrev pub list_at : List ℕ → (at n : ℕ) → Csrc
list_at s at n = record { count = n; words = longs n (drop at s) ++ replicate (15 - n) 0 }

-- the CSRC count of an RTP header that begins at a place
abbrev pub count_at : List ℕ → ℕ → ℕ
count_at s at = (rtp_first_of (byte_at s at)).count

-- an RTP header that begins at a place; its version is judged elsewhere
unfoldable pub rtp_at : List ℕ → ℕ → RtpHeader
rtp_at s at = record {
  ssrc = long_at s (at + 8);
  marker = (rtp_second_of (byte_at s (at + 1))).marker;
  rtp = record {
    padding = (rtp_first_of (byte_at s at)).padding;
    extension = (rtp_first_of (byte_at s at)).extension;
    payload = (rtp_second_of (byte_at s (at + 1))).payload;
    sequence = word_at s (at + 2);
    timestamp = long_at s (at + 4);
  };
  csrc = list_at s (at + 12) (count_at s at);
}

-- rule 5.4: both addresses, both ports, SSRC
unfoldable pub flow_of : List ℕ → Flow
flow_of p = record {
  source = long_at p 12;
  destination = long_at p 16;
  sport = word_at p 20;
  dport = word_at p 22;
  ssrc = long_at
      p 36;
}

-- rule 2.3: the flags that are kept are reserved bit and DF, the top two bits of byte 6
unfoldable pub ip_of : List ℕ → Ip
ip_of p = record { tos = byte_at p 1; ttl = byte_at p 8; flags = byte_at p 6 / 64; id = word_at p 4 }

-- the header of a packet; neither a length nor the IP checksum is read
unfoldable pub header_of : List ℕ → Header
header_of p = record {
  flow = flow_of p;
  ip = ip_of p;
  rtp = (rtp_at p 28).rtp;
  csrc = (rtp_at p 28).csrc;
  marker = (rtp_at p 28).marker;
  checksum = word_at p 26;
}

---- header to bytes

-- version, TOS, length, ID and flags; MF and the fragment offset are 0 (rule 5.1)
unfoldable pub ip_front : (length : ℕ) → Header → List ℕ
ip_front length h =
    (0x45 ∷ []) ++ ((h.ip.tos ∷ []) ++ (big_endian 2 length ++ (big_endian 2 h.ip.id ++ big_endian 2 (h.ip.flags * 0x4000))))

-- TTL, protocol (rule 5.1), checksum and addresses
unfoldable pub ip_back : (checksum : ℕ) → Header → List ℕ
ip_back checksum h =
    (h.ip.ttl ∷ []) ++ ((17 ∷ [])
    ++ (big_endian 2 checksum ++ (big_endian 4 h.flow.source ++ big_endian 4 h.flow.destination)))

-- ports, length and checksum
unfoldable pub udp_bytes : (length : ℕ) → Header → List ℕ
udp_bytes length h =
    big_endian 2 h.flow.sport ++ (big_endian 2 h.flow.dport ++ (big_endian 2 length ++ big_endian 2 h.checksum))

-- the twelve fixed bytes
unfoldable pub rtp_fixed : Header → List ℕ
rtp_fixed h =
    (rtp_first_byte (rtp_first h.rtp h.csrc) ∷ [])
    ++ ((rtp_second_byte (rtp_second h.marker h.rtp) ∷ [])
    ++ (big_endian 2 h.rtp.sequence ++ (big_endian 4 h.rtp.timestamp ++ big_endian 4 h.flow.ssrc)))

-- all of them: with length fields and IP checksum as given, since a full header has others than its packet (rule 6.1)
unfoldable pub header_bytes : (ip_length udp_length ip_checksum : ℕ) → Header → List ℕ
header_bytes l u k h = ip_front l h ++ (ip_back k h ++ (udp_bytes u h ++ (rtp_fixed h ++ list_bytes h.csrc)))

-- how many bytes a header has: 40, and the words of its CSRC list
abbrev pub size_with : (count : ℕ) → ℕ
size_with count = 40 + 4 * count

abbrev pub header_size : Header → ℕ
header_size h = size_with h.csrc.count
