-- Iarwennol. The bytes of a header that a UDP checksum is summed over, side by side (rule 7.9): pseudo-header, UDP header with 0 in
-- the checksum's place, RTP header with its CSRC list.
-- Used by the contract of the function that sums them; SummedLaws ties them to the checksum of a packet.
use Rattle.std.specs.Prelude.{ℕ, List, ◌++◌}
use Rattle.codes.specs.Bytes.{big_endian}
use Rattle.packet.specs.declared.header.Header.{Header}
use Rattle.octets.specs.Put.{list_bytes}
use Rattle.headers.specs.Header.{udp_bytes, rtp_fixed}

-- addresses, protocol, UDP length
unfoldable pub pseudo_bytes : (udp_length : ℕ) → Header → List ℕ
pseudo_bytes u h = big_endian 4 h.flow.source ++ (big_endian 4 h.flow.destination ++ (big_endian 2 17 ++ big_endian 2 u))

abbrev pub unsummed : Header → Header
unsummed h = record { flow = h.flow; ip = h.ip; rtp = h.rtp; csrc = h.csrc; marker = h.marker; checksum = 0 }

abbrev pub summed_bytes : (udp_length : ℕ) → Header → List ℕ
summed_bytes u h = pseudo_bytes u h ++ (udp_bytes u (unsummed h) ++ (rtp_fixed h ++ list_bytes h.csrc))
