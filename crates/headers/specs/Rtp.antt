-- Iarwennol. The two bytes of an RTP header (RFC 3550) that are split into bits, both ways.
-- Used by the header of a packet (Header), and by a CU that carries a whole RTP header (links).
use Rattle.std.specs.Prelude.{ℕ, ◌+◌, ◌*◌, ◌/◌, ◌%◌, Bool}
use Rattle.packet.specs.declared.csrc.Csrc.{Csrc}
use Rattle.packet.specs.declared.header.Rtp.{Rtp}
use Rattle.octets.specs.Flags.{bit_at, digit}
use Rattle.headers.specs.declared.rtp.RtpFirst.{RtpFirst}
use Rattle.headers.specs.declared.rtp.RtpSecond.{RtpSecond}

---- the first byte: version, padding, extension, CSRC count

abbrev pub rtp_first_of : ℕ → RtpFirst
rtp_first_of b = record { version = b / 64; padding = bit_at 5 b; extension = bit_at 4 b; count = b % 16 }

abbrev pub rtp_first_byte : RtpFirst → ℕ
rtp_first_byte f = f.version * 64 + digit f.padding * 32 + digit f.extension * 16 + f.count

-- that of a header: the version is 2 (rules 5.1, 6.1, 6.3)
abbrev pub rtp_first : Rtp → Csrc → RtpFirst
rtp_first r l = record { version = 2; padding = r.padding; extension = r.extension; count = l.count }

---- the second byte: marker, payload type

abbrev pub rtp_second_of : ℕ → RtpSecond
rtp_second_of b = record { marker = bit_at 7 b; payload = b % 128 }

abbrev pub rtp_second_byte : RtpSecond → ℕ
rtp_second_byte f = digit f.marker * 128 + f.payload

abbrev pub rtp_second : (marker : Bool) → Rtp → RtpSecond
rtp_second marker r = record { marker = marker; payload = r.payload }
