-- Iarwennol. COMPRESSED_UDP without F (rule 6.3), which carries a whole RTP header: its bytes, and the reader.
-- The reader begins past the flag byte. The compressor never sends this form (rule 8.8); the decompressor takes it.
use Rattle.std.specs.Prelude.{ℕ, Bool, true, false, None, List, ◌∷◌, ◌++◌}
use Rattle.codes.specs.Bytes.{big_endian}
use Rattle.packet.specs.Csrc.{no_list}
use Rattle.packet.specs.declared.header.RtpHeader.{RtpHeader}
use Rattle.packet.specs.declared.parts.Parts.{Parts}
use Rattle.octets.specs.declared.flags.Flags.{Flags}
use Rattle.octets.specs.Put.{list_bytes}
use Rattle.headers.specs.declared.rtp.RtpFirst.{RtpFirst}
use Rattle.headers.specs.Rtp.{rtp_first_of, rtp_first_byte, rtp_first, rtp_second_of, rtp_second_byte, rtp_second}
use Rattle.fields.specs.declared.place.Place.{Place}
use Rattle.fields.specs.declared.place.Got.{Got}
use Rattle.fields.specs.Place.{or_zero}
use Rattle.fields.specs.declared.place.GotList.{GotList}
use Rattle.fields.specs.Next.{next_version, next_byte, next_word, next_long, next_list}
use Rattle.links.specs.declared.cu.Changes.{Changes}
use Rattle.links.specs.declared.whole.Fixed.{Fixed}
use Rattle.links.specs.declared.whole.GotRtp.{GotRtp}
use Rattle.links.specs.declared.whole.ReadWhole.{ReadWhole}
use Rattle.links.specs.Head.{head_bytes}
use Rattle.links.specs.Cu.{cu_flags_of, cu_flags_bits, cu_sent, changes_bytes, changes_of}

---- bytes

-- rule 6.3: the RTP header, CSRC list and all
abbrev pub rtp_bytes : RtpHeader → List ℕ
rtp_bytes w =
    rtp_first_byte (rtp_first w.rtp w.csrc) ∷ rtp_second_byte (rtp_second w.marker w.rtp)
    ∷ (big_endian 2 w.rtp.sequence ++ (big_endian 4 w.rtp.timestamp ++ (big_endian 4 w.ssrc ++ list_bytes w.csrc)))

-- rule 6.3: F is 0
abbrev pub whole_flags : (link : ℕ) → Parts → Flags
whole_flags link h = cu_flags_bits link (cu_sent false h)

-- rule 6.3: all that comes before what is copied
unfoldable pub whole_bytes : (context link : ℕ) → (carried : Bool) → Parts → RtpHeader → List ℕ
whole_bytes context link carried h w = head_bytes context (whole_flags link h) ++ (changes_bytes carried h ++ rtp_bytes w)

---- reader

-- rules 3.4, 6.3: twelve bytes that are one field; the version is judged before any is taken
unfoldable pub fixed_of : List ℕ → Place → Fixed
fixed_of s p =
    let first : Got ℕ = next_version s p in
    let second : Got ℕ = next_byte s first.place true in
    let sequence : Got ℕ = next_word s second.place true in
    let timestamp : Got ℕ = next_long s sequence.place true in
    let ssrc : Got ℕ = next_long s timestamp.place true in
    record {
      place = ssrc.place;
      first = or_zero first.field;
      second = or_zero second.field;
      sequence = or_zero sequence.field;
      timestamp = or_zero timestamp.field;
      ssrc = or_zero ssrc.field;
    }

-- f: what the first byte says
abbrev pub rtp_header : Fixed → RtpFirst → GotList → GotRtp
rtp_header x f l = record {
  place = l.place;
  header = record {
    ssrc = x.ssrc;
    marker = (rtp_second_of x.second).marker;
    rtp = record {
      padding = f.padding;
      extension = f.extension;
      payload = (rtp_second_of x.second).payload;
      sequence = x.sequence;
      timestamp = x.timestamp;
    };
    csrc = l.list;
  };
}

-- rule 6.3: past the fixed bytes: the CSRC list that they count
unfoldable pub rtp_rest : List ℕ → Fixed → RtpFirst → GotRtp
rtp_rest s x f = rtp_header x f (next_list s x.place f.count)

-- rule 6.3
unfoldable pub rtp_of : List ℕ → Place → GotRtp
rtp_of s p = let fixed : Fixed = fixed_of s p in rtp_rest s fixed (rtp_first_of fixed.first)

abbrev pub whole_parts : Changes → GotRtp → ReadWhole
whole_parts c w = record {
  place = w.place;
  parts = record {
    marker = w.header.marker;
    checksum = c.checksum;
    id = c.id;
    sequence = None;
    timestamp = None;
    payload = None;
    did = c.did;
    dsn = None;
    dts = c.dts;
    listed = false;
    csrc = no_list;
  };
  header = w.header;
}

-- rule 6.3: past the flag byte f
unfoldable pub whole_of : List ℕ → Place → Flags → (carried : Bool) → ReadWhole
whole_of s p f carried =
    let changes : Changes = changes_of s p (cu_flags_of f) carried in
    whole_parts changes (rtp_of s changes.place)
