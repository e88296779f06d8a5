-- Iarwennol. COMPRESSED_UDP with F (rule 6.3): its bytes, and the reader that takes them apart from left to right.
-- The reader begins past the flag byte. Used by the compressor through outgoing, and by the decompressor.
use Rattle.std.specs.Prelude.{ℕ, Bool, true, None, is_some, List, [], ◌∷◌, ◌++◌}
use Rattle.codes.specs.Bytes.{big_endian}
use Rattle.packet.specs.declared.parts.Parts.{Parts}
use Rattle.octets.specs.declared.flags.Flags.{Flags}
use Rattle.octets.specs.Flags.{flags_of, byte_of}
use Rattle.octets.specs.Put.{optional, list_bytes}
use Rattle.fields.specs.declared.place.Place.{Place}
use Rattle.fields.specs.declared.place.Got.{Got}
use Rattle.fields.specs.Place.{or_zero}
use Rattle.fields.specs.declared.place.GotList.{GotList}
use Rattle.fields.specs.Next.{next_byte, next_word, next_long, next_delta16, next_delta32, next_payload, next_list}
use Rattle.links.specs.declared.head.ReadParts.{ReadParts}
use Rattle.links.specs.declared.cu.CuFlags.{CuFlags}
use Rattle.links.specs.declared.cu.CuSecond.{CuSecond}
use Rattle.links.specs.declared.cu.Changes.{Changes}
use Rattle.links.specs.declared.cu.Values.{Values}
use Rattle.links.specs.Sent.{whole, whole_byte, delta}
use Rattle.links.specs.Head.{head_bytes}

---- the flag bytes, both ways

-- rule 6.3: F, I, dT, dI; the number is the link sequence
abbrev pub cu_flags_of : Flags → CuFlags
cu_flags_of f = record { values = f.bit7; id = f.bit6; dts = f.bit5; did = f.bit4 }

abbrev pub cu_flags_bits : (link : ℕ) → CuFlags → Flags
cu_flags_bits link f = record { bit7 = f.values; bit6 = f.id; bit5 = f.dts; bit4 = f.did; low = link }

-- rule 6.3: M, S, T, pt, CC
abbrev pub cu_second_of : Flags → CuSecond
cu_second_of f = record { marker = f.bit7; sequence = f.bit6; timestamp = f.bit5; payload = f.bit4; count = f.low }

abbrev pub cu_second_bits : CuSecond → Flags
cu_second_bits g = record { bit7 = g.marker; bit6 = g.sequence; bit5 = g.timestamp; bit4 = g.payload; low = g.count }

---- bytes

-- what the flags say of some parts. values: F
abbrev pub cu_sent : (values : Bool) → Parts → CuFlags
cu_sent values h = record { values = values; id = is_some h.id; dts = is_some h.dts; did = is_some h.did }

abbrev pub cu_flags : (link : ℕ) → Parts → Flags
cu_flags link h = cu_flags_bits link (cu_sent true h)

abbrev pub cu_second : Parts → CuSecond
cu_second h = record {
  marker = h.marker;
  sequence = is_some h.sequence;
  timestamp = is_some h.timestamp;
  payload = is_some h.payload;
  count = h.csrc.count;
}

abbrev pub cu_second_byte : Parts → ℕ
cu_second_byte h = byte_of (cu_second_bits (cu_second h))

-- rule 6.3: the UDP checksum where it is carried, the differences of ID and timestamp, the ID
abbrev pub changes_bytes : (carried : Bool) → Parts → List ℕ
changes_bytes carried h = optional carried (big_endian 2 h.checksum) ++ (delta 16 h.did ++ (delta 32 h.dts ++ whole 2 h.id))

-- rule 6.3: sequence, timestamp, payload type, CSRC list
abbrev pub values_bytes : Parts → List ℕ
values_bytes h = whole 2 h.sequence ++ (whole 4 h.timestamp ++ (whole_byte h.payload ++ list_bytes h.csrc))

-- rule 6.3: all that comes before what is copied
unfoldable pub cu_bytes : (context link : ℕ) → (carried : Bool) → Parts → List ℕ
cu_bytes context link carried h =
    head_bytes context (cu_flags link h) ++ ((cu_second_byte h ∷ []) ++ (changes_bytes carried h ++ values_bytes h))

---- reader

-- rule 6.3: the UDP checksum where it is carried, the differences of the ID if dI, of the timestamp if dT, the ID if I
unfoldable pub changes_of : List ℕ → Place → CuFlags → (carried : Bool) → Changes
changes_of s p f carried =
    let checksum : Got ℕ = next_word s p carried in
    let did : Got ℕ = next_delta16 s checksum.place f.did in
    let dts : Got ℕ = next_delta32 s did.place f.dts in
    let id : Got ℕ = next_word s dts.place f.id in
    record { place = id.place; checksum = or_zero checksum.field; did = did.field; dts = dts.field; id = id.field }

-- rule 6.3: the sequence if S, the timestamp if T, the payload type if pt, CC words
unfoldable pub values_of : List ℕ → Place → CuSecond → Values
values_of s p g =
    let sequence : Got ℕ = next_word s p g.sequence in
    let timestamp : Got ℕ = next_long s sequence.place g.timestamp in
    let payload : Got ℕ = next_payload s timestamp.place g.payload in
    let csrc : GotList = next_list s payload.place g.count in
    record {
      place = csrc.place;
      sequence = sequence.field;
      timestamp = timestamp.field;
      payload = payload.field;
      csrc = csrc.list;
    }

abbrev pub cu_parts : CuSecond → Changes → Values → ReadParts
cu_parts g c v = record {
  place = v.place;
  parts = record {
    marker = g.marker;
    checksum = c.checksum;
    id = c.id;
    sequence = v.sequence;
    timestamp = v.timestamp;
    payload = v.payload;
    did = c.did;
    dsn = None;
    dts = c.dts;
    listed = true;
    csrc = v.csrc;
  };
}

-- past the second byte g
unfoldable pub cu_rest : List ℕ → Place → CuFlags → CuSecond → (carried : Bool) → ReadParts
cu_rest s p f g carried =
    let changes : Changes = changes_of s p f carried in
    let values : Values = values_of s changes.place g in
    cu_parts g changes values

-- rule 6.3: past the flag byte f
unfoldable pub cu_of : List ℕ → Place → Flags → (carried : Bool) → ReadParts
cu_of s p f carried =
    let second : Got ℕ = next_byte s p true in
    cu_rest s second.place (cu_flags_of f) (cu_second_of (flags_of (or_zero second.field))) carried
