-- Iarwennol. COMPRESSED_RTP (rule 6.2): its bytes, and the reader that takes them apart from left to right.
-- The reader begins past the flag byte. Used by the compressor through outgoing, and by the decompressor.
use Rattle.std.specs.Prelude.{ℕ, Bool, true, false, None, is_some, ◌&&◌, ◌||◌, List, [], ◌∷◌, ◌++◌}
use Rattle.codes.specs.Bytes.{big_endian}
use Rattle.packet.specs.declared.parts.Parts.{Parts}
use Rattle.octets.specs.declared.flags.Flags.{Flags}
use Rattle.octets.specs.Flags.{flags_of, byte_of}
use Rattle.octets.specs.Put.{optional, list_bytes}
use Rattle.fields.specs.declared.place.Place.{Place}
use Rattle.fields.specs.declared.place.Got.{Got}
use Rattle.fields.specs.Place.{or_zero}
use Rattle.fields.specs.declared.place.GotList.{GotList}
use Rattle.fields.specs.Next.{next_byte, next_word, next_delta16, next_delta32, next_list}
use Rattle.links.specs.declared.head.ReadParts.{ReadParts}
use Rattle.links.specs.declared.cr.CrFlags.{CrFlags}
use Rattle.links.specs.declared.cr.Second.{Second}
use Rattle.links.specs.declared.cr.Deltas.{Deltas}
use Rattle.links.specs.Sent.{delta}
use Rattle.links.specs.Head.{head_bytes}

---- the flag bytes, both ways

-- rule 6.2: M, S, T, I; the number is the link sequence in the first byte, the CSRC count in the second
abbrev pub cr_flags_of : Flags → CrFlags
cr_flags_of f = record { marker = f.bit7; dsn = f.bit6; dts = f.bit5; did = f.bit4 }

abbrev pub cr_flags_bits : (number : ℕ) → CrFlags → Flags
cr_flags_bits number f = record { bit7 = f.marker; bit6 = f.dsn; bit5 = f.dts; bit4 = f.did; low = number }

---- bytes

-- what the flags say of some parts
abbrev pub cr_sent : Parts → CrFlags
cr_sent h = record { marker = h.marker; dsn = is_some h.dsn; dts = is_some h.dts; did = is_some h.did }

-- rule 6.2: 1111 where the second byte stands, else the flags themselves
abbrev pub cr_first : (listed : Bool) → CrFlags → CrFlags
cr_first listed own =
    record { marker = listed || own.marker; dsn = listed || own.dsn; dts = listed || own.dts; did = listed || own.did }

abbrev pub cr_flags : (link : ℕ) → Parts → Flags
cr_flags link h = cr_flags_bits link (cr_first h.listed (cr_sent h))

abbrev pub cr_second_byte : Parts → ℕ
cr_second_byte h = byte_of (cr_flags_bits h.csrc.count (cr_sent h))

-- rule 6.2: the second byte, where it stands
abbrev pub second_bytes : (listed : Bool) → Parts → List ℕ
second_bytes listed h = optional listed (cr_second_byte h ∷ [])

-- rule 6.2: the differences of ID, sequence and timestamp
abbrev pub deltas_bytes : Parts → List ℕ
deltas_bytes h = delta 16 h.did ++ (delta 16 h.dsn ++ delta 32 h.dts)

-- rule 6.2: all that comes before what is copied
unfoldable pub cr_bytes : (context link : ℕ) → (carried : Bool) → Parts → List ℕ
cr_bytes context link carried h =
    head_bytes context (cr_flags link h)
    ++ (optional carried (big_endian 2 h.checksum) ++ (second_bytes h.listed h ++ (deltas_bytes h ++ list_bytes h.csrc)))

---- reader

-- rule 6.2: M, S, T, I are 1111
abbrev pub all_four : CrFlags → Bool
all_four f = f.marker && f.dsn && f.dts && f.did

-- rule 6.2: the flags in effect and the count: those of the second byte g where it stands, else the first, with no list
unfoldable pub second_with : Bool → CrFlags → (g : Flags) → Place → Second
second_with true f g p = record { place = p; listed = true; flags = cr_flags_of g; count = g.low }
second_with false f g p = record { place = p; listed = false; flags = f; count = 0 }

-- rule 6.2
unfoldable pub second_of : List ℕ → Place → CrFlags → Second
second_of s p f =
    let second : Got ℕ = next_byte s p (all_four f) in
    second_with (all_four f) f (flags_of (or_zero second.field)) second.place

-- rule 6.2: the differences of the ID if I, of the sequence if S, of the timestamp if T
unfoldable pub deltas_of : List ℕ → Place → CrFlags → Deltas
deltas_of s p f =
    let did : Got ℕ = next_delta16 s p f.did in
    let dsn : Got ℕ = next_delta16 s did.place f.dsn in
    let dts : Got ℕ = next_delta32 s dsn.place f.dts in
    record { place = dts.place; did = did.field; dsn = dsn.field; dts = dts.field }

abbrev pub cr_parts : (checksum : ℕ) → Second → Deltas → GotList → ReadParts
cr_parts checksum n d l = record {
  place = l.place;
  parts = record {
    marker = n.flags.marker;
    checksum = checksum;
    id = None;
    sequence = None;
    timestamp = None;
    payload = None;
    did = d.did;
    dsn = d.dsn;
    dts = d.dts;
    listed = n.listed;
    csrc = l.list;
  };
}

-- past the checksum and the second byte
unfoldable pub cr_rest : List ℕ → (checksum : ℕ) → Second → ReadParts
cr_rest s checksum second =
    let deltas : Deltas = deltas_of s second.place second.flags in
    let csrc : GotList = next_list s deltas.place second.count in
    cr_parts checksum second deltas csrc

-- rule 6.2: past the flag byte f
unfoldable pub cr_of : List ℕ → Place → Flags → (carried : Bool) → ReadParts
cr_of s p f carried =
    let checksum : Got ℕ = next_word s p carried in
    cr_rest s (or_zero checksum.field) (second_of s checksum.place (cr_flags_of f))
