-- Iarwennol. Worked cases of saved tables (rules 14.1 to 14.6): files written out by hand, and what they are. By computation; they
-- hold the definitions to what they are meant to say, where a slip in both directions would pass the laws.
use Rattle.std.specs.Prelude.{ℕ, ◌≡◌, refl, true, false, List, [], ◌∷◌, ◌++◌, length, set, take, replicate}
use Rattle.codes.specs.Difference.{has_code}
use Rattle.codes.specs.Reading.{read_byte, read_word, read_long}
use Rattle.headers.specs.Compressible.{fixed_form}
use Rattle.headers.specs.Header.{rtp_at, flow_of, ip_of, header_of, ip_front, ip_back, udp_bytes, rtp_fixed, header_bytes}
use Rattle.fields.specs.Next.{next_as, next_byte, next_word, next_long}
use Rattle.context.specs.Decompressor.{rebuilt}
use Rattle.context.specs.Sound.{empty_decompressor}
use Rattle.context.specs.declared.decompressor.Status.TheVariants.{Live, Broken}
use Rattle.context.specs.declared.decompressor.DecompressorContext.{DecompressorContext}
use Rattle.decompressor.specs.declared.table.Table.{Table}
use Rattle.decompressor.specs.Answer.{Result, accepted, refused}
use Rattle.decompressor.specs.Table.{unopened}
use Rattle.saves.specs.Saves.{checked, next_up_to, kept_form, header_from, record_bytes, fixed_of, size_allowed, context_of}
use Rattle.saves.specs.Saves.{record_of}
use Rattle.saves.specs.Saves.{whole_of, front_of, saved_bytes, load_of}

---- The files

-- length 6; version 1, N 2, K 3; three empty contexts
abbrev pub nothing : List ℕ
nothing = 0x00 ∷ 0x06 ∷ 0x01 ∷ 0x02 ∷ 0x03 ∷ 0x00 ∷ 0x00 ∷ 0x00 ∷ []

-- a header as it is kept: TOS 7, ID 1234, DF, TTL 64, 10.0.0.1 to 10.0.0.2, ports 5004 and 5007, the UDP checksum carried; one CSRC
-- word; marker and payload type 96, sequence 9, timestamp 10, SSRC 5
abbrev pub header : List ℕ
header =
    0x45 ∷ 0x07 ∷ 0x00 ∷ 0x00 ∷ 0x12 ∷ 0x34 ∷ 0x40 ∷ 0x00
    ∷ 0x40 ∷ 0x11 ∷ 0x00 ∷ 0x00 ∷ 0x0A ∷ 0x00 ∷ 0x00 ∷ 0x01 ∷ 0x0A ∷ 0x00 ∷ 0x00 ∷ 0x02
    ∷ 0x13 ∷ 0x8C ∷ 0x13 ∷ 0x8F ∷ 0x00 ∷ 0x00 ∷ 0xFF ∷ 0xFF
    ∷ 0x81 ∷ 0xE0 ∷ 0x00 ∷ 0x09 ∷ 0x00 ∷ 0x00 ∷ 0x00 ∷ 0x0A ∷ 0x00 ∷ 0x00 ∷ 0x00 ∷ 0x05
    ∷ 0xCA ∷ 0xFE ∷ 0x00 ∷ 0x01
    ∷ []

-- what stands before the records: length, version, N 1, K 3
abbrev pub front : (high low : ℕ) → List ℕ
front high low = high ∷ low ∷ 0x01 ∷ 0x01 ∷ 0x03 ∷ []

-- live, generation 5, link sequence 4, ID delta 3, timestamp delta 160, header of 44 bytes; then a context that was never filled,
-- and an empty one: 3 + 54 + 10 + 1 bytes after the length
abbrev pub mixed : List ℕ
mixed =
    front 0x00 0x44
    ++ (0x01 ∷ 0x05 ∷ 0x04 ∷ 0x00 ∷ 0x03 ∷ 0x00 ∷ 0x00 ∷ 0x00 ∷ 0xA0 ∷ 0x2C ∷ [])
    ++ header
    ++ (0x02 ∷ 0x00 ∷ 0x00 ∷ 0x00 ∷ 0x00 ∷ 0x00 ∷ 0x00 ∷ 0x00 ∷ 0x00 ∷ 0x00 ∷ [])
    ++ (0x00 ∷ [])

---- The tables

abbrev pub live : DecompressorContext
live = record {
  status = Live;
  filled = true;
  flow = record { source = 0x0A000001; destination = 0x0A000002; sport = 5004; dport = 5007; ssrc = 5 };
  ip = record { tos = 7; ttl = 64; flags = 1; id = 0x1234 };
  rtp = record { padding = false; extension = false; payload = 96; sequence = 9; timestamp = 10 };
  csrc = record { count = 1; words = 0xCAFE0001 ∷ replicate 14 0 };
  carried = true;
  marker = true;
  deltas = record { id = 3; timestamp = 160 };
  link = record { sequence = 4; generation = 5 };
}

abbrev pub never_filled : DecompressorContext
never_filled = record {
  status = Broken;
  filled = false;
  flow = record { source = 0; destination = 0; sport = 0; dport = 0; ssrc = 0 };
  ip = record { tos = 0; ttl = 0; flags = 0; id = 0 };
  rtp = record { padding = false; extension = false; payload = 0; sequence = 0; timestamp = 0 };
  csrc = record { count = 0; words = replicate 15 0 };
  carried = false;
  marker = false;
  deltas = record { id = 0; timestamp = 0 };
  link = record { sequence = 0; generation = 0 };
}

-- with a CSRC list of fifteen words
abbrev pub crowded : DecompressorContext
crowded = record {
  status = Broken;
  filled = true;
  flow = live.flow;
  ip = live.ip;
  rtp = live.rtp;
  csrc = record { count = 15; words = replicate 15 1 };
  carried = false;
  marker = false;
  deltas = live.deltas;
  link = live.link;
}

abbrev pub empty : Table
empty = record { settings = record { repeats = 2; contexts = 3 }; contexts = replicate 64 empty_decompressor }

abbrev pub three : Table
three = record {
  settings = record { repeats = 1; contexts = 3 };
  contexts = live ∷ never_filled ∷ replicate 62 empty_decompressor;
}

-- no table has a longer file
abbrev pub fullest : Table
fullest = record { settings = record { repeats = 14; contexts = 64 }; contexts = replicate 64 crowded }

---- The cases

-- a file with one byte changed, handed to a load beside a table that is not sound
abbrev pub changed : (at byte : ℕ) → Result
changed at byte = load_of unopened (set mixed at byte)

pub record Cases : Type 0 where
  -- rules 14.1 to 14.3
  pub save-empty : saved_bytes empty ≡ nothing
  pub save-mixed : saved_bytes three ≡ mixed
  pub load-empty : load_of unopened nothing ≡ accepted empty [] []
  pub load-mixed : load_of unopened mixed ≡ accepted three [] []
  -- rule 14.1: 2 + 3 + 64 × 110 bytes, of which 7043 follow the length
  pub longest : length (saved_bytes fullest) ≡ 7045
  pub longest-length : take 2 (saved_bytes fullest) ≡ 0x1B ∷ 0x83 ∷ []
  -- rule 14.5: no byte; one; fewer than the length says; more; cut within the records, the length being right; bytes left over
  pub no_byte : load_of empty [] ≡ refused empty 4 []
  pub one_byte : load_of empty (0x00 ∷ []) ≡ refused empty 4 []
  pub fewer : load_of empty (take 7 nothing) ≡ refused empty 4 []
  pub more : load_of empty (nothing ++ (0x00 ∷ [])) ≡ refused empty 5 []
  pub record-cut : load_of empty (set (take 7 nothing) 1 0x05) ≡ refused empty 4 []
  pub left_over : load_of empty (set (nothing ++ (0x00 ∷ [])) 1 0x07) ≡ refused empty 5 []
  pub header-cut : load_of empty (set (take 40 mixed) 1 38) ≡ refused empty 4 []
  -- rule 14.6: version; N; K 0, K over 64; state; generation; link sequence; timestamp delta; size of 0 where live, 42, 36, 104
  pub version-two : changed 2 0x02 ≡ refused unopened 5 []
  pub repeats-15 : changed 3 15 ≡ refused unopened 5 []
  pub contexts-0 : changed 4 0 ≡ refused unopened 5 []
  pub contexts-65 : changed 4 65 ≡ refused unopened 5 []
  pub state-3 : changed 5 3 ≡ refused unopened 5 []
  pub generation-64 : changed 6 64 ≡ refused unopened 5 []
  pub sequence-16 : changed 7 16 ≡ refused unopened 5 []
  pub delta-uncoded : changed 10 0x01 ≡ refused unopened 5 []
  pub size-0 : changed 14 0 ≡ refused unopened 5 []
  pub size-42 : changed 14 42 ≡ refused unopened 5 []
  pub size-36 : changed 14 36 ≡ refused unopened 5 []
  pub size-104 : changed 14 104 ≡ refused unopened 5 []
  -- and of the header: first byte, IP length, MF, fragment offset, protocol, IP checksum, UDP length, UDP checksum, version, CC
  pub first-46 : changed 15 0x46 ≡ refused unopened 5 []
  pub ip-length : changed 18 0x01 ≡ refused unopened 5 []
  pub more-fragments : changed 21 0x60 ≡ refused unopened 5 []
  pub offset : changed 22 0x01 ≡ refused unopened 5 []
  pub protocol-6 : changed 24 0x06 ≡ refused unopened 5 []
  pub ip-checksum : changed 26 0x01 ≡ refused unopened 5 []
  pub udp-length : changed 40 0x01 ≡ refused unopened 5 []
  pub udp-checksum : changed 42 0xFE ≡ refused unopened 5 []
  pub version-1 : changed 43 0x41 ≡ refused unopened 5 []
  pub count-2 : changed 43 0x82 ≡ refused unopened 5 []
  -- a context that was never filled holds nothing else; any port is taken (that of the file is odd), and any delta of the ID
  pub unfilled-generation : changed 60 0x01 ≡ refused unopened 5 []
  pub unfilled-delta : changed 63 0x01 ≡ refused unopened 5 []
  pub unfilled-live : changed 59 0x01 ≡ refused unopened 5 []
  pub any-port : (changed 38 0x92).number ≡ 0
  pub any-delta : (changed 8 0xFF).number ≡ 0

pub cases : Cases
unfolding has_code read_byte read_word read_long fixed_form rtp_at flow_of ip_of header_of ip_front ip_back udp_bytes rtp_fixed
    header_bytes next_as next_byte next_word next_long rebuilt empty_decompressor checked next_up_to kept_form header_from
    record_bytes fixed_of
    size_allowed
    context_of record_of whole_of front_of saved_bytes load_of
cases = record {
  save-empty = refl;
  save-mixed = refl;
  load-empty = refl;
  load-mixed = refl;
  longest = refl;
  longest-length = refl;
  no_byte = refl;
  one_byte = refl;
  fewer = refl;
  more = refl;
  record-cut = refl;
  left_over = refl;
  header-cut = refl;
  version-two = refl;
  repeats-15 = refl;
  contexts-0 = refl;
  contexts-65 = refl;
  state-3 = refl;
  generation-64 = refl;
  sequence-16 = refl;
  delta-uncoded = refl;
  size-0 = refl;
  size-42 = refl;
  size-36 = refl;
  size-104 = refl;
  first-46 = refl;
  ip-length = refl;
  more-fragments = refl;
  offset = refl;
  protocol-6 = refl;
  ip-checksum = refl;
  udp-length = refl;
  udp-checksum = refl;
  version-1 = refl;
  count-2 = refl;
  unfilled-generation = refl;
  unfilled-delta = refl;
  unfilled-live = refl;
  any-port = refl;
  any-delta = refl;
}
