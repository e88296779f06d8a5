-- Iarwennol. A saved table (rules 14.1 to 14.7): its bytes, and what bytes stand for. Part by part in the order of the layout,
-- each with what a save writes there and what a load takes there.
-- Used by the contracts of save and load, and by the theorem on lists of calls (crtp), which is about these very definitions.
use Rattle.std.specs.Prelude.{ℕ, zero, suc, ◌+◌, ◌%◌, Bool, true, false, cond, not, ◌&&◌, ◌||◌, List, [], ◌∷◌, ◌++◌, eqb, leb}
use Rattle.std.specs.Prelude.{length, set, take, drop, replicate}
use Rattle.codes.specs.Bytes.{big_endian}
use Rattle.codes.specs.Difference.{has_code}
use Rattle.codes.specs.Numbers.{unsound, cut, forbidden}
use Rattle.codes.specs.Reading.{has, word_at}
use Rattle.packet.specs.Csrc.{no_list}
use Rattle.packet.specs.Refusal.{verdict_number, is_accepted}
use Rattle.packet.specs.declared.header.Header.{Header}
use Rattle.settings.specs.declared.Settings.{Settings}
use Rattle.headers.specs.Header.{count_at, header_of, header_bytes, size_with, header_size}
use Rattle.headers.specs.Compressible.{fixed_form}
use Rattle.fields.specs.declared.place.Place.{Place}
use Rattle.fields.specs.declared.place.Got.{Got}
use Rattle.fields.specs.Place.{good, stopped, there, or_zero}
use Rattle.fields.specs.Next.{next_byte, next_word, next_long}
use Rattle.context.specs.Decompressor.{rebuilt}
use Rattle.context.specs.Sound.{no_flow, no_ip, no_rtp, empty_decompressor}
use Rattle.context.specs.declared.decompressor.Status.{Status}
use Rattle.context.specs.declared.decompressor.Status.TheVariants.{Empty, Live, Broken}
use Rattle.context.specs.declared.decompressor.DecompressorContext.{DecompressorContext}
use Rattle.decompressor.specs.declared.table.Table.{Table}
use Rattle.decompressor.specs.Answer.{Result, accepted, refused, delivered}
use Rattle.decompressor.specs.Table.{sound_of}
use Rattle.saves.specs.declared.read.Front.{Front}
use Rattle.saves.specs.declared.read.Fixed.{Fixed}
use Rattle.saves.specs.declared.read.GotHeader.{GotHeader}
use Rattle.saves.specs.declared.read.GotContext.{GotContext}
use Rattle.saves.specs.declared.read.GotContexts.{GotContexts}

-- rule 14.5: a reading goes on where a test holds, else it is refused with this number; one that was refused before stays so
unfoldable pub checked : Place → (ok : Bool) → (number : ℕ) → Place
checked p ok number = cond (is_accepted p.verdict && not ok) (stopped p.cursor.at number) p

-- rule 14.6: 5 for a number that no save writes there
abbrev pub allowed : Place → (ok : Bool) → Place
allowed p ok = checked p ok forbidden

-- rule 14.6: a byte of at most so much
unfoldable pub next_up_to : List ℕ → Place → (wanted : Bool) → (most : ℕ) → Got ℕ
next_up_to s p wanted most =
    let g : Got ℕ = next_byte s p wanted in
    record { place = allowed g.place (leb (or_zero g.field) most); field = g.field }

---- What stands before the records

-- rule 14.1
abbrev pub version : ℕ
version = 1

-- rule 14.1: version, N, K
abbrev pub front_bytes : Settings → List ℕ
front_bytes s = (version ∷ []) ++ ((s.repeats ∷ []) ++ (s.contexts ∷ []))

-- rule 14.5: the length of all that follows: 4 where there is less, 5 where there is more
unfoldable pub whole_of : List ℕ → Place
whole_of s =
    let size : Got ℕ = next_word s (good 0) true in
    allowed (checked size.place (leb (2 + (or_zero size.field)) (length s)) cut) (leb (length s) (2 + (or_zero size.field)))

-- rules 14.5, 14.6: version 1, N up to 14, K from 1 to 64
unfoldable pub front_of : List ℕ → Front
front_of s =
    let first : Got ℕ = next_byte s (whole_of s) true in
    let repeats : Got ℕ = next_up_to s (allowed first.place (eqb (or_zero first.field) version)) true 14 in
    let contexts : Got ℕ = next_up_to s repeats.place true 64 in
    record {
      place = allowed contexts.place (leb 1 (or_zero contexts.field));
      settings = record { repeats = or_zero repeats.field; contexts = or_zero contexts.field };
    }

---- The record of a context: its fields before the header

-- rule 14.2: the state of a context as a number, and back
abbrev pub state_of : Status → ℕ
state_of Empty = 0
state_of Live = 1
state_of Broken = 2

abbrev pub status_of : ℕ → Status
status_of state = cond (eqb state (state_of Empty)) Empty (cond (eqb state (state_of Live)) Live Broken)

-- rules 14.2, 14.5, 14.6: up to the header's size; those past the state are not there where the context is empty
unfoldable pub fixed_of : List ℕ → Place → Fixed
fixed_of s p =
    let state : Got ℕ = next_up_to s p true 2 in
    let used = not (eqb (or_zero state.field) (state_of Empty)) in
    let generation : Got ℕ = next_up_to s state.place used 63 in
    let sequence : Got ℕ = next_up_to s generation.place used 15 in
    let did : Got ℕ = next_word s sequence.place used in
    let dts : Got ℕ = next_long s did.place used in
    let size : Got ℕ = next_byte s (allowed dts.place (has_code 32 (or_zero dts.field))) used in
    record {
      place = size.place;
      state = or_zero state.field;
      generation = or_zero generation.field;
      sequence = or_zero sequence.field;
      did = or_zero did.field;
      dts = or_zero dts.field;
      size = or_zero size.field;
    }

-- rule 14.6: without a header only a broken context is saved, and that one holds 0 everywhere
abbrev pub unfilled_allowed : Fixed → Bool
unfilled_allowed f =
    eqb f.state (state_of Broken)
    && eqb f.generation 0
    && eqb f.sequence 0
    && eqb f.did 0
    && eqb f.dts 0

-- rule 14.6: 40, and 4 for each of up to 15 CSRC words
abbrev pub header_allowed : (size : ℕ) → Bool
header_allowed size = leb 40 size && leb size 100 && eqb (size % 4) 0

-- rule 14.6
unfoldable pub size_allowed : Fixed → Bool
size_allowed f = cond (eqb f.state (state_of Empty)) true (cond (eqb f.size 0) (unfilled_allowed f) (header_allowed f.size))

---- Its header

-- rule 14.3: the header at which the context stands; both lengths and the IP checksum are 0, the UDP checksum is FFFF or 0000
abbrev pub kept : DecompressorContext → Header
kept c = rebuilt c 0xFFFF

-- rule 14.3
abbrev pub kept_bytes : Header → List ℕ
kept_bytes h = header_bytes 0 0 0 h

-- rules 14.3, 14.6: the form of such a header of so many bytes
unfoldable pub kept_form : (size : ℕ) → List ℕ → Bool
kept_form size p =
    fixed_form p
    && eqb (word_at p 2) 0
    && eqb (word_at p 10) 0
    && eqb (word_at p 24) 0
    && (eqb (word_at p 26) 0 || eqb (word_at p 26) 0xFFFF)
    && eqb (size_with (count_at p 28)) size

-- what is got where there is none
abbrev pub no_header : Header
no_header = record { flow = no_flow; ip = no_ip; rtp = no_rtp; csrc = no_list; marker = false; checksum = 0 }

-- rules 14.5, 14.6: a header of so many bytes, p, which is one field
abbrev pub formed_header : (at size : ℕ) → (p : List ℕ) → GotHeader
formed_header at size p =
    cond (kept_form size p) (record { place = good (at + size); header = header_of p })
    (record { place = stopped at forbidden; header = no_header })

-- rule 14.5: 4 where it is not all there
abbrev pub header_field : List ℕ → (at size : ℕ) → GotHeader
header_field s at size =
    cond (has s at size) (formed_header at size (take size (drop at s))) (record { place = stopped at cut; header = no_header })

-- rule 14.2: a size of 0 has no header
unfoldable pub header_from : List ℕ → Place → (size : ℕ) → GotHeader
header_from s p size =
    cond (is_accepted p.verdict && not (eqb size 0)) (header_field s p.cursor.at size)
    (record { place = p; header = no_header })

---- The record, whole

-- rule 14.2: the header's size and the header, where the context was ever filled
abbrev pub header_part : DecompressorContext → List ℕ
header_part c = cond c.filled (header_size (kept c) ∷ kept_bytes (kept c)) (0 ∷ [])

-- rule 14.2: state, generation, link sequence, both deltas, header
abbrev pub used_bytes : (state : ℕ) → DecompressorContext → List ℕ
used_bytes state c =
    (state ∷ [])
    ++ ((c.link.generation ∷ [])
    ++ ((c.link.sequence ∷ [])
    ++ (big_endian 2 c.deltas.id ++ (big_endian 4 c.deltas.timestamp ++ header_part c))))

-- rule 14.2: of an empty context the state alone
abbrev pub record_by : Status → DecompressorContext → List ℕ
record_by Empty c = state_of Empty ∷ []
record_by Live c = used_bytes (state_of Live) c
record_by Broken c = used_bytes (state_of Broken) c

-- rule 14.2
unfoldable pub record_bytes : DecompressorContext → List ℕ
record_bytes c = record_by c.status c

-- rules 14.2, 14.3: the context that a record stands for
unfoldable pub context_of : Fixed → Header → DecompressorContext
context_of f h = record {
  status = status_of f.state;
  filled = not (eqb f.size 0);
  flow = h.flow;
  ip = h.ip;
  rtp = h.rtp;
  csrc = h.csrc;
  carried = not (eqb h.checksum 0);
  marker = h.marker;
  deltas = record { id = f.did; timestamp = f.dts };
  link = record { sequence = f.sequence; generation = f.generation };
}

-- rules 14.2, 14.5: fields, then header
abbrev pub record_from : List ℕ → Fixed → GotContext
record_from s f =
    let h : GotHeader = header_from s (allowed f.place (size_allowed f)) f.size in
    record { place = h.place; context = context_of f h.header }

-- rules 14.2, 14.5
unfoldable pub record_of : List ℕ → Place → GotContext
record_of s p = record_from s (fixed_of s p)

---- The records, one for each context from 0 to K-1

-- rule 14.1
abbrev pub records_bytes : List DecompressorContext → List ℕ
records_bytes [] = []
records_bytes (c ∷ cs) = record_bytes c ++ records_bytes cs

-- one record more
abbrev pub with_record : (n : ℕ) → GotContexts → GotContext → GotContexts
with_record n q r = record { place = r.place; contexts = set q.contexts n r.context }

-- rules 14.1, 14.7: the contexts past them are empty
abbrev pub records_of : List ℕ → Place → (n : ℕ) → GotContexts
records_of s p zero = record { place = p; contexts = replicate 64 empty_decompressor }
records_of s p (suc n) = let q : GotContexts = records_of s p n in with_record n q (record_of s q.place)

---- A table, whole

-- rule 14.1: the length first
abbrev pub body_bytes : Table → List ℕ
body_bytes t = front_bytes t.settings ++ records_bytes (take t.settings.contexts t.contexts)

-- rule 14.1
unfoldable pub saved_bytes : Table → List ℕ
saved_bytes t = big_endian 2 (length (body_bytes t)) ++ body_bytes t

-- rule 14.4: refused with 1, 11; the table stays
unfoldable pub save_of : Table → (output : List ℕ) → Result
save_of t output = cond (sound_of t) (delivered t t (saved_bytes t) output) (refused t unsound output)

-- rule 14.7: what the reading came to: the table that the bytes stand for; or the one that was handed in, whatever it holds
abbrev pub settled : Table → Place → Table → Result
settled t p new = cond (is_accepted p.verdict) (accepted new [] []) (refused t (verdict_number p.verdict) [])

-- rule 14.5: last, 5 for bytes left over
abbrev pub load_records : Table → Settings → GotContexts → (s : List ℕ) → Result
load_records t x q s =
    settled t (allowed q.place (eqb q.place.cursor.at (length s))) (record { settings = x; contexts = q.contexts })

-- rules 14.5, 14.7
abbrev pub load_from : Table → Front → (s : List ℕ) → Result
load_from t f s =
    cond (is_accepted f.place.verdict)
    (load_records t f.settings (records_of s f.place f.settings.contexts) s)
    (refused t (verdict_number f.place.verdict) [])

-- rules 14.5, 14.7
unfoldable pub load_of : Table → (s : List ℕ) → Result
load_of t s = load_from t (front_of s) s
