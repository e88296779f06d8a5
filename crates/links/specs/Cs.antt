-- Iarwennol. CONTEXT_STATE (rule 6.6): its bytes, and how a request of any bytes is judged (rule 9.2) and read.
-- Used by the decompressor's report and by the compressor's request.
use Rattle.std.specs.Prelude.{ℕ, zero, suc, ◌+◌, ◌*◌, ◌/◌, ◌<◌, ◌≡◌, Bool, true, false, cond, not, ◌||◌, List, [], ◌∷◌, ◌++◌, eqb}
use Rattle.std.specs.Prelude.{leb, ltb, length}
use Rattle.codes.specs.Numbers.{cut, forbidden, no_such_context}
use Rattle.codes.specs.Reading.{byte_at}
use Rattle.octets.specs.declared.flags.Flags.{Flags}
use Rattle.octets.specs.Flags.{flags_of, byte_of}
use Rattle.links.specs.declared.cs.RecordFlags.{RecordFlags}
use Rattle.packet.specs.Refusal.{first_refusal}

---- the flag byte of a record, both ways

-- rule 6.6: the flag byte of a record
abbrev pub record_flags_of : Flags → RecordFlags
record_flags_of f = record { asks = f.bit7; zero1 = f.bit6; zero2 = f.bit5; zero3 = f.bit4; link = f.low }

abbrev pub record_flags_bits : RecordFlags → Flags
record_flags_bits f = record { bit7 = f.asks; bit6 = f.zero1; bit5 = f.zero2; bit4 = f.zero3; low = f.link }

---- bytes

-- rule 9.1: what a report says of one context
pub record State : Type 0 where
  pub context : ℕ
  pub link : ℕ
  pub generation : ℕ

-- rule 6.6: the bits 1, 0, 0, 0 and the last link sequence
abbrev pub record_flags : (link : ℕ) → RecordFlags
record_flags link = record { asks = true; zero1 = false; zero2 = false; zero3 = false; link = link }

-- rule 6.6: context number, flag byte, generation
abbrev pub record_bytes : (context link generation : ℕ) → List ℕ
record_bytes context link generation = context ∷ byte_of (record_flags_bits (record_flags link)) ∷ generation ∷ []

abbrev pub records_bytes : List State → List ℕ
records_bytes [] = []
records_bytes (r ∷ rs) = record_bytes r.context r.link r.generation ++ records_bytes rs

-- rule 6.6: type code, count, records
unfoldable pub cs_bytes : List State → List ℕ
cs_bytes rs = 1 ∷ length rs ∷ records_bytes rs

---- what a request says

-- rule 6.6
abbrev pub record_count : List ℕ → ℕ
record_count s = byte_at s 1

-- rule 6.6: where record i stands, its context number, its flags, and whether it asks for full headers
abbrev pub record_at : ℕ → ℕ
record_at i = 2 + 3 * i

abbrev pub record_context : List ℕ → ℕ → ℕ
record_context s i = byte_at s (record_at i)

abbrev pub record_flags_at : List ℕ → ℕ → RecordFlags
record_flags_at s i = record_flags_of (flags_of (byte_at s (record_at i + 1)))

-- rule 9.4: its top bit
abbrev pub record_asks : List ℕ → ℕ → Bool
record_asks s i = (record_flags_at s i).asks

---- how it is judged (rule 9.2)

-- a bit is set that rule 6.6 has as 0: one of three, or of the two above the generation
abbrev pub bits_forbidden : RecordFlags → (generation : ℕ) → Bool
bits_forbidden f generation = f.zero1 || f.zero2 || f.zero3 || not (eqb (generation / 64) 0)

-- rule 9.2: 6, then 5; k: how many contexts there are
unfoldable pub record_with : (k context : ℕ) → RecordFlags → (generation : ℕ) → ℕ
record_with k context f generation = cond (leb k context) no_such_context (cond (bits_forbidden f generation) forbidden 0)

-- rule 9.2: record i
unfoldable pub record_judged : (k : ℕ) → List ℕ → ℕ → ℕ
record_judged k s i = record_with k (record_context s i) (record_flags_at s i) (byte_at s (record_at i + 2))

-- rule 9.2: n records from record i on: the first that is refused
abbrev pub records_judged : (k : ℕ) → List ℕ → (i n : ℕ) → ℕ
records_judged k s i zero = 0
records_judged k s i (suc n) = first_refusal (record_judged k s i) (records_judged k s (suc i) n)

-- rule 9.2: 4, 5, 4, then by the records
unfoldable pub request_judged : (k : ℕ) → List ℕ → ℕ
request_judged k s =
    cond (ltb (length s) 2) cut
    (cond (not (eqb (byte_at s 0) 1) || eqb (record_count s) 0) forbidden
    (cond (not (eqb (length s) (2 + 3 * record_count s))) cut
    (records_judged k s 0 (record_count s))))

-- what a good request is, as far as it is acted on
pub record RequestGood (k : ℕ) (s : List ℕ) : Type 0 where
  pub exact : length s ≡ 2 + 3 * record_count s
  pub contexts : (i : ℕ) → i < record_count s → record_context s i < k
