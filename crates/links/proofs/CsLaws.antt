-- Iarwennol. Laws of CONTEXT_STATE: what a good request is, and that a report is one. Assume nothing.
-- Used by the proofs of the judging functions, by the compressor's request and by the decompressor's report.
use Rattle.std.specs.Prelude.{ℕ, zero, suc, ◌+◌, ◌-◌, ◌*◌, ◌/◌, ◌≤◌, ◌<◌, ◌≡◌, Bool, not, ◌||◌, List, [], ◌∷◌, ◌++◌, ltb, length}
use Rattle.std.specs.Prelude.{get_or, drop}
use Rattle.std.proofs.Math.Path.{refl}
use Rattle.std.proofs.Common.{ap, ◌∙◌, add-zero, zero-add, add-one, arith, drop-drop, drop-cons}
use Rattle.std.proofs.Math.Bool.{true, false, cond}
use borrow.Author.Tests.{le-ltb, lt-leb, le-leb, eq-eqb, ne_eqb, leb-false, eqb-true, not-false}
use Rattle.std.proofs.Math.Dec.{eqb, leb}
use Rattle.std.proofs.Math.Seq.{drop-nil}
use Rattle.codes.specs.Numbers.{cut, forbidden, no_such_context}
use Rattle.codes.specs.Bytes.{AllBytes, none, more}
use Rattle.codes.specs.Reading.{byte_at}
use Rattle.codes.proofs.RoundTrip.{left-first, left-byte, left_after}
use Rattle.octets.specs.Flags.{flags_of, byte_of}
use Rattle.octets.specs.FlagsLaws.{flags_of-byte_of, byte_of-lt}
use Rattle.packet.specs.Refusal.{first_refusal}
use Rattle.packet.specs.RefusalLaws.{first_refusal-accepted}
use Rattle.links.specs.declared.cs.RecordFlags.{RecordFlags}
use Rattle.links.specs.Cs.{State, record_flags_of, record_flags_bits, record_flags, record_bytes, records_bytes, cs_bytes}
use Rattle.links.specs.Cs.{record_count, record_at, record_context, record_flags_at, record_asks}
use Rattle.links.specs.Cs.{bits_forbidden, record_with, record_judged, records_judged, request_judged, RequestGood}

---- the flag byte of a record

record_flags_of-bits : (f : RecordFlags) → f.link < 16 → record_flags_of (flags_of (byte_of (record_flags_bits f))) ≡ f
record_flags_of-bits f h = ap record_flags_of (flags_of-byte_of (record_flags_bits f) h)

---- record_with: context number, then bits

module _ (k context : ℕ) (f : RecordFlags) (generation : ℕ) where
  pub record_with-context : k ≤ context → record_with k context f generation ≡ no_such_context
  unfolding record_with
  record_with-context h = rw (le-leb k context h)

  pub record_with-bits : context < k → (b : Bool) → bits_forbidden f generation ≡ b
      → record_with k context f generation ≡ cond b forbidden 0
  unfolding record_with
  record_with-bits h b e = rw (lt-leb k context h, e)

  record_with-good : record_with k context f generation ≡ 0 → context < k
  unfolding record_with
  record_with-good = by (leb k context) refl
    where
      by : (b : Bool) → leb k context ≡ b
          → cond b no_such_context (cond (bits_forbidden f generation) forbidden 0) ≡ 0 → context < k
      by true e g = absurd (omega arith)
      by false e g = leb-false _ _ e

---- records_judged

module _ (k : ℕ) (s : List ℕ) where
  -- one record, and the others
  pub records_judged-more : (i n : ℕ) → i < n
      → records_judged k s i (n - i) ≡ first_refusal (record_judged k s i) (records_judged k s (i + 1) (n - (i + 1)))
  records_judged-more i n h = let e : n - i ≡ suc (n - (i + 1)) = omega arith in rw (e, add-one)

  pub records_judged-none : (i n : ℕ) → n ≤ i → records_judged k s i (n - i) ≡ 0
  records_judged-none i n h = let e : n - i ≡ 0 = omega arith in rw e

---- what a good request is

module _ (k : ℕ) (s : List ℕ) where
  record_judged-context : (i : ℕ) → record_judged k s i ≡ 0 → record_context s i < k
  unfolding record_judged
  record_judged-context i = record_with-good k _ (record_flags_at s i) (byte_at s (record_at i + 2))

  records_judged-contexts : (n i : ℕ) → records_judged k s i n ≡ 0 → (j : ℕ) → j < n → record_context s (i + j) < k
  records_judged-contexts zero i e j h = absurd (omega arith)
  records_judged-contexts (suc n) i e zero h =
      rw add-zero (record_judged-context i (first_refusal-accepted (record_judged k s i) (records_judged k s (suc i) n) e).0)
  records_judged-contexts (suc n) i e (suc j) h =
      let q : i + suc j ≡ suc i + j = omega arith in
      rw q (records_judged-contexts n (suc i) (first_refusal-accepted (record_judged k s i) (records_judged k s (suc i) n) e).1 j
      (omega arith))

  request-by : (a b c : Bool) → not (eqb (length s) (2 + 3 * record_count s)) ≡ c
      → cond a cut (cond b forbidden (cond c cut (records_judged k s 0 (record_count s)))) ≡ 0 → RequestGood k s
  request-by true b c f e = absurd (omega arith)
  request-by false true c f e = absurd (omega arith)
  request-by false false true f e = absurd (omega arith)
  request-by false false false f e = record {
    exact = eqb-true _ _ (not-false _ f);
    contexts = λ j h. rw zero-add at (records_judged-contexts (record_count s) 0 e j h);
  }

  pub request_judged-good : request_judged k s ≡ 0 → RequestGood k s
  unfolding request_judged
  request_judged-good e =
      request-by (ltb (length s) 2) (not (eqb (byte_at s 0) 1) || eqb (record_count s) 0)
      (not (eqb (length s) (2 + 3 * record_count s))) refl e

---- cs_bytes

-- what a report may say of a context
pub record StateFits (k : ℕ) (r : State) : Type 0 where
  pub context : r.context < k
  pub link : r.link < 16
  pub generation : r.generation < 64

pub data StatesFit (k : ℕ) : List State → Type 0 where
  none-fit : StatesFit k []
  more-fit : {r : State} {rs : List State} → StateFits k r → StatesFit k rs → StatesFit k (r ∷ rs)

pub length-records_bytes : (rs : List State) → length (records_bytes rs) ≡ 3 * length rs
length-records_bytes [] = refl
length-records_bytes (r ∷ rs) = let e = length-records_bytes rs in omega arith

pub length-cs_bytes : (rs : List State) → length (cs_bytes rs) ≡ 2 + 3 * length rs
unfolding cs_bytes
length-cs_bytes rs = let e = length-records_bytes rs in omega arith

-- one record more at the end
pub records_bytes-append : (rs qs : List State) → records_bytes (rs ++ qs) ≡ records_bytes rs ++ records_bytes qs
records_bytes-append [] qs = refl
records_bytes-append (r ∷ rs) qs = rw (records_bytes-append rs qs)

module _ (k : ℕ) (s : List ℕ) where
  record-good : (i : ℕ) (r : State) (l : List ℕ) → StateFits k r
      → drop (record_at i) s ≡ record_bytes r.context r.link r.generation ++ l → record_judged k s i ≡ 0
  unfolding record_judged
  record-good i r l f e =
      rw (
        left-first s (record_at i) _ e,
        left-byte s (record_at i) _ e 1,
        left-byte s (record_at i) _ e 2,
        record_flags_of-bits (record_flags r.link) f.link,
      )
      (record_with-bits k r.context (record_flags r.link) r.generation f.context false
      (rw (eq-eqb (r.generation / 64) 0 (omega (arith, f.generation)))))

  next-record : (i : ℕ) (r : State) (l : List ℕ) → drop (record_at i) s ≡ record_bytes r.context r.link r.generation ++ l
      → drop (record_at (suc i)) s ≡ l
  next-record i r l e =
      let q : record_at (suc i) ≡ record_at i + 3 = omega arith in
      rw q (left_after s (record_at i) _ e 3)

  records-good : (rs : List State) (i : ℕ) → StatesFit k rs → drop (record_at i) s ≡ records_bytes rs
      → records_judged k s i (length rs) ≡ 0
  records-good [] i f e = refl
  records-good (r ∷ rs) i (more-fit h f) e =
      rw (record-good i r (records_bytes rs) h e) (records-good rs (suc i) f (next-record i r (records_bytes rs) e))

-- a report of at least one context is a good request
pub request_judged-cs_bytes : (k : ℕ) (rs : List State) → 0 < length rs → StatesFit k rs → request_judged k (cs_bytes rs) ≡ 0
unfolding request_judged cs_bytes
request_judged-cs_bytes k rs h f =
    let n = length-records_bytes rs in
    rw (
      le-ltb (length (1 ∷ length rs ∷ records_bytes rs)) 2 (omega arith),
      ne_eqb (length rs) 0 (λ e. omega arith),
      eq-eqb (length (1 ∷ length rs ∷ records_bytes rs)) (2 + 3 * length rs) (omega arith),
    )
    (records-good k (1 ∷ length rs ∷ records_bytes rs) rs 0 f refl)

---- a report, read back

records-drop : (i : ℕ) (rs : List State) → drop (3 * i) (records_bytes rs) ≡ records_bytes (drop i rs)
records-drop zero rs = refl
records-drop (suc i) [] = drop-nil (3 * suc i)
records-drop (suc i) (r ∷ rs) =
    let q : 3 * suc i ≡ 3 + 3 * i = omega arith in
    rw (q, ← drop-drop (3 * i) 3 (records_bytes (r ∷ rs))) (records-drop i rs)

record-at : (rs : List State) (i : ℕ) (d : State) → i < length rs
    → drop (record_at i) (cs_bytes rs) ≡ record_bytes (get_or rs i d).context (get_or rs i d).link (get_or rs i d).generation
    ++ records_bytes (drop (suc i) rs)
unfolding cs_bytes
record-at rs i d h = rw (← drop-drop (3 * i) 2 (1 ∷ length rs ∷ records_bytes rs), records-drop i rs, drop-cons rs i d h)

module _ (rs : List State) (i : ℕ) (d : State) (there : i < length rs) where
  pub record_context-cs_bytes : record_context (cs_bytes rs) i ≡ (get_or rs i d).context
  record_context-cs_bytes = left-first (cs_bytes rs) (record_at i) _ (record-at rs i d there)

  pub record_asks-cs_bytes : (get_or rs i d).link < 16 → record_asks (cs_bytes rs) i ≡ true
  record_asks-cs_bytes h =
      ap (λ (b : ℕ). (record_flags_of (flags_of b)).asks) (left-byte (cs_bytes rs) (record_at i) _ (record-at rs i d there) 1)
      ∙ ap (λ (f : RecordFlags). f.asks) (record_flags_of-bits (record_flags (get_or rs i d).link) h)

---- bytes

pub AllBytes-records_bytes : {k : ℕ} {rs : List State} → k ≤ 256 → StatesFit k rs → AllBytes (records_bytes rs)
AllBytes-records_bytes h none-fit = none
AllBytes-records_bytes h (more-fit {r} {rs} f fs) =
    more {b = r.context} (omega (arith, f.context))
    (more (byte_of-lt (record_flags_bits (record_flags r.link)) f.link)
    (more {b = r.generation} (omega (arith, f.generation)) (AllBytes-records_bytes h fs)))

pub AllBytes-cs_bytes : {k : ℕ} (rs : List State) → k ≤ 256 → length rs < 256 → StatesFit k rs → AllBytes (cs_bytes rs)
unfolding cs_bytes
AllBytes-cs_bytes rs h n f = more {b = 1} (omega arith) (more n (AllBytes-records_bytes h f))
