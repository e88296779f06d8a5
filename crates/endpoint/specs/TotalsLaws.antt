-- Iarwennol. Laws of the totals: what one call does to them, whatever they were. Assume nothing.
-- Used by the theorem on histories.
use Rattle.std.specs.Prelude.{ℕ, suc, ◌+◌, ◌≤◌, ◌<◌, ◌≡◌, Bool, true, false, cond, List, [], ◌∷◌, eqb, leb, length, set}
use Rattle.std.proofs.Math.Path.{refl}
use Rattle.std.proofs.Common.{sym, subst, arith, le-leb, leb-true, lt-ltb, le-ltb}
use Rattle.std.proofs.Math.Decide.{dec_le}
use Rattle.crtp.specs.Face as crtp
use Rattle.crtp.specs.Face.{plain, full_header, compressed_udp, compressed_rtp, receive_of, request_of}
use Rattle.endpoint.specs.declared.totals.Totals.{Totals}
use Rattle.endpoint.specs.declared.answer.Endpoint.{Endpoint}
use Rattle.endpoint.specs.Totals.{Event, rebuilt, quiet, is_sent, is_rebuilt, is_refused, last, more, tallied, totals_of}
use Rattle.endpoint.specs.Calls.{judged, context_state, requested_by, answered_by, wire_of, radio_of, report_of}
use Rattle.endpoint.specs.History.{Call, wire, radio, report, answer, event_of, stopped}

---- one total

pub stopped-below : (n : ℕ) → n ≤ last → stopped n ≡ n
stopped-below n h = rw (le-leb n last h)

pub stopped-above : (n : ℕ) → last ≤ n → stopped n ≡ last
stopped-above n h = by (leb n last) refl
  where
    by : (b : Bool) → leb n last ≡ b → cond b n last ≡ last
    by true e = omega (arith, leb-true n last e)
    by false e = refl

more-below : (n : ℕ) → n < last → more true n ≡ suc n
more-below n h = rw (lt-ltb n last h)

more-above : (n : ℕ) → last ≤ n → more true n ≡ n
more-above n h = rw (le-ltb n last h)

-- one more where it counts, but never past the last
pub more-stopped : (counts : Bool) (n : ℕ) → n ≤ last → more counts n ≡ stopped (cond counts 1 0 + n)
more-stopped false n h = omega (arith, stopped-below (0 + n) (omega arith))
more-stopped true n h = by (dec_le (suc n) last)
  where
    by : Dec (suc n ≤ last) → more true n ≡ stopped (1 + n)
    by (yes g) = omega (arith, more-below n g, stopped-below (1 + n) (omega arith))
    by (no g) = omega (arith, more-above n (omega arith), stopped-above (1 + n) (omega arith))

---- one call, from any totals

module _ (e : Endpoint) where
  radio-by : (b : Bool) (r : crtp.sending.Result) (s : crtp.receiving.Result) (output : List ℕ)
      → (cond b (requested_by e output r) (answered_by rebuilt e s)).endpoint.totals
      ≡ tallied e.totals (judged (cond b (requested_by e output r) (answered_by rebuilt e s)).number (cond b quiet rebuilt))
  radio-by true r s output = refl
  radio-by false r s output = refl

  -- the totals after a call are those before it and what the call came to
  pub totals-call : (x : Call) → (answer e x).endpoint.totals ≡ tallied e.totals (event_of x (answer e x))
  unfolding wire_of radio_of report_of
  totals-call (wire p output) = refl
  totals-call (radio kind s output) =
      radio-by (eqb kind context_state) (request_of e.compressor s.list)
      (receive_of e.decompressor kind s.list output.list) output.list
  totals-call (report output) = refl

-- rule 13.5: totals have 32 bits
pub record Fits (t : Totals) : Type 0 where
  pub plain : t.plain ≤ last
  pub full : t.full ≤ last
  pub udp : t.udp ≤ last
  pub rtp : t.rtp ≤ last
  pub rebuilt : t.rebuilt ≤ last
  pub refused : t.refused ≤ last

-- rule 13.5: from t to u each total has one more where the call counts in it, unless it had stopped
pub record Moved (t : Totals) (x : Event) (u : Totals) : Type 0 where
  pub plain : u.plain ≡ stopped (cond (is_sent plain x) 1 0 + t.plain)
  pub full : u.full ≡ stopped (cond (is_sent full_header x) 1 0 + t.full)
  pub udp : u.udp ≡ stopped (cond (is_sent compressed_udp x) 1 0 + t.udp)
  pub rtp : u.rtp ≡ stopped (cond (is_sent compressed_rtp x) 1 0 + t.rtp)
  pub rebuilt : u.rebuilt ≡ stopped (cond (is_rebuilt x) 1 0 + t.rebuilt)
  pub refused : u.refused ≡ stopped (cond (is_refused x) 1 0 + t.refused)

moved-tallied : (t : Totals) (x : Event) → Fits t → Moved t x (tallied t x)
moved-tallied t x f = record {
  plain = more-stopped (is_sent plain x) t.plain f.plain;
  full = more-stopped (is_sent full_header x) t.full f.full;
  udp = more-stopped (is_sent compressed_udp x) t.udp f.udp;
  rtp = more-stopped (is_sent compressed_rtp x) t.rtp f.rtp;
  rebuilt = more-stopped (is_rebuilt x) t.rebuilt f.rebuilt;
  refused = more-stopped (is_refused x) t.refused f.refused;
}

-- one call, from any totals
pub moved_call : (e : Endpoint) (x : Call) → Fits e.totals
    → Moved e.totals (event_of x (answer e x)) (answer e x).endpoint.totals
moved_call e x f =
    let event = event_of x (answer e x) in
    subst (Moved e.totals event) (sym (totals-call e x)) (moved-tallied e.totals event f)

---- totals in a slice

six : (l : List ℕ) → length l ≡ 6 → (P : List ℕ → Type 0) → ((a b c d e f : ℕ) → P (a ∷ b ∷ c ∷ d ∷ e ∷ f ∷ [])) → P l
six [] h P k = absurd (omega arith)
six (a ∷ []) h P k = absurd (omega arith)
six (a ∷ b ∷ []) h P k = absurd (omega arith)
six (a ∷ b ∷ c ∷ []) h P k = absurd (omega arith)
six (a ∷ b ∷ c ∷ d ∷ []) h P k = absurd (omega arith)
six (a ∷ b ∷ c ∷ d ∷ e ∷ []) h P k = absurd (omega arith)
six (a ∷ b ∷ c ∷ d ∷ e ∷ f ∷ []) h P k = k a b c d e f
six (a ∷ b ∷ c ∷ d ∷ e ∷ f ∷ g ∷ l) h P k = absurd (omega arith)

-- six numbers stored one after another
abbrev pub stored : List ℕ → Totals → List ℕ
stored l x = set (set (set (set (set (set l 0 x.plain) 1 x.full) 2 x.udp) 3 x.rtp) 4 x.rebuilt) 5 x.refused

pub stored-totals : (l : List ℕ) (x : Totals) → length l ≡ 6 → (length (stored l x) ≡ 6) × (totals_of (stored l x) ≡ x)
stored-totals l x h =
    six l h (λ (k : List ℕ). (length (stored k x) ≡ 6) × (totals_of (stored k x) ≡ x)) (λ a b c d e f. (refl, refl))
