-- Iarwennol. The theorem on histories: each total is the smaller of 4,294,967,295 and its count, and while none of the four has
-- stopped they are together the accepted sends. Assumes nothing.
-- One total is followed through a list of calls, whichever it is; then the six of them are named.
use Prim.Native.Nat.{ℕ, zero, suc, ◌+◌, ◌≤◌}
use mathlib.Core.Path.{◌≡◌, refl, ap, ◌∙◌}
use mathlib.Core.Bool.{Bool, true, false, cond}
use mathlib.Core.List.{List, [], ◌∷◌}
use native.Mathlib.Omega.{arith}
use native.Mathlib.Decide.{dec_le}
use lib.Dec.{eqb}
use Rattle.crtp.specs.Face.{plain, full_header, compressed_udp, compressed_rtp, send_of, send_of-type}
use Rattle.endpoint.specs.declared.totals.Totals.{Totals}
use Rattle.endpoint.specs.declared.answer.Endpoint.{Endpoint}
use Rattle.endpoint.specs.Totals.{Event, sent, rebuilt, refused, quiet, is_sent, is_rebuilt, is_refused, last, more, tallied}
use Rattle.endpoint.specs.Totals.{no_totals}
use Rattle.endpoint.specs.TotalsLaws.{stopped-below, stopped-above, more-stopped, totals-call}
use Rattle.endpoint.specs.Calls.{judged, context_state, open_of, wire_of}
use Rattle.endpoint.specs.History.{Call, wire, radio, report, answer, after, event_of, history, count, is_send}
use Rattle.endpoint.specs.History.{stopped, Tallied, Unstopped, all_sent, Tallies}

---- One total

stopped-most : (n : ℕ) → stopped n ≤ last
stopped-most n = by (dec_le n last)
  where
    by : Dec (n ≤ last) → stopped n ≤ last
    by (yes h) = omega (arith, stopped-below n h)
    by (no h) = omega (arith, stopped-above n (omega arith))

-- what stopped on the way has stopped at the end
stopped-add : (a b : ℕ) → stopped (b + stopped a) ≡ stopped (b + a)
stopped-add a b = by (dec_le a last)
  where
    by : Dec (a ≤ last) → stopped (b + stopped a) ≡ stopped (b + a)
    by (yes h) = ap (λ (x : ℕ). stopped (b + x)) (stopped-below a h)
    by (no h) =
        let top = stopped-above a (omega arith) in
        omega (arith, stopped-above (b + stopped a) (omega (arith, top)), stopped-above (b + a) (omega arith))

module _ (total : Totals → ℕ) (is : Event → Bool)
    (counts : (t : Totals) (x : Event) → total (tallied t x) ≡ more (is x) (total t)) where
  total-call : (e : Endpoint) (x : Call) → total e.totals ≤ last
      → total (answer e x).endpoint.totals ≡ stopped (cond (is (event_of x (answer e x))) 1 0 + total e.totals)
  total-call e x h =
      ap total (totals-call e x) ∙ counts e.totals (event_of x (answer e x))
      ∙ more-stopped (is (event_of x (answer e x))) (total e.totals) h

  -- from any totals
  pub total-after : (xs : List Call) (e : Endpoint) → total e.totals ≤ last
      → total (after e xs).totals ≡ stopped (count is (history e xs) + total e.totals)
  total-after [] e h = omega (arith, stopped-below (0 + total e.totals) (omega arith))
  total-after (x ∷ xs) e h =
      let one = cond (is (event_of x (answer e x))) 1 0 + total e.totals in
      let m = total-call e x h in
      let rest = count is (history (answer e x).endpoint xs) in
      let sum : rest + one ≡ (cond (is (event_of x (answer e x))) 1 0 + rest) + total e.totals = omega arith in
      total-after xs (answer e x).endpoint (omega (arith, m, stopped-most one))
      ∙ ap (λ (y : ℕ). stopped (rest + y)) m
      ∙ stopped-add one rest
      ∙ ap stopped sum

---- The four

-- a link type that a send has
abbrev Known : Event → Type 0
Known (sent kind) = kind ≤ compressed_rtp
Known rebuilt = Unit {0}
Known (refused n) = Unit {0}
Known quiet = Unit {0}

abbrev AllKnown : List Event → Type 0
AllKnown [] = Unit {0}
AllKnown (x ∷ xs) = Known x × AllKnown xs

abbrev one : Bool → ℕ
one b = cond b 1 0

one-of-four : (x : Event) → Known x
    → one (is_sent plain x) + one (is_sent full_header x) + one (is_sent compressed_udp x) + one (is_sent compressed_rtp x)
    ≡ one (is_send x)
one-of-four (sent zero) h = omega arith
one-of-four (sent (suc zero)) h = omega arith
one-of-four (sent (suc (suc zero))) h = omega arith
one-of-four (sent (suc (suc (suc zero)))) h = omega arith
one-of-four (sent (suc (suc (suc (suc k))))) h = absurd (omega (arith, h))
one-of-four rebuilt h = omega arith
one-of-four (refused n) h = omega arith
one-of-four quiet h = omega arith

four : (xs : List Event) → AllKnown xs
    → count (is_sent plain) xs + count (is_sent full_header) xs + count (is_sent compressed_udp) xs + count
    (is_sent compressed_rtp) xs
    ≡ count is_send xs
four [] h = omega arith
four (x ∷ xs) h = omega (arith, one-of-four x h.0, four xs h.1)

known-judged : (n : ℕ) (x : Event) → Known x → Known (judged n x)
known-judged n x h = by (eqb n 0)
  where
    by : (b : Bool) → Known (cond b x (refused n))
    by true = h
    by false = tt

known-radio : (n : ℕ) (b : Bool) → Known (judged n (cond b quiet rebuilt))
known-radio n true = known-judged n quiet tt
known-radio n false = known-judged n rebuilt tt

known-call : (e : Endpoint) (x : Call) → Known (event_of x (answer e x))
unfolding wire_of
known-call e (wire p output) =
    let r = send_of e.compressor p.list output.list in
    known-judged r.number (sent r.kind) (send_of-type e.compressor p.list output.list)
known-call e (radio kind s output) = known-radio (answer e (radio kind s output)).number (eqb kind context_state)
known-call e (report output) = known-judged (answer e (report output)).number quiet tt

known-history : (xs : List Call) (e : Endpoint) → AllKnown (history e xs)
known-history [] e = tt
known-history (x ∷ xs) e = (known-call e x, known-history xs (answer e x).endpoint)

---- From an opening

module _ (e : Endpoint) (none : e.totals ≡ no_totals) (xs : List Call) where
  abbrev h : List Event
  h = history e xs

  -- a total that starts at 0
  from-none : (total : Totals → ℕ) (is : Event → Bool) → ((t : Totals) (x : Event) → total (tallied t x) ≡ more (is x) (total t))
      → total no_totals ≡ 0 → total (after e xs).totals ≡ stopped (count is h)
  from-none total is counts z =
      let start : total e.totals ≡ 0 = ap total none ∙ z in
      let sum : count is h + total e.totals ≡ count is h = omega arith in
      total-after total is counts xs e (omega arith) ∙ ap stopped sum

  each : Tallied (after e xs).totals h
  each = record {
    plain = from-none (λ t. t.plain) (is_sent plain) (λ t x. refl) refl;
    full = from-none (λ t. t.full) (is_sent full_header) (λ t x. refl) refl;
    udp = from-none (λ t. t.udp) (is_sent compressed_udp) (λ t x. refl) refl;
    rtp = from-none (λ t. t.rtp) (is_sent compressed_rtp) (λ t x. refl) refl;
    rebuilt = from-none (λ t. t.rebuilt) is_rebuilt (λ t x. refl) refl;
    refused = from-none (λ t. t.refused) is_refused (λ t x. refl) refl;
  }

  together : Unstopped h → all_sent (after e xs).totals ≡ count is_send h
  together u =
      omega (
        arith,
        each.plain,
        each.full,
        each.udp,
        each.rtp,
        stopped-below (count (is_sent plain) h) u.plain,
        stopped-below (count (is_sent full_header) h) u.full,
        stopped-below (count (is_sent compressed_udp) h) u.udp,
        stopped-below (count (is_sent compressed_rtp) h) u.rtp,
        four h (known-history xs e),
      )

-- an accepted opening leaves totals of 0
totals-by : (e f : Endpoint) (number : ℕ) → number ≡ 0 → f.totals ≡ no_totals
    → (cond {A = Endpoint} (eqb number 0) f e).totals ≡ no_totals
totals-by e f number z t = rw z t

opened-totals : (e : Endpoint) (n k : ℕ) → (open_of e n k).number ≡ 0 → (open_of e n k).endpoint.totals ≡ no_totals
unfolding open_of
opened-totals e n k z = totals-by e _ _ z refl

pub tallies : Tallies
tallies e n k z xs =
    let o = (open_of e n k).endpoint in
    record { each = each o (opened-totals e n k z) xs; together = together o (opened-totals e n k z) xs }
