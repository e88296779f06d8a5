-- Iarwennol. Laws of the context-state report: its records one context at a time, and that it is a good request. Assume nothing.
-- Used by the loops of report.
use Rattle.std.specs.Prelude.{ℕ, zero, suc, ◌+◌, ◌-◌, ◌*◌, ◌≤◌, ◌<◌, ◌≡◌, refl, Bool, true, false, cond, not, ◌&&◌, List, [], ◌∷◌}
use Rattle.std.specs.Prelude.{◌++◌, eqb, ltb, length, get_or, take, drop}
use Rattle.std.proofs.Common.{sym, ap, ◌∙◌, add-zero, zero-add, add-one, arith, eqb-true, length-append, take-append-drop, take-suc}
use Rattle.std.proofs.Common.{take_all, length-take-le}
use Rattle.std.proofs.lemmas.Bool.{false≢true}
use Rattle.std.proofs.Math.Bool.{and-eq-true_iff}
use Rattle.std.proofs.Math.Nat.{sub-zero}
use Rattle.links.specs.Cs.{State, records_bytes, cs_bytes, request_judged}
use Rattle.links.proofs.CsLaws.{StateFits, StatesFit, none-fit, more-fit, length-records_bytes, length-cs_bytes}
use Rattle.links.proofs.CsLaws.{records_bytes-append}
use Rattle.links.proofs.CsLaws.{request_judged-cs_bytes}
use Rattle.context.specs.All.{all}
use Rattle.context.specs.Sound.{zero_flow, zero_ip, zero_rtp, zero_list, zero_deltas, zero_link, filled_sound, unfilled_sound}
use Rattle.context.specs.Sound.{sound_decompressor, sound_decompressor_by}
use Rattle.context.proofs.SoundFacts.{LinkBounds, filled_sound-bounds}
use Rattle.context.specs.declared.decompressor.Status.{Status}
use Rattle.context.specs.declared.decompressor.Status.TheVariants.{Empty, Live, Broken}
use Rattle.context.specs.declared.decompressor.DecompressorContext.{DecompressorContext}
use Rattle.octets.specs.Put.{Wrote}
use Rattle.octets.specs.PutLaws.{wrote-front}
use Rattle.packet.specs.declared.refusal.Refusal.TheVariants.{NoRoom}
use Rattle.std.specs.Prelude.{Ok, Err}
use Rattle.decompressor.specs.declared.table.Table.{Table}
use Rattle.decompressor.specs.Answer.{said, accepted, refused, delivered}
use Rattle.decompressor.specs.Table.{empty_by, is_empty, sound_of, Sound}
use Rattle.decompressor.proofs.PacketLaws.{said-no_room, said-accepted}
use Rattle.report.specs.Report.{broken_by, is_broken, state_of, states_of, states_from, report_on, report_bytes, report_of}

---- states_from

by-broken : (z : Bool) (r : State) (xs ys zs : List State) → xs ≡ ys ++ zs → cond z (r ∷ xs) xs ≡ cond z (r ∷ ys) ys ++ zs
by-broken true r xs ys zs e = ap {B = List State} (λ l. r ∷ l) e
by-broken false r xs ys zs e = e

states_from-append : (k : ℕ) (a b : List DecompressorContext) → states_from k (a ++ b)
    ≡ states_from k a ++ states_from (k + length a) b
states_from-append k [] b = rw add-zero
states_from-append k (c ∷ a) b =
    let e : k + suc (length a) ≡ suc k + length a = omega arith in
    by-broken (is_broken c) (state_of k c) (states_from (suc k) (a ++ b)) (states_from (suc k) a)
    (states_from (k + suc (length a)) b)
    (rw e (states_from-append (suc k) a b))

module _ (l : List DecompressorContext) (i : ℕ) where
  -- what is said of the contexts before place i, and of those from it on
  abbrev pub states_before : List State
  states_before = states_from 0 (take i l)

  states-split : i ≤ length l → states_from 0 l ≡ states_before ++ states_from i (drop i l)
  states-split h =
      ap (states_from 0) (sym (take-append-drop i l))
      ∙ states_from-append 0 (take i l) (drop i l)
      ∙ rw (length-take-le i l h, zero-add)

  -- no more than all
  pub states-few : i ≤ length l → length states_before ≤ length (states_from 0 l)
  states-few h = rw (states-split h, length-append) (omega arith)

  pub states-all : length l ≤ i → states_before ≡ states_from 0 l
  states-all h = ap (states_from 0) (take_all i l h)

  -- one context more
  pub states-more : (d : DecompressorContext) → i < length l
      → states_from 0 (take (i + 1) l) ≡ states_before ++ states_of i (get_or l i d)
  states-more d h =
      rw (add-one, take-suc l i d h)
      (states_from-append 0 (take i l) (get_or l i d ∷ []) ∙ rw (length-take-le i l (omega arith), zero-add))

---- counting and writing, one context more

length-states_of : (i : ℕ) (c : DecompressorContext) → length (states_of i c) ≡ cond (is_broken c) 1 0
length-states_of i c = by (is_broken c)
  where
    by : (z : Bool) → length (cond z (state_of i c ∷ []) []) ≡ cond z 1 0
    by true = refl
    by false = refl

module _ (l : List DecompressorContext) (i : ℕ) (d : DecompressorContext) (h : i < length l) where
  pub count-more : length (states_before l (i + 1)) ≡ length (states_before l i) + cond (is_broken (get_or l i d)) 1 0
  count-more = rw (states-more l i d h, length-append, length-states_of i (get_or l i d))

  pub records-more : records_bytes (states_before l (i + 1))
      ≡ records_bytes (states_before l i) ++ records_bytes (states_of i (get_or l i d))
  records-more = ap records_bytes (states-more l i d h) ∙ records_bytes-append (states_before l i) (states_of i (get_or l i d))

  -- the records of this context, after those before it, are no more than all
  pub records-room : length (records_bytes (states_before l i)) + length (records_bytes (states_of i (get_or l i d))) ≤ length
      (records_bytes (states_from 0 l))
  records-room =
      let a = length-records_bytes (states_before l (i + 1)) in
      let b = length-records_bytes (states_from 0 l) in
      let f = states-few l (i + 1) (omega arith) in
      let e = length-append (records_bytes (states_before l i)) (records_bytes (states_of i (get_or l i d))) in
      let g = ap length records-more in
      omega arith

---- a sound context's link sequence and generation, whatever its status

unfilled-link : (c : DecompressorContext) → unfilled_sound c ≡ true → LinkBounds c.link
unfolding unfilled_sound
unfilled-link c e =
    let others = zero_flow c.flow && zero_ip c.ip && zero_rtp c.rtp && zero_list c.csrc && not c.carried && not
    c.marker && zero_deltas c.deltas in
    let z = ((and-eq-true_iff others (zero_link c.link)).0 e).1 in
    let p = (and-eq-true_iff (eqb c.link.sequence 0) (eqb c.link.generation 0)).0 z in
    record {
      sequence = omega (arith, eqb-true c.link.sequence 0 p.0);
      generation =
          omega (arith, eqb-true c.link.generation 0 p.1);
    }

filled-link : (c : DecompressorContext) → filled_sound c ≡ true → LinkBounds c.link
filled-link c e = (filled_sound-bounds c e).link

either-link : (f : Bool) (c : DecompressorContext) → cond f (filled_sound c) (unfilled_sound c) ≡ true → LinkBounds c.link
either-link true c e = filled-link c e
either-link false c e = unfilled-link c e

link-by : (s : Status) (c : DecompressorContext) → sound_decompressor_by s c ≡ true → LinkBounds c.link
unfolding sound_decompressor_by
link-by Empty c e = unfilled-link c ((and-eq-true_iff (not c.filled) (unfilled_sound c)).0 e).1
link-by Live c e = filled-link c ((and-eq-true_iff c.filled (filled_sound c)).0 e).1
link-by Broken c e = either-link c.filled c e

pub sound-link : (c : DecompressorContext) → sound_decompressor c ≡ true → LinkBounds c.link
unfolding sound_decompressor
sound-link c e = link-by c.status c e

---- report_on

pub report_on-none : (rs : List State) → length rs ≡ 0 → report_on rs ≡ []
report_on-none [] e = refl
report_on-none (r ∷ rs) e = absurd (omega arith)

pub report_on-some : (rs : List State) → 0 < length rs → report_on rs ≡ cs_bytes rs
report_on-some [] h = absurd (omega arith)
report_on-some (r ∷ rs) h = refl

---- report_of, by case; n: how many contexts are broken

module _ (t : Table) (output : List ℕ) (sound : sound_of t ≡ true) where
  report_of-sound : report_of t output ≡ delivered t t (report_bytes t) output
  unfolding report_of
  report_of-sound = rw sound

  module _ (n : ℕ) (e : n ≡ length (states_from 0 t.contexts)) where
    pub report-none : n ≡ 0 → said (Ok 0) t output ≡ report_of t output
    report-none z =
        said-accepted t t [] output 0 output (omega arith) refl refl
        ∙ ap (λ (l : List ℕ). delivered t t l output) (sym (report_on-none (states_from 0 t.contexts) (sym e ∙ z)))
        ∙ sym report_of-sound

    module _ (some : 0 < n) where
      bytes-some : report_bytes t ≡ cs_bytes (states_from 0 t.contexts)
      bytes-some = report_on-some (states_from 0 t.contexts) (omega arith)

      size-some : 2 + 3 * n ≡ length (report_bytes t)
      size-some = rw bytes-some (omega (arith, length-cs_bytes (states_from 0 t.contexts)))

      pub report-no_room : length output < 2 + 3 * n
          → said (Err NoRoom) t output ≡ report_of t output
      report-no_room h = said-no_room t t (report_bytes t) output (rw (← size-some) h) ∙ sym report_of-sound

      pub report-accepted : (out : List ℕ) (r : ℕ) → 2 + 3 * n ≤ length output
          → Wrote output out 0 r (cs_bytes (states_from 0 t.contexts))
          → said (Ok (2 + 3 * n)) t out ≡ report_of t output
      report-accepted out r h w =
          let room : length (report_bytes t) ≤ length output = rw (← size-some) h in
          said-accepted t t (report_bytes t) output (2 + 3 * n) out room size-some (wrote-front (rw (← bytes-some) at w) room)
          ∙ sym report_of-sound

---- a report changes nothing

table-by : (z : Bool) (t : Table) (n : ℕ) (bytes output : List ℕ) → (cond z (refused t n output) (accepted t bytes output)).table
    ≡ t
table-by true t n bytes output = refl
table-by false t n bytes output = refl

table-if : (z : Bool) (t : Table) (bytes output : List ℕ) → (cond z (delivered t t bytes output) (refused t 1 output)).table ≡ t
table-if true t bytes output = table-by (ltb (length output) (length bytes)) t 11 bytes output
table-if false t bytes output = refl

pub table-report_of : (t : Table) (output : List ℕ) → (report_of t output).table ≡ t
unfolding report_of
table-report_of t output = table-if (sound_of t) t (report_bytes t) output

---- a report is a good request

module _ (k : ℕ) where
  -- an empty context is not broken
  empty-broken : (s : Status) → empty_by s ≡ true → broken_by s ≡ true → ⊥
  empty-broken Empty e b = false≢true b
  empty-broken Live e b = false≢true e
  empty-broken Broken e b = false≢true e

  state-fits : (i : ℕ) (c : DecompressorContext) → i < k → sound_decompressor c ≡ true → StateFits k (state_of i c)
  state-fits i c h s =
      let b = sound-link c s in
      record { context = h; link = omega (arith, b.sequence); generation = omega (arith, b.generation) }

  -- a context that is broken is one that the settings give
  broken-among : (i : ℕ) (c : DecompressorContext) (cs : List DecompressorContext) → all is_empty (drop (k - i) (c ∷ cs)) ≡ true
      → is_broken c ≡ true → (d : ℕ) → k - i ≡ d → i < k
  broken-among i c cs e b zero z =
      let f : all is_empty (c ∷ cs) ≡ true = rw z at e in
      absurd (empty-broken c.status ((and-eq-true_iff (is_empty c) (all is_empty cs)).0 f).0 b)
  broken-among i c cs e b (suc d) z = omega arith

  rest-empty : (i : ℕ) (c : DecompressorContext) (cs : List DecompressorContext) (d : ℕ) → k - i ≡ d
      → all is_empty (drop (k - i) (c ∷ cs)) ≡ true → all is_empty (drop (k - suc i) cs) ≡ true
  rest-empty i c cs zero z e =
      let f : all is_empty (c ∷ cs) ≡ true = rw z at e in
      let q : k - suc i ≡ 0 = omega arith in
      rw q ((and-eq-true_iff (is_empty c) (all is_empty cs)).0 f).1
  rest-empty i c cs (suc d) z e =
      let q : k - suc i ≡ d = omega arith in
      rw q (rw z at e)

  fit-if : (z : Bool) (r : State) (rs : List State) → (z ≡ true → StateFits k r) → StatesFit k rs → StatesFit k (cond z (r ∷ rs) rs)
  fit-if true r rs f s = more-fit (f refl) s
  fit-if false r rs f s = s

  states-fit : (i : ℕ) (l : List DecompressorContext) → all sound_decompressor l ≡ true → all is_empty (drop (k - i) l) ≡ true
      → StatesFit k (states_from i l)
  states-fit i [] s e = none-fit
  states-fit i (c ∷ cs) s e =
      let p = (and-eq-true_iff (sound_decompressor c) (all sound_decompressor cs)).0 s in
      fit-if (is_broken c) (state_of i c) (states_from (suc i) cs)
      (λ b. state-fits i c (broken-among i c cs e b (k - i) refl) p.0)
      (states-fit (suc i) cs p.1 (rest-empty i c cs (k - i) refl e))

-- what a sound table reports, if it reports anything, is a good request
pub report-good : (t : Table) → Sound t → 0 < length (states_from 0 t.contexts)
    → request_judged t.settings.contexts (report_bytes t) ≡ 0
report-good t s h =
    rw (report_on-some (states_from 0 t.contexts) h)
    (request_judged-cs_bytes t.settings.contexts (states_from 0 t.contexts) h
    (states-fit t.settings.contexts 0 t.contexts s.contexts (rw sub-zero s.rest)))
