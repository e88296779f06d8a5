-- Iarwennol. What rules 8.3 to 8.8 make of a steady packet: its own step, with nothing beside it. Assumes nothing.
-- Used by the proof of the short way of a send.
use Prim.Native.Nat.{ℕ}
use mathlib.Core.Path.{◌≡◌, refl, sym, ap, ◌∙◌}
use mathlib.Core.Bool.{Bool, true, false, ◌&&◌, not, true≢false, and-eq-true_iff}
use lib.Dec.{eqb}
use borrow.Author.Tests.{eqb-true, eq-eqb}
use Rattle.codes.specs.Difference.{difference}
use Rattle.packet.proofs.Chain.{all-of-eight}
use Rattle.packet.specs.Csrc.{same_list}
use Rattle.packet.specs.CsrcLaws.{same_list-refl}
use Rattle.packet.specs.declared.csrc.Csrc.{Csrc}
use Rattle.packet.specs.declared.header.Header.{Header}
use Rattle.context.specs.Field.{off_pattern, counted, is_due}
use Rattle.context.specs.Compressor.{same_constants, reset, judged, adopts_id, adopts_timestamp, differences, due_now}
use Rattle.context.specs.Compressor.{any_due, kind_of, due_after, deltas_after, moved, sent_with, step_of, nothing_due}
use Rattle.context.specs.Sound.{zero_due}
use Rattle.compressor_steady.specs.Steady.{is_live, on_pattern, steady, steadied, steady_step}
use Rattle.context.specs.declared.kept.Deltas.{Deltas}
use Rattle.context.specs.declared.compressor.Usage.{Usage}
use Rattle.context.specs.declared.compressor.Usage.TheVariants.{Empty, Live}
use Rattle.context.specs.declared.compressor.Due.{Due}
use Rattle.context.specs.declared.compressor.CompressorContext.{CompressorContext}
use Rattle.context.specs.declared.step.Judged.{Judged}
use Rattle.context.proofs.Tests.{SameConstants, same-constants, adopts_id-off, adopts_timestamp-off}
use Rattle.context.proofs.Begun.{begun-same}

---- What the test tells

abbrev no_due : Due
no_due = record { full = 0; id = 0; sequence = 0; timestamp = 0; payload = 0; list = 0; did = 0; dts = 0 }

pub record Steady (h : Header) (c : CompressorContext) : Type 0 where
  pub live : c.status ≡ Live
  pub same : same_constants h c ≡ true
  pub due : c.due ≡ no_due
  pub id : difference 16 c.ip.id h.ip.id ≡ c.deltas.id
  pub sequence : difference 16 c.rtp.sequence h.rtp.sequence ≡ 1
  pub timestamp : difference 32 c.rtp.timestamp h.rtp.timestamp ≡ c.deltas.timestamp
  pub payload : h.rtp.payload ≡ c.rtp.payload
  pub unlisted : h.csrc.count ≡ 0
  pub empty : c.csrc.count ≡ 0

is_live-true : (s : Usage) → is_live s ≡ true → s ≡ Live
is_live-true Empty e = absurd (true≢false (sym e))
is_live-true Live e = refl

due-of : (d : Due) → d.full ≡ 0 → d.id ≡ 0 → d.sequence ≡ 0 → d.timestamp ≡ 0 → d.payload ≡ 0 → d.list ≡ 0 → d.did ≡ 0
    → d.dts ≡ 0 → d ≡ no_due
due-of d a b e f g h i j = rw (a, b, e, f, g, h, i, j)

idle-true : (d : Due) → zero_due d ≡ true → d ≡ no_due
idle-true d e =
    let a = all-of-eight (eqb d.full 0) (eqb d.id 0) (eqb d.sequence 0) (eqb d.timestamp 0) (eqb d.payload 0)
    (eqb d.list 0) (eqb d.did 0) (eqb d.dts 0) e in
    due-of d (eqb-true _ _ a.0) (eqb-true _ _ a.1) (eqb-true _ _ a.2) (eqb-true _ _ a.3) (eqb-true _ _ a.4)
    (eqb-true _ _ a.5) (eqb-true _ _ a.6) (eqb-true _ _ a.7)

four : (a b c d : Bool) → (a && b && c && d) ≡ true → (a ≡ true) × (b ≡ true) × (c ≡ true) × (d ≡ true)
four a b c d e =
    let p = (and-eq-true_iff (a && b && c) d).0 e in
    let q = (and-eq-true_iff (a && b) c).0 p.0 in
    let r = (and-eq-true_iff a b).0 q.0 in
    (r.0, r.1, q.1, p.1)

pub steady-true : (h : Header) (c : CompressorContext) → steady h c ≡ true → Steady h c
unfolding steady
steady-true h c e =
    let p = four (is_live c.status) (same_constants h c) (zero_due c.due) (on_pattern h c) e in
    let a = all-of-eight true true (eqb (difference 16 c.ip.id h.ip.id) c.deltas.id)
    (eqb (difference 16 c.rtp.sequence h.rtp.sequence) 1)
    (eqb (difference 32 c.rtp.timestamp h.rtp.timestamp) c.deltas.timestamp)
    (eqb h.rtp.payload c.rtp.payload) (eqb h.csrc.count 0) (eqb c.csrc.count 0) p.3 in
    record {
      live = is_live-true c.status p.0;
      same = p.1;
      due = idle-true c.due p.2;
      id = eqb-true _ _ a.2;
      sequence = eqb-true _ _ a.3;
      timestamp = eqb-true _ _ a.4;
      payload = eqb-true _ _ a.5;
      unlisted = eqb-true _ _ a.6;
      empty = eqb-true _ _ a.7;
    }

---- How it is judged

on-pattern : (w last delta x : ℕ) → difference w last x ≡ delta → off_pattern w last delta x ≡ false
unfolding off_pattern
on-pattern w last delta x e = ap not (eq-eqb _ _ e)

same-judged : (a b : Csrc) → a ≡ b → not (same_list a b) ≡ false
same-judged a b e = rw (e, same_list-refl b)

not-adopted : (a o : Bool) → (a ≡ true → o ≡ true) → o ≡ false → a ≡ false
not-adopted true o f e = absurd (true≢false (sym (f refl) ∙ e))
not-adopted false o f e = refl

abbrev nothing_judged : Deltas → Judged
nothing_judged d = record {
  id = false;
  sequence = false;
  timestamp = false;
  payload = false;
  list = false;
  did = false;
  dts = false;
  deltas = d;
}

judged-of : (a b e f g i j : Bool) (d d' : Deltas) → a ≡ false → b ≡ false → e ≡ false → f ≡ false → g ≡ false → i ≡ false
    → j ≡ false → d ≡ d' → ◌≡◌ {A = Judged}
    (record { id = a; sequence = b; timestamp = e; payload = f; list = g; did = i; dts = j; deltas = d }) (nothing_judged d')
judged-of a b e f g i j d d' p q r s t u v w = rw (p, q, r, s, t, u, v, w)

deltas-of : (d : Deltas) (i t : ℕ) → i ≡ d.id → t ≡ d.timestamp → ◌≡◌ {A = Deltas} (record { id = i; timestamp = t }) d
deltas-of d i t p q = rw (p, q)

module _ (h : Header) (c : CompressorContext) (s : Steady h c) (l : h.csrc ≡ c.csrc) where
  id-on : off_pattern 16 c.ip.id c.deltas.id h.ip.id ≡ false
  id-on = on-pattern 16 c.ip.id c.deltas.id h.ip.id s.id

  timestamp-on : off_pattern 32 c.rtp.timestamp c.deltas.timestamp h.rtp.timestamp ≡ false
  timestamp-on = on-pattern 32 c.rtp.timestamp c.deltas.timestamp h.rtp.timestamp s.timestamp

  judged-steady : judged h c ≡ nothing_judged c.deltas
  unfolding judged
  judged-steady = judged-of
      (off_pattern 16 c.ip.id c.deltas.id h.ip.id)
      (off_pattern 16 c.rtp.sequence 1 h.rtp.sequence)
      (off_pattern 32 c.rtp.timestamp c.deltas.timestamp h.rtp.timestamp)
      (not (eqb h.rtp.payload c.rtp.payload))
      (not (same_list h.csrc c.csrc))
      (adopts_id h c)
      (adopts_timestamp h c)
      (differences h c)
      c.deltas
      id-on
      (on-pattern 16 c.rtp.sequence 1 h.rtp.sequence s.sequence)
      timestamp-on
      (ap not (eq-eqb _ _ s.payload))
      (same-judged h.csrc c.csrc l)
      (not-adopted _ _ (adopts_id-off h c) id-on)
      (not-adopted _ _ (adopts_timestamp-off h c) timestamp-on)
      (deltas-of c.deltas _ _ s.id s.timestamp)

---- What becomes of it

idle-reset : (c : CompressorContext) → c.due ≡ no_due → reset c ≡ c
unfolding reset
idle-reset c e = rw e

-- nothing is due, and no counter moves
nothing-due : (d : Due) (e : Deltas) → d ≡ no_due → due_now d (nothing_judged e) ≡ nothing_due
unfolding due_now is_due
nothing-due d e q = rw q

nothing-counted : (n : ℕ) (d : Due) (e : Deltas) → d ≡ no_due → due_after n d (nothing_judged e) ≡ d
unfolding due_after counted
nothing-counted n d e q = rw q

nothing-adopted : (d e : Deltas) → deltas_after d (nothing_judged e) ≡ d
unfolding deltas_after
nothing-adopted d e = refl

moved_steady : (n : ℕ) (h : Header) (c : CompressorContext) → SameConstants h c → h.rtp.payload ≡ c.rtp.payload
    → h.csrc ≡ c.csrc → c.due ≡ no_due → moved n h c (nothing_judged c.deltas) ≡ steadied h c
unfolding moved steadied
moved_steady n h c k p l q = rw (
  ← k.tos,
  ← k.ttl,
  ← k.flags,
  ← k.padding,
  ← k.extension,
  ← p,
  ← k.blank,
  l,
  nothing-counted n c.due c.deltas q,
  nothing-adopted c.deltas c.deltas,
)

sent-steady : (n : ℕ) (h : Header) (c : CompressorContext) → c.due ≡ no_due → moved n h c (nothing_judged c.deltas) ≡ steadied h c
    → sent_with n h c (nothing_judged c.deltas) nothing_due ≡ steady_step h c
unfolding sent_with kind_of any_due
sent-steady n h c q m = rw (m, q, nothing-adopted c.deltas c.deltas)

pub steady-step : (n : ℕ) (h : Header) (c : CompressorContext) → Steady h c → h.csrc ≡ c.csrc → step_of n h c ≡ steady_step h c
unfolding step_of
steady-step n h c s l =
    rw (begun-same n h c s.same, idle-reset c s.due, judged-steady h c s l, nothing-due c.due c.deltas s.due)
    (sent-steady n h c s.due (moved_steady n h c (same-constants h c s.same) s.payload l s.due))
