-- Iarwennol. A packet that is lost.
-- The relation holds with one more lost. Assumes nothing.
-- Used by robustness over lists of calls (rule 10).
use Prim.Native.Nat.{ℕ, suc, ◌+◌, ◌-◌, ◌^◌, ◌≤◌, ◌<◌}
use mathlib.Core.Path.{◌≡◌, refl, sym, ap, ◌∙◌}
use mathlib.Core.Bool.{Bool, true, false, not, false≢true}
use native.Mathlib.Omega.{arith}
use borrow.Author.Tests.{eqb-true, not-false}
use Rattle.packet.specs.CsrcLaws.{same_list-true}
use Rattle.packet.specs.Ranges.{HeaderInRange}
use Rattle.packet.specs.declared.header.Header.{Header}
use Rattle.context.specs.Field.{counted, next_sequence, off_pattern}
use Rattle.context.specs.Compressor.{same_constants, started, begun, reset, judged, adopts_id, adopts_timestamp, due_after}
use Rattle.context.specs.Compressor.{deltas_after, moved, sent_with, step_of}
use Rattle.context.proofs.Relation.{Held}
use Rattle.context.proofs.Relation.{Near, Constants, Running, Close, Related, id_track, id_seen, sequence_track, sequence_seen}
use Rattle.context.proofs.Relation.{timestamp_track, timestamp_seen}
use Rattle.context.specs.declared.compressor.Usage.TheVariants.{Live}
use Rattle.context.specs.declared.compressor.CompressorContext.{CompressorContext}
use Rattle.context.specs.declared.decompressor.DecompressorContext.{DecompressorContext}
use Rattle.context.proofs.Tests.{cond_both, SameConstants, same-constants, adopts_id-off, adopts_timestamp-off, adopts_id-full}
use Rattle.context.proofs.Tests.{adopts_timestamp-full}
use Rattle.context.proofs.FieldLaws.{difference-fits, near-lost}
use Rattle.context.proofs.Begun.{started-full, begun-same, begun-started, reset-full, ready-same, ready_held}

---- moved

pub moved-held : (n : ℕ) (h : Header) (c : CompressorContext) → HeaderInRange h → Held c → Held (moved n h c (judged h c))
unfolding moved deltas_after judged next_sequence
moved-held n h c f k = record {
  id = f.ip.id;
  sequence = f.rtp.sequence;
  timestamp = f.rtp.timestamp;
  did = cond_both (λ (d : ℕ). d < 2 ^ 16) (adopts_id h c) _ _ (difference-fits 16 c.ip.id h.ip.id) k.did;
  dts = cond_both (λ (d : ℕ). d < 2 ^ 32) (adopts_timestamp h c) _ _ (difference-fits 32 c.rtp.timestamp h.rtp.timestamp)
      k.dts;
  link = omega arith;
}

-- a run goes on as it was
pub moved-running : (n : ℕ) (h : Header) (c : CompressorContext) → 1 ≤ c.due.full → Running c → Running (moved n h c (judged h c))
unfolding moved judged due_after deltas_after counted
moved-running n h c f r = rw (adopts_id-full h c f, adopts_timestamp-full h c f) (record {
  id = r.id;
  timestamp = r.timestamp;
  did = omega (arith, r.did);
  dts = omega (arith, r.dts);
})

pub moved-full : (n : ℕ) (h : Header) (c : CompressorContext) → (moved n h c (judged h c)).due.full ≡ c.due.full - 1
unfolding moved due_after counted
moved-full n h c = refl

-- a field that is taken whole: it was equal at both ends and has not changed, or more packets will bring it than may be lost
whole-lost : {A : Type 0} (n m j due : ℕ) (o : Bool) (a b x : A) → n ≤ m → (o ≡ false → x ≡ b) → (due + j ≤ n → a ≡ b)
    → counted m o due + suc j ≤ n → a ≡ x
unfolding counted
whole-lost n m j due true a b x w e f h = absurd (omega arith)
whole-lost n m j due false a b x w e f h = f (omega arith) ∙ sym (e refl)

module _ (n j : ℕ) (v : DecompressorContext) (h : Header) (c : CompressorContext) (held : Held c) (fits : HeaderInRange h)
    (few : suc j ≤ n) where
  number-lost : Near 16 n j (sequence_seen v) (sequence_track c)
      → Near 16 n (suc j) (sequence_seen v) (sequence_track (moved n h c (judged h c)))
  unfolding moved judged due_after counted
  number-lost r =
      near-lost 16 n j (sequence_seen v) (sequence_track c) h.rtp.sequence held.sequence fits.rtp.sequence
      (off_pattern 16 c.rtp.sequence 1 h.rtp.sequence) false r few refl (λ e. absurd (false≢true e))

  moved-lost : SameConstants h c → Close n j v c → Close n (suc j) v (moved n h c (judged h c))
  unfolding moved judged due_after deltas_after next_sequence
  moved-lost g m =
      let k : Constants v c = m.constants in
      record {
        listening = m.listening;
        constants = record {
          flow = k.flow;
          tos = k.tos ∙ sym g.tos;
          ttl = k.ttl ∙ sym g.ttl;
          flags = k.flags ∙ sym g.flags;
          padding = k.padding ∙ sym g.padding;
          extension = k.extension ∙ sym g.extension;
          carried = k.carried ∙ ap not (sym g.blank);
        };
        sequence = omega (arith, m.sequence);
        running = λ f. let e : 1 ≤ c.due.full - 1 = rw (moved-full n h c) at f in
            moved-running n h c (omega arith) (m.running (omega arith));
        id = near-lost 16 n j (id_seen v) (id_track c) h.ip.id held.id fits.ip.id
            _ (adopts_id h c) m.id few refl (adopts_id-off h c);
        number = number-lost m.number;
        timestamp = near-lost 32 n j (timestamp_seen v) (timestamp_track c) h.rtp.timestamp held.timestamp
            fits.rtp.timestamp
            _ (adopts_timestamp h c) m.timestamp few refl (adopts_timestamp-off h c);
        payload = whole-lost n _ j c.due.payload _ v.rtp.payload c.rtp.payload h.rtp.payload (omega arith)
            (λ e. eqb-true _ _ (not-false _ e)) m.payload;
        list = whole-lost n _ j c.due.list _ v.csrc c.csrc h.csrc (omega arith)
            (λ e. same_list-true h.csrc c.csrc (not-false _ e)) m.list;
      }

---- step_of

pub step-context : (n : ℕ) (h : Header) (s : CompressorContext)
    → (step_of n h s).context ≡ moved n h (reset (begun n h s)) (judged h (reset (begun n h s)))
unfolding step_of sent_with
step-context n h s = refl

module _ (n j : ℕ) (v : DecompressorContext) (h : Header) (s : CompressorContext) (fits : HeaderInRange h) (few : suc j ≤ n)
    (r : Related n j v s) where
  close-lost : s.status ≡ Live → same_constants h s ≡ true → s.due.full + j ≤ n
      → Close n (suc j) v (moved n h (reset (begun n h s)) (judged h (reset (begun n h s))))
  close-lost u e k =
      let m : Close n j v s = r.close u k in
      rw (ready-same n h s e m.running) (moved-lost n j v h s r.held fits few (same-constants h s e) m)

  same-lost : s.status ≡ Live → same_constants h s ≡ true → Related n (suc j) v (step_of n h s).context
  same-lost u e = rw (step-context n h s) (record {
    few = few;
    held = moved-held n h (reset (begun n h s)) fits (ready_held n h s r.held);
    close = λ w k. let f : s.due.full - 1 + suc j ≤ n =
        rw (moved-full n h (reset (begun n h s)), reset-full (begun n h s), begun-same n h s e) at k in
        close-lost u e (omega arith);
  })

  changed-lost : same_constants h s ≡ false → Related n (suc j) v (step_of n h s).context
  changed-lost e = rw (step-context n h s) (record {
    few = few;
    held = moved-held n h (reset (begun n h s)) fits (ready_held n h s r.held);
    close = λ w k. let f : (started n s).due.full - 1 + suc j ≤ n =
        rw (moved-full n h (reset (begun n h s)), reset-full (begun n h s), begun-started n h s e) at k in
        absurd (omega (arith, started-full n s));
  })

  lost-by : s.status ≡ Live → (b : Bool) → same_constants h s ≡ b → Related n (suc j) v (step_of n h s).context
  lost-by u true e = same-lost u e
  lost-by u false e = changed-lost e

  -- a packet after the context's first is lost
  pub related-lost : s.status ≡ Live → Related n (suc j) v (step_of n h s).context
  related-lost u = lost-by u (same_constants h s) refl
