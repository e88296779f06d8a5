-- Iarwennol. A packet that arrives.
-- It is accepted and rebuilt, and the relation holds with nothing lost. Assumes nothing.
-- Used by robustness over lists of calls (rule 10).
use Prim.Native.Nat.{ℕ, suc, ◌-◌, ◌≤◌, ◌<◌}
use mathlib.Core.Path.{◌≡◌, refl, sym, ap, ◌∙◌}
use mathlib.Core.Bool.{Bool, true, false, cond, not, false≢true, true≢false}
use native.Mathlib.Omega.{arith}
use lib.Dec.{eqb, ltb}
use borrow.Author.Tests.{eqb-true, ltb-true, ltb-false, lt-ltb, le-ltb, not-false}
use Rattle.std.specs.Prelude.{None, unwrap_or}
use Rattle.std.specs.Bool.{then_some}
use Rattle.codes.specs.Difference.{sum}
use Rattle.packet.specs.Csrc.{same_list}
use Rattle.packet.specs.CsrcLaws.{same_list-true}
use Rattle.packet.specs.Ranges.{HeaderInRange}
use Rattle.packet.specs.declared.csrc.Csrc.{Csrc}
use Rattle.packet.specs.declared.header.Header.{Header}
use Rattle.packet.specs.declared.parts.Parts.{Parts}
use Rattle.context.specs.Field.{next_sequence, off_pattern, is_due, moved_on}
use Rattle.context.specs.Compressor.{reset_deltas, same_constants, begun, reset, judged, adopts_id, adopts_timestamp, due_now}
use Rattle.context.specs.Compressor.{any_due, full_header, compressed_udp, compressed_rtp, kind_of, list_if, parts_of, deltas_after}
use Rattle.context.specs.Compressor.{moved, sent_with, sent_from, step_of}
use Rattle.context.specs.Decompressor.{filled, ip_after, rtp_after, deltas_held, advanced, applied, rebuilt}
use Rattle.context.proofs.Relation.{Held}
use Rattle.context.proofs.Relation.{Constants, Running, Close, Related, Arrives, received, is_full, id_track, id_seen}
use Rattle.context.proofs.Relation.{sequence_track, sequence_seen, timestamp_track, timestamp_seen}
use Rattle.context.specs.declared.kept.Deltas.{Deltas}
use Rattle.context.specs.declared.kept.Link.{Link}
use Rattle.context.specs.declared.compressor.Usage.TheVariants as usage
use Rattle.context.specs.declared.compressor.CompressorContext.{CompressorContext}
use Rattle.context.specs.declared.decompressor.Status.TheVariants.{Live}
use Rattle.context.specs.declared.decompressor.DecompressorContext.{DecompressorContext}
use Rattle.context.proofs.Tests.{SameConstants, same-constants, adopts_id-off, adopts_timestamp-off, adopts_id-full}
use Rattle.context.proofs.Tests.{adopts_timestamp-full, is_due-false, any_due-false}
use Rattle.context.proofs.FieldLaws.{then_some-carried, delta-arrives, value-arrives, near-now}
use Rattle.context.proofs.Gap.{gap-lost, applied-in-step}
use Rattle.context.proofs.Begun.{started-full, begun-same, begun-started, reset-full, reset-running, ready-same, ready-kept}
use Rattle.context.proofs.Begun.{ready_held}
use Rattle.context.proofs.Lost.{moved-held, moved-running, moved-full}

---- The decompressor's context once it has the packet

abbrev standing : (q g : ℕ) (f : Bool) → Header → Deltas → DecompressorContext
standing q g f h d = record {
  status = Live;
  filled = f;
  flow = h.flow;
  ip = h.ip;
  rtp = h.rtp;
  csrc = h.csrc;
  carried = not (eqb h.checksum 0);
  marker = h.marker;
  deltas = d;
  link = record { sequence = q; generation = g };
}

-- a checksum that is not carried is the blank one
pub checksum-back : (b : Bool) (x : ℕ) → eqb x 0 ≡ b → cond (not b) x 0 ≡ x
checksum-back true x e = sym (eqb-true x 0 e)
checksum-back false x e = refl

-- the header of a context that has the packet's fields
abbrev fields_of : Header → Header
fields_of h = record {
  flow = h.flow;
  ip = h.ip;
  rtp = h.rtp;
  csrc = h.csrc;
  marker = h.marker;
  checksum = cond (not (eqb h.checksum 0)) h.checksum 0;
}

fields_back : (h : Header) → fields_of h ≡ h
fields_back h = λ i. record {
  flow = h.flow;
  ip = h.ip;
  rtp = h.rtp;
  csrc = h.csrc;
  marker = h.marker;
  checksum = checksum-back (eqb h.checksum 0) h.checksum refl i;
}

standing-exact : (q g : ℕ) (f : Bool) (h : Header) (d : Deltas) → rebuilt (standing q g f h d) h.checksum ≡ h
unfolding rebuilt
standing-exact q g f h d = fields_back h

pub filled-exact : (h : Header) (l : Link) → rebuilt (filled h l) h.checksum ≡ h
unfolding rebuilt filled
filled-exact h l = fields_back h

-- a packet without a checksum leaves a context that carries none
pub filled-blank : (h : Header) (l : Link) → h.checksum ≡ 0 → (filled h l).carried ≡ false
unfolding filled
filled-blank h l z = rw z

close-now : (n g : ℕ) (f : Bool) (h : Header) (c : CompressorContext) (d : Deltas) → h.flow ≡ c.flow → c.link.sequence < 16 →
    d ≡ deltas_after c.deltas (judged h c) → (1 ≤ c.due.full - 1 → Running (moved n h c (judged h c))) →
    Close n 0 (standing c.link.sequence g f h d) (moved n h c (judged h c))
unfolding moved next_sequence
close-now n g f h c d flow small e run =
    let v = standing c.link.sequence g f h d in
    let s = moved n h c (judged h c) in
    record {
      listening = record { status = refl; bound = small };
      constants = record { flow = flow; tos = refl; ttl = refl; flags = refl; padding = refl; extension = refl; carried = refl };
      sequence = omega arith;
      running = λ k. run (rw (moved-full n h c) at k);
      id = near-now 16 n (id_seen v) (id_track s) refl (ap (λ (x : Deltas). x.id) e);
      number = near-now 16 n (sequence_seen v) (sequence_track s) refl refl;
      timestamp = near-now 32 n (timestamp_seen v) (timestamp_track s) refl (ap (λ (x : Deltas). x.timestamp) e);
      payload = λ k. refl;
      list = λ k. refl;
    }

---- A full header: what it resets to is what the decompressor sets

module _ (n j : ℕ) (v : DecompressorContext) (h : Header) (c : CompressorContext) (fits : HeaderInRange h) (held : Held c)
    (flow : h.flow ≡ c.flow) where
  deltas-full : 1 ≤ c.due.full → Running c → reset_deltas ≡ deltas_after c.deltas (judged h c)
  unfolding deltas_after judged
  deltas-full f r = rw (adopts_id-full h c f, adopts_timestamp-full h c f)
      (λ i. record { id = sym r.id i; timestamp = sym r.timestamp i })

  close-full : 1 ≤ c.due.full → Running c → Close n 0 (filled h c.link) (moved n h c (judged h c))
  unfolding filled
  close-full f r = close-now n c.link.generation true h c reset_deltas flow held.link (deltas-full f r)
      (λ k. moved-running n h c f r)

  kind-full : 1 ≤ c.due.full → (any : Bool) → kind_of c.due.full any ≡ full_header
  unfolding kind_of
  kind-full f any = rw (lt-ltb 0 c.due.full f)

  not_full : (k : ℕ) → k ≡ full_header → is_full k ≡ false → ⊥
  not_full k e f = true≢false (sym (ap is_full e) ∙ f)

  full-arrives : 1 ≤ c.due.full → Running c → Arrives n j v h (sent_from n h c)
  unfolding sent_with parts_of
  full-arrives f r =
      let any = any_due (due_now c.due (judged h c)) in
      record {
        gap = 1;
        near = omega arith;
        after = filled h c.link;
        accepts = ap (λ (k : ℕ). received k n h c.link (sent_from n h c).parts v) (kind-full f any);
        exact = filled-exact h c.link;
        live = λ e. absurd (not_full _ (kind-full f any) e);
        carries = λ e. absurd (not_full _ (kind-full f any) e);
        blank = filled-blank h c.link;
        keeps = record { few = omega arith; held = moved-held n h c fits held; close = λ u k. close-full f r };
      }

---- A CU or CR

list-arrives : (any : Bool) (x y : Csrc) → (any ≡ false → y ≡ x) → cond any (list_if any x) y ≡ x
unfolding list_if
list-arrives true x y h = refl
list-arrives false x y h = h refl

received-part : (any : Bool) (n : ℕ) (h : Header) (l : Link) (p : Parts) (v : DecompressorContext) →
    received (cond any compressed_udp compressed_rtp) n h l p v ≡ applied n l.sequence v p
received-part true n h l p v = refl
received-part false n h l p v = refl

module _ (n j : ℕ) (v : DecompressorContext) (h : Header) (c : CompressorContext) (fits : HeaderInRange h) (held : Held c)
    (few : j ≤ n) (flow : h.flow ≡ c.flow)
    (g : SameConstants h c) (m : Close n j v c) where
  number-arrives :
      moved_on (sum 16) (suc j) v.rtp.sequence 1 None
      (then_some (is_due (off_pattern 16 c.rtp.sequence 1 h.rtp.sequence) c.due.sequence) h.rtp.sequence)
      ≡ h.rtp.sequence
  unfolding is_due
  number-arrives =
      value-arrives 16 n j (sequence_seen v) (sequence_track c) h.rtp.sequence held.sequence fits.rtp.sequence
      (off_pattern 16 c.rtp.sequence 1 h.rtp.sequence) false m.number few refl (λ e. absurd (false≢true e))

  payload-arrives :
      unwrap_or (then_some (is_due (not (eqb h.rtp.payload c.rtp.payload)) c.due.payload) h.rtp.payload) v.rtp.payload
      ≡ h.rtp.payload
  payload-arrives = then_some-carried (is_due (not (eqb h.rtp.payload c.rtp.payload)) c.due.payload) h.rtp.payload
      v.rtp.payload
      (λ e. let s = is_due-false (not (eqb h.rtp.payload c.rtp.payload)) c.due.payload e in
      m.payload (omega (arith, s.1)) ∙ sym (eqb-true h.rtp.payload c.rtp.payload (not-false _ s.0)))

  list-due : any_due (due_now c.due (judged h c)) ≡ false → v.csrc ≡ h.csrc
  unfolding judged due_now
  list-due e =
      let s = is_due-false (not (same_list h.csrc c.csrc)) c.due.list
      (any_due-false (due_now c.due (judged h c)) e).list in
      m.list (omega (arith, s.1)) ∙ sym (same_list-true h.csrc c.csrc (not-false _ s.0))

  arrived : advanced (suc j) c.link.sequence v (sent_from n h c).parts
      ≡ standing c.link.sequence v.link.generation v.filled h (deltas_after c.deltas (judged h c))
  unfolding advanced ip_after rtp_after deltas_held sent_with parts_of due_now deltas_after judged
  arrived =
      let k : Constants v c = m.constants in
      let hi = value-arrives 16 n j (id_seen v) (id_track c) h.ip.id held.id fits.ip.id
      (off_pattern 16 c.ip.id c.deltas.id h.ip.id) (adopts_id h c) m.id few refl (adopts_id-off h c) in
      let ht = value-arrives 32 n j (timestamp_seen v) (timestamp_track c) h.rtp.timestamp held.timestamp
      fits.rtp.timestamp (off_pattern 32 c.rtp.timestamp c.deltas.timestamp h.rtp.timestamp)
      (adopts_timestamp h c) m.timestamp few refl (adopts_timestamp-off h c) in
      let di = delta-arrives 16 n j (id_seen v) (id_track c) h.ip.id held.id fits.ip.id (adopts_id h c) m.id few in
      let dt = delta-arrives 32 n j (timestamp_seen v) (timestamp_track c) h.rtp.timestamp held.timestamp
      fits.rtp.timestamp (adopts_timestamp h c) m.timestamp few in
      let hl = list-arrives (any_due (due_now c.due (judged h c))) h.csrc v.csrc list-due in
      λ i. record {
        status = m.listening.status i;
        filled = v.filled;
        flow = (k.flow ∙ sym flow) i;
        ip = record {
          tos = (k.tos ∙ sym g.tos) i;
          ttl = (k.ttl ∙ sym g.ttl) i;
          flags = (k.flags ∙ sym g.flags) i;
          id =
              hi i;
        };
        rtp = record {
          padding = (k.padding ∙ sym g.padding) i;
          extension = (k.extension ∙ sym g.extension) i;
          payload =
              payload-arrives i;
          sequence = number-arrives i;
          timestamp = ht i;
        };
        csrc = hl i;
        carried = (k.carried ∙ ap not (sym g.blank)) i;
        marker = h.marker;
        deltas = record { id = di i; timestamp = dt i };
        link = record { sequence = c.link.sequence; generation = v.link.generation };
      }

  kind-part : c.due.full ≡ 0 → (any : Bool) → kind_of c.due.full any ≡ cond any compressed_udp compressed_rtp
  unfolding kind_of
  kind-part z any = rw (le-ltb 0 c.due.full (omega arith))

  close-part : c.due.full ≡ 0
      → Close n 0 (standing c.link.sequence v.link.generation v.filled h (deltas_after c.deltas (judged h c)))
      (moved n h c (judged h c))
  close-part z = close-now n v.link.generation v.filled h c (deltas_after c.deltas (judged h c)) flow held.link refl
      (λ k. absurd (omega arith))

  part-arrives : n ≤ 14 → c.due.full ≡ 0 → Arrives n j v h (sent_from n h c)
  unfolding sent_with parts_of moved
  part-arrives most z =
      let any = any_due (due_now c.due (judged h c)) in
      record {
        gap = suc j;
        near = omega arith;
        after = standing c.link.sequence v.link.generation v.filled h (deltas_after c.deltas (judged h c));
        accepts =
            ap (λ (k : ℕ). received k n h c.link (sent_from n h c).parts v) (kind-part z any)
            ∙ received-part any n h c.link (sent_from n h c).parts v
            ∙ applied-in-step n j c.link.sequence v _ (sent_from n h c).parts
            (gap-lost v.link.sequence c.link.sequence j (omega arith) m.listening.bound m.sequence) few arrived;
        exact = standing-exact c.link.sequence v.link.generation v.filled h (deltas_after c.deltas (judged h c));
        live = λ e. m.listening.status;
        carries = λ e. m.constants.carried ∙ ap not (sym g.blank);
        blank = λ z. rw z;
        keeps = record { few = omega arith; held = moved-held n h c fits held; close = λ u k. close-part z };
      }

---- step_of

-- while full headers are due, whatever the decompressor has there
full-step : (n j : ℕ) (v : DecompressorContext) (h : Header) (s : CompressorContext) → HeaderInRange h → Held s →
    h.flow ≡ s.flow → 1 ≤ (begun n h s).due.full → Arrives n j v h (step_of n h s)
unfolding step_of
full-step n j v h s fits held flow f =
    full-arrives n j v h (reset (begun n h s)) fits (ready_held n h s held) (flow ∙ sym (ready-kept n h s).flow)
    (rw (reset-full (begun n h s)) f) (reset-running (begun n h s) f)

full-kind : (due any : Bool) → cond due full_header (cond any compressed_udp compressed_rtp) ≡ full_header → due ≡ true
full-kind true any e = refl
full-kind false true e = absurd (false≢true (ap is_full e))
full-kind false false e = absurd (false≢true (ap is_full e))

full-due : (n : ℕ) (h : Header) (s : CompressorContext) → (step_of n h s).kind ≡ full_header → 1 ≤ (begun n h s).due.full
unfolding step_of sent_with kind_of
full-due n h s e =
    let c = reset (begun n h s) in
    rw (reset-full (begun n h s)) at (ltb-true 0 c.due.full
    (full-kind (ltb 0 c.due.full) (any_due (due_now c.due (judged h c))) e))

-- a full header arrives, whatever the decompressor has there
pub related-full : (n j : ℕ) (v : DecompressorContext) (h : Header) (s : CompressorContext) → HeaderInRange h → Held s
    → h.flow ≡ s.flow →
    (step_of n h s).kind ≡ full_header → Arrives n j v h (step_of n h s)
related-full n j v h s fits held flow e = full-step n j v h s fits held flow (full-due n h s e)

module _ (n j : ℕ) (v : DecompressorContext) (h : Header) (s : CompressorContext) (fits : HeaderInRange h)
    (flow : h.flow ≡ s.flow) (r : Related n j v s) where
  arrives-part : s.status ≡ usage.Live → n ≤ 14 → same_constants h s ≡ true → s.due.full ≡ 0 → Arrives n j v h (step_of n h s)
  unfolding step_of
  arrives-part u most e z =
      let m : Close n j v s = r.close u (omega (arith, r.few)) in
      rw (ready-same n h s e m.running) (part-arrives n j v h s fits r.held r.few flow (same-constants h s e) m most z)

  arrives-changed : same_constants h s ≡ false → Arrives n j v h (step_of n h s)
  arrives-changed e = full-step n j v h s fits r.held flow (rw (begun-started n h s e) (omega (arith, started-full n s)))

  arrives-due : same_constants h s ≡ true → ltb 0 s.due.full ≡ true → Arrives n j v h (step_of n h s)
  arrives-due e d = full-step n j v h s fits r.held flow (rw (begun-same n h s e) (ltb-true 0 s.due.full d))

  none-due : ltb 0 s.due.full ≡ false → s.due.full ≡ 0
  none-due d = let k = ltb-false 0 s.due.full d in omega arith

  arrives-by : s.status ≡ usage.Live → n ≤ 14 → (same due : Bool) → same_constants h s ≡ same → ltb 0 s.due.full ≡ due
      → Arrives n j v h (step_of n h s)
  arrives-by u most false due e d = arrives-changed e
  arrives-by u most true true e d = arrives-due e d
  arrives-by u most true false e d = arrives-part u most e (none-due d)

  -- a packet after the context's first arrives
  pub related-arrives : s.status ≡ usage.Live → n ≤ 14 → Arrives n j v h (step_of n h s)
  related-arrives u most = arrives-by u most (same_constants h s) (ltb 0 s.due.full) refl refl

-- a packet leaves status and flow of its context
pub step-status : (n : ℕ) (h : Header) (s : CompressorContext) → (step_of n h s).context.status ≡ s.status
unfolding step_of sent_with moved
step-status n h s = (ready-kept n h s).status

pub step-flow : (n : ℕ) (h : Header) (s : CompressorContext) → (step_of n h s).context.flow ≡ s.flow
unfolding step_of sent_with moved
step-flow n h s = (ready-kept n h s).flow
