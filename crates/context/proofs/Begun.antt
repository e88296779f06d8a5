-- Iarwennol. Laws of what comes before a packet is judged.
-- A run that starts, deltas that are reset. Assume nothing.
-- Used by the laws of a packet that is lost, of one that arrives, of its parts and of soundness.
use Prim.Native.Nat.{ℕ, ◌≤◌, ◌<◌}
use mathlib.Core.Path.{◌≡◌, refl, sym, ap, ◌∙◌}
use mathlib.Core.Bool.{Bool, true, false}
use native.Mathlib.Omega.{arith}
use lib.Dec.{eqb}
use borrow.Author.Tests.{eqb-false, ne_eqb}
use Rattle.packet.specs.declared.header.Header.{Header}
use Rattle.context.specs.Compressor.{same_constants, started, begun, reset}
use Rattle.context.proofs.Relation.{Held}
use Rattle.context.proofs.Relation.{Running}
use Rattle.context.specs.declared.compressor.CompressorContext.{CompressorContext}
use Rattle.context.proofs.Tests.{cond_both}

---- What both leave alone

pub record Kept (a b : CompressorContext) : Type 0 where
  pub status : a.status ≡ b.status
  pub flow : a.flow ≡ b.flow
  pub link : a.link.sequence ≡ b.link.sequence

---- started

-- a run is longer than what may be lost
pub started-full : (n : ℕ) (s : CompressorContext) → n < (started n s).due.full
unfolding started
started-full n s = omega arith

pub started-held : (n : ℕ) (s : CompressorContext) → Held s → Held (started n s)
unfolding started
started-held n s h = record {
  id = h.id;
  sequence = h.sequence;
  timestamp = h.timestamp;
  did = h.did;
  dts = h.dts;
  link =
      h.link;
}

pub started-kept : (n : ℕ) (c : CompressorContext) → Kept (started n c) c
unfolding started
started-kept n c = record { status = refl; flow = refl; link = refl }

---- begun

pub begun-same : (n : ℕ) (h : Header) (s : CompressorContext) → same_constants h s ≡ true → begun n h s ≡ s
unfolding begun
begun-same n h s e = rw e

pub begun-started : (n : ℕ) (h : Header) (s : CompressorContext) → same_constants h s ≡ false → begun n h s ≡ started n s
unfolding begun
begun-started n h s e = rw e

begun-held : (n : ℕ) (h : Header) (s : CompressorContext) → Held s → Held (begun n h s)
unfolding begun
begun-held n h s k = cond_both (λ (c : CompressorContext). Held c) (same_constants h s) _ _ k (started-held n s k)

begun_kept : (n : ℕ) (h : Header) (s : CompressorContext) → Kept (begun n h s) s
unfolding begun
begun_kept n h s = cond_both (λ (c : CompressorContext). Kept c s) (same_constants h s) _ _
    (record { status = refl; flow = refl; link = refl }) (started-kept n s)

---- reset

pub reset-full : (c : CompressorContext) → (reset c).due.full ≡ c.due.full
unfolding reset
reset-full c = cond_both (λ (d : CompressorContext). d.due.full ≡ c.due.full) (eqb c.due.full 0) _ _ refl refl

reset-kept : (c : CompressorContext) → Kept (reset c) c
unfolding reset
reset-kept c =
    cond_both (λ (d : CompressorContext). Kept d c) (eqb c.due.full 0) _ _
    (record { status = refl; flow = refl; link = refl }) (record { status = refl; flow = refl; link = refl })

reset-held : (c : CompressorContext) → Held c → Held (reset c)
unfolding reset
reset-held c h =
    cond_both (λ (d : CompressorContext). Held d) (eqb c.due.full 0) _ _ h
    (record { id = h.id; sequence = h.sequence; timestamp = h.timestamp; did = omega arith; dts = omega arith; link = h.link })

-- a full header's context is reset
pub reset-running : (c : CompressorContext) → 1 ≤ c.due.full → Running (reset c)
unfolding reset
reset-running c f = rw (ne_eqb c.due.full 0 (omega arith)) (record { id = refl; timestamp = refl; did = refl; dts = refl })

reset-none : (c : CompressorContext) → eqb c.due.full 0 ≡ true → reset c ≡ c
unfolding reset
reset-none c e = rw e

reset-again : (c : CompressorContext) → eqb c.due.full 0 ≡ false → Running c → reset c ≡ c
unfolding reset
reset-again c e r = rw e (λ i. record {
  status = c.status;
  flow = c.flow;
  ip = c.ip;
  rtp = c.rtp;
  csrc = c.csrc;
  blank = c.blank;
  deltas = record { id = sym r.id i; timestamp = sym r.timestamp i };
  earlier = c.earlier;
  due = record {
    full = c.due.full;
    id = c.due.id;
    sequence = c.due.sequence;
    timestamp = c.due.timestamp;
    payload = c.due.payload;
    list = c.due.list;
    did = sym r.did i;
    dts = sym r.dts i;
  };
  link = c.link;
})

-- a context in a run, its first full header sent, is reset already
pub reset-same : (c : CompressorContext) → (1 ≤ c.due.full → Running c) → reset c ≡ c
reset-same c r = go (eqb c.due.full 0) refl
  where
    go : (b : Bool) → eqb c.due.full 0 ≡ b → reset c ≡ c
    go true e = reset-none c e
    go false e = reset-again c e (r (let z = eqb-false c.due.full 0 e in omega arith))

---- Both

module _ (n : ℕ) (h : Header) (s : CompressorContext) where
  pub ready-same : same_constants h s ≡ true → (1 ≤ s.due.full → Running s) → reset (begun n h s) ≡ s
  ready-same e r = ap reset (begun-same n h s e) ∙ reset-same s r

  pub ready-kept : Kept (reset (begun n h s)) s
  ready-kept =
      let a = reset-kept (begun n h s) in
      let b = begun_kept n h s in
      record { status = a.status ∙ b.status; flow = a.flow ∙ b.flow; link = a.link ∙ b.link }

  pub ready_held : Held s → Held (reset (begun n h s))
  ready_held k = reset-held (begun n h s) (begun-held n h s k)
