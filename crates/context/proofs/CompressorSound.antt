-- Iarwennol. Soundness at the compressor.
-- Every step leaves a sound context for a sound one. Assume nothing.
-- Used by the soundness of the compressor's table after each call, and by the laws of a packet's parts.
use Prim.Native.Nat.{ℕ, ◌+◌, ◌%◌, ◌≤◌}
use mathlib.Core.Path.{◌≡◌, refl, sym, ap, ◌∙◌}
use mathlib.Core.Bool.{Bool, true, false}
use native.Mathlib.Omega.{arith}
use lib.Dec.{eqb}
use Rattle.codes.specs.Difference.{has_code}
use Rattle.packet.specs.Ranges.{HeaderInRange}
use Rattle.packet.specs.RangesLaws.{range-sound}
use Rattle.packet.specs.declared.header.Header.{Header}
use Rattle.context.specs.Field.{counted, next_sequence, next_generation}
use Rattle.context.specs.Compressor.{reset_deltas, with_kept, with_due, first, started, same_constants, begun, skips}
use Rattle.context.specs.Compressor.{started_unless_due, requested_by, requested, reset, adopts_timestamp, judged, due_after}
use Rattle.context.specs.Compressor.{deltas_after, moved, step_of}
use Rattle.context.specs.Sound.{sound_link, used_sound, unused_sound, sound_compressor_by, sound_compressor, empty_compressor}
use Rattle.context.specs.Sound.{zero_list}
use Rattle.context.specs.declared.kept.Link.{Link}
use Rattle.context.specs.declared.compressor.Usage.{Usage}
use Rattle.context.specs.declared.compressor.Usage.TheVariants.{Empty, Live}
use Rattle.context.specs.declared.compressor.Due.{Due}
use Rattle.context.specs.declared.compressor.CompressorContext.{CompressorContext}
use Rattle.context.specs.declared.step.Judged.{Judged}
use Rattle.context.proofs.Tests.{cond-when, cond_both, adopts_timestamp-coded}
use Rattle.context.proofs.Begun.{Kept, started-kept}
use Rattle.context.proofs.Lost.{step-context}
use Rattle.context.proofs.Arrives.{step-status}
use Rattle.context.proofs.SoundFacts.{has_code-zero, sound_list-made, LinkBounds, sound_link-bounds}
use Rattle.context.proofs.SoundFacts.{DueBounds, UsedBounds, used_sound-bounds, bounds-used_sound}

---- counted, due_after

counted-bound : (n : ℕ) (fresh : Bool) (d : ℕ) → d ≤ n → counted n fresh d ≤ n
unfolding counted
counted-bound n true d h = omega arith
counted-bound n false d h = omega arith

full-bound : (n d : ℕ) → d ≤ n + 1 → counted n false d ≤ n + 1
unfolding counted
full-bound n d h = omega arith

due-bounds : (n : ℕ) (d : Due) (j : Judged) → DueBounds n d → DueBounds n (due_after n d j)
unfolding due_after
due-bounds n d j b = record {
  full = full-bound n d.full b.full;
  id = counted-bound n j.id d.id b.id;
  sequence = counted-bound n j.sequence d.sequence b.sequence;
  timestamp = counted-bound n j.timestamp d.timestamp b.timestamp;
  payload = counted-bound n j.payload d.payload b.payload;
  list = counted-bound n j.list d.list b.list;
  did = counted-bound n j.did d.did b.did;
  dts = counted-bound n j.dts d.dts b.dts;
}

---- The bounds of a context in use, step by step

moved-bounds : (n : ℕ) (h : Header) (c : CompressorContext) → HeaderInRange h → UsedBounds n c
    → UsedBounds n (moved n h c (judged h c))
unfolding moved deltas_after judged next_sequence
moved-bounds n h c f b = record {
  port = b.port;
  flags = omega (arith, f.ip.flags);
  payload = omega (arith, f.rtp.payload);
  list = sound_list-made h.csrc (range-sound f.csrc);
  coded = cond-when (λ (d : ℕ). has_code 32 d ≡ true) (adopts_timestamp h c) _ _ (adopts_timestamp-coded h c) b.coded;
  due = due-bounds n c.due (judged h c) b.due;
  link = record { sequence = omega arith; generation = b.link.generation };
}

started-bounds : (n : ℕ) (c : CompressorContext) → UsedBounds n c → UsedBounds n (started n c)
unfolding started next_generation
started-bounds n c b = let d = b.due in record {
  port = b.port;
  flags = b.flags;
  payload = b.payload;
  list = b.list;
  coded = b.coded;
  due = record {
    full = omega arith;
    id = d.id;
    sequence = d.sequence;
    timestamp = d.timestamp;
    payload = d.payload;
    list =
        d.list;
    did = d.did;
    dts = d.dts;
  };
  link = record { sequence = b.link.sequence; generation = omega arith };
}

begun-bounds : (n : ℕ) (h : Header) (c : CompressorContext) → UsedBounds n c → UsedBounds n (begun n h c)
unfolding begun
begun-bounds n h c b = cond_both (λ (d : CompressorContext). UsedBounds n d) (same_constants h c) _ _ b (started-bounds n c b)

reset-bounds : (n : ℕ) (c : CompressorContext) → UsedBounds n c → UsedBounds n (reset c)
unfolding reset
reset-bounds n c b = let d = b.due in
    cond_both (λ (x : CompressorContext). UsedBounds n x) (eqb c.due.full 0) _
    (with_kept reset_deltas (with_due c.due.full 0 0 c.due) c.link c) b (record {
      port = b.port;
      flags = b.flags;
      payload = b.payload;
      list = b.list;
      coded = has_code-zero;
      due = record {
        full = d.full;
        id = d.id;
        sequence = d.sequence;
        timestamp = d.timestamp;
        payload = d.payload;
        list =
            d.list;
        did = omega arith;
        dts = omega arith;
      };
      link = b.link;
    })

pub ready-bounds : (n : ℕ) (h : Header) (c : CompressorContext) → UsedBounds n c → UsedBounds n (reset (begun n h c))
ready-bounds n h c b = reset-bounds n (begun n h c) (begun-bounds n h c b)

step-bounds : (n : ℕ) (h : Header) (c : CompressorContext) → HeaderInRange h → UsedBounds n c → UsedBounds n (step_of n h c).context
step-bounds n h c f b = rw (step-context n h c) (moved-bounds n h (reset (begun n h c)) f (ready-bounds n h c b))

first-bounds : (n : ℕ) (h : Header) (l : Link) → HeaderInRange h → eqb (h.flow.dport % 2) 0 ≡ true → LinkBounds l
    → UsedBounds n (first n h l)
unfolding first next_sequence
first-bounds n h l f even b = record {
  port = even;
  flags = omega (arith, f.ip.flags);
  payload = omega (arith, f.rtp.payload);
  list = sound_list-made h.csrc (range-sound f.csrc);
  coded = has_code-zero;
  due = record {
    full = omega arith;
    id = omega arith;
    sequence = omega arith;
    timestamp = omega arith;
    payload =
        omega arith;
    list = omega arith;
    did = omega arith;
    dts = omega arith;
  };
  link = record { sequence = omega arith; generation = b.generation };
}

unless-bounds : (n : ℕ) (c : CompressorContext) → UsedBounds n c → UsedBounds n (started_unless_due n c)
unfolding started_unless_due
unless-bounds n c b = cond_both (λ (d : CompressorContext). UsedBounds n d) (skips c) _ _ b (started-bounds n c b)

---- sound_compressor

pub sound_compressor-live : (n : ℕ) (c : CompressorContext) → c.status ≡ Live → sound_compressor n c ≡ used_sound n c
unfolding sound_compressor sound_compressor_by
sound_compressor-live n c e = ap (λ (u : Usage). sound_compressor_by u n c) e

pub sound_compressor-bounds : (n : ℕ) (c : CompressorContext) → c.status ≡ Live → sound_compressor n c ≡ true → UsedBounds n c
sound_compressor-bounds n c u s = used_sound-bounds n c (sym (sound_compressor-live n c u) ∙ s)

bounds-sound_compressor : (n : ℕ) (c : CompressorContext) → c.status ≡ Live → UsedBounds n c → sound_compressor n c ≡ true
bounds-sound_compressor n c u b = sound_compressor-live n c u ∙ bounds-used_sound n c b

pub sound_empty : (n : ℕ) → sound_compressor n empty_compressor ≡ true
unfolding sound_compressor sound_compressor_by empty_compressor unused_sound zero_list
sound_empty n = refl

first_live : (n : ℕ) (h : Header) (l : Link) → (first n h l).status ≡ Live
unfolding first
first_live n h l = refl

pub sound-first : (n : ℕ) (h : Header) (l : Link) → HeaderInRange h → eqb (h.flow.dport % 2) 0 ≡ true → sound_link l ≡ true
    → sound_compressor n (first n h l) ≡ true
sound-first n h l f even s = bounds-sound_compressor n (first n h l) (first_live n h l)
    (first-bounds n h l f even (sound_link-bounds l s))

pub sound-step : (n : ℕ) (h : Header) (c : CompressorContext) → HeaderInRange h → c.status ≡ Live → sound_compressor n c ≡ true
    → sound_compressor n (step_of n h c).context ≡ true
sound-step n h c f u s = bounds-sound_compressor n (step_of n h c).context (step-status n h c ∙ u)
    (step-bounds n h c f (sound_compressor-bounds n c u s))

---- requested

unless-kept : (n : ℕ) (c : CompressorContext) → Kept (started_unless_due n c) c
unfolding started_unless_due
unless-kept n c = cond_both (λ (d : CompressorContext). Kept d c) (skips c) _ _ (record { status = refl; flow = refl; link = refl })
    (started-kept n c)

kept_by : (u : Usage) (n : ℕ) (c : CompressorContext) → Kept (requested_by u n c) c
kept_by Empty n c = record { status = refl; flow = refl; link = refl }
kept_by Live n c = unless-kept n c

-- a request leaves status, flow and link sequence of its context
pub requested-kept : (n : ℕ) (c : CompressorContext) → Kept (requested n c) c
unfolding requested
requested-kept n c = kept_by c.status n c

sound-unless : (n : ℕ) (c : CompressorContext) → c.status ≡ Live → sound_compressor n c ≡ true
    → sound_compressor n (started_unless_due n c) ≡ true
sound-unless n c u s = bounds-sound_compressor n (started_unless_due n c) ((unless-kept n c).status ∙ u)
    (unless-bounds n c (sound_compressor-bounds n c u s))

requested-by : (u : Usage) (n : ℕ) (c : CompressorContext) → c.status ≡ u → sound_compressor n c ≡ true
    → sound_compressor n (requested_by u n c) ≡ true
requested-by Empty n c e s = s
requested-by Live n c e s = sound-unless n c e s

pub sound-requested : (n : ℕ) (c : CompressorContext) → sound_compressor n c ≡ true → sound_compressor n (requested n c) ≡ true
unfolding requested
sound-requested n c s = requested-by c.status n c refl s
