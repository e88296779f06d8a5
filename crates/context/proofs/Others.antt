-- Iarwennol. The other steps of one context.
-- Its first packet, a request, a context that is empty. Assume nothing.
-- Used by robustness over lists of calls (rule 10).
use Prim.Native.Nat.{ℕ, suc, ◌≤◌, ◌<◌}
use mathlib.Core.Path.{◌≡◌, refl}
use mathlib.Core.Bool.{true≢false}
use native.Mathlib.Omega.{arith}
use Rattle.packet.specs.Ranges.{HeaderInRange}
use Rattle.packet.specs.declared.header.Header.{Header}
use Rattle.context.specs.Field.{next_sequence}
use Rattle.context.specs.Compressor.{started, skips, started_unless_due, requested, requested_by, first, first_step, parts_of}
use Rattle.context.specs.Decompressor.{filled}
use Rattle.context.proofs.Relation.{Held}
use Rattle.context.specs.Sound.{empty_compressor}
use Rattle.context.proofs.Relation.{Close, Related, Arrives, id_track, id_seen, sequence_track, sequence_seen, timestamp_track}
use Rattle.context.proofs.Relation.{timestamp_seen}
use Rattle.context.specs.declared.kept.Link.{Link}
use Rattle.context.specs.declared.compressor.Usage.{Usage}
use Rattle.context.specs.declared.compressor.Usage.TheVariants.{Empty, Live}
use Rattle.context.specs.declared.compressor.CompressorContext.{CompressorContext}
use Rattle.context.specs.declared.decompressor.DecompressorContext.{DecompressorContext}
use Rattle.context.proofs.Tests.{cond_both}
use Rattle.context.proofs.FieldLaws.{near-now}
use Rattle.context.proofs.Begun.{started-full, started-held}
use Rattle.context.proofs.Arrives.{filled-exact, filled-blank}

---- first

first-held : (n : ℕ) (h : Header) (l : Link) → HeaderInRange h → Held (first n h l)
unfolding first next_sequence
first-held n h l f = record {
  id = f.ip.id;
  sequence = f.rtp.sequence;
  timestamp = f.rtp.timestamp;
  did = omega arith;
  dts = omega arith;
  link = omega arith;
}

-- after the first full header as many are due as may be lost
first-full : (n : ℕ) (h : Header) (l : Link) → n ≤ (first n h l).due.full
unfolding first
first-full n h l = omega arith

-- a context's first packet is lost, whatever the decompressor has there
pub related-first-lost : (n j : ℕ) (v : DecompressorContext) (h : Header) (l : Link) → HeaderInRange h → suc j ≤ n
    → Related n (suc j) v (first n h l)
related-first-lost n j v h l f few = record {
  few = few;
  held = first-held n h l f;
  close =
      λ u k. absurd (omega (arith, first-full n h l));
}

first-close : (n : ℕ) (h : Header) (l : Link) → l.sequence < 16 → Close n 0 (filled h l) (first n h l)
unfolding first filled next_sequence
first-close n h l small = record {
  listening = record { status = refl; bound = small };
  constants = record { flow = refl; tos = refl; ttl = refl; flags = refl; padding = refl; extension = refl; carried = refl };
  sequence = omega arith;
  running = λ k. record { id = refl; timestamp = refl; did = refl; dts = refl };
  id = near-now 16 n (id_seen (filled h l)) (id_track (first n h l)) refl refl;
  number = near-now 16 n (sequence_seen (filled h l)) (sequence_track (first n h l)) refl refl;
  timestamp = near-now 32 n (timestamp_seen (filled h l)) (timestamp_track (first n h l)) refl refl;
  payload = λ k. refl;
  list = λ k. refl;
}

-- a context's first packet arrives, whatever the decompressor has there
pub related-first-arrives : (n j : ℕ) (v : DecompressorContext) (h : Header) (l : Link) → HeaderInRange h → l.sequence < 16
    → Arrives n j v h (first_step n h l)
unfolding first_step parts_of
related-first-arrives n j v h l f small = record {
  gap = 1;
  near = omega arith;
  after = filled h l;
  accepts = refl;
  exact = filled-exact h l;
  live = λ e. absurd (true≢false e);
  carries = λ e. absurd (true≢false e);
  blank = filled-blank h l;
  keeps = record { few = omega arith; held = first-held n h l f; close = λ u k. first-close n h l small };
}

---- requested

started-related : (n j : ℕ) (v : DecompressorContext) (s : CompressorContext) → Related n j v s → Related n j v (started n s)
started-related n j v s r = record {
  few = r.few;
  held = started-held n s r.held;
  close =
      λ u k. absurd (omega (arith, started-full n s));
}

related-unless : (n j : ℕ) (v : DecompressorContext) (s : CompressorContext) → Related n j v s
    → Related n j v (started_unless_due n s)
unfolding started_unless_due
related-unless n j v s r = cond_both (λ (c : CompressorContext). Related n j v c) (skips s) _ _ r (started-related n j v s r)

related-by : (u : Usage) (n j : ℕ) (v : DecompressorContext) (s : CompressorContext) → Related n j v s
    → Related n j v (requested_by u n s)
related-by Empty n j v s r = r
related-by Live n j v s r = related-unless n j v s r

pub related-requested : (n j : ℕ) (v : DecompressorContext) (s : CompressorContext) → Related n j v s
    → Related n j v (requested n s)
unfolding requested
related-requested n j v s r = related-by s.status n j v s r

---- The empty context

empty-live : Empty ≡ Live → ⊥
empty-live e = let z : ◌≡◌ {A = ℕ} 0 1 = cc in absurd (omega arith)

-- whatever the decompressor has there
pub related-empty : (n : ℕ) (v : DecompressorContext) → Related n 0 v empty_compressor
unfolding empty_compressor
related-empty n v = record {
  few = omega arith;
  held = record {
    id = omega arith;
    sequence = omega arith;
    timestamp = omega arith;
    did = omega arith;
    dts = omega arith;
    link =
        omega arith;
  };
  close = λ u k. absurd (empty-live u);
}
