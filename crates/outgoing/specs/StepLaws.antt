-- Iarwennol. Laws of a packet's step on a context, the first or a later one: it can be written, the context stays sound and within
-- its types, and the relation of the two ends goes on. Assume nothing.
-- Used by the proofs and the laws of send, and by the theorem on lists of calls (crtp).
use Rattle.std.specs.Prelude.{ℕ, suc, ◌%◌, ◌≤◌, ◌<◌, ◌≡◌, Bool, true, ◌&&◌, is_some, eqb, length}
use Rattle.std.proofs.Math.Path.{refl, ap}
use Rattle.std.proofs.Common.{sym, ◌∙◌, arith}
use Rattle.std.proofs.Math.Bool.{false, and-eq-true_iff}
use Rattle.std.proofs.lemmas.Bool.{false≢true}
use Rattle.packet.specs.Csrc.{no_list}
use Rattle.packet.specs.Ranges.{HeaderInRange}
use Rattle.packet.specs.declared.csrc.Csrc.{Csrc}
use Rattle.packet.specs.declared.header.Header.{Header}
use Rattle.links.proofs.FitsLaws.{CuFits, CrFits}
use Rattle.links.proofs.FhLaws.{FhFits}
use Rattle.context.specs.Compressor.{full_header, compressed_udp, compressed_rtp, Going, first_step, step_of, parts_of, list_if}
use Rattle.context.specs.Compressor.{begun}
use Rattle.context.specs.Compressor.{reset, checksum_sent}
use Rattle.context.proofs.Relation.{Held, Related, Arrives, is_full}
use Rattle.context.specs.Sound.{sound_link, sound_compressor, empty_decompressor}
use Rattle.context.specs.declared.compressor.Usage.{Usage}
use Rattle.context.specs.declared.compressor.Usage.TheVariants.{Empty, Live}
use Rattle.context.specs.declared.compressor.CompressorContext.{CompressorContext}
use Rattle.context.specs.declared.decompressor.DecompressorContext.{DecompressorContext}
use Rattle.context.specs.declared.kept.Link.{Link}
use Rattle.context.proofs.Tests.{cond_both}
use Rattle.context.proofs.SoundFacts.{LinkBounds, sound_link-bounds}
use Rattle.context.proofs.CompressorSound.{sound-first, sound-step}
use Rattle.context.proofs.PartsLaws.{LinkType, full-header, step-type}
use Rattle.context.proofs.PartsLaws.{parts-step, link-step, list-step, step-unlisted, cu-listed, step-dsn, cr-bare}
use Rattle.context.proofs.Begun.{ready_held}
use Rattle.context.proofs.Lost.{related-lost, moved-held, step-context}
use Rattle.context.proofs.Arrives.{related-arrives, related-full}
use Rattle.context.proofs.Others.{related-first-lost, related-first-arrives}
use Rattle.outgoing.specs.Outgoing.{step_by, step_on}
use Rattle.outgoing.specs.Size.{Writable}

---- step_on

-- link sequence and generation of a context's first packet
abbrev pub first_link : Link
first_link = record { sequence = 0; generation = 0 }

module _ (n : ℕ) (h : Header) (c : CompressorContext) where
  pub step_on-empty : c.status ≡ Empty → step_on n h c ≡ first_step n h first_link
  unfolding step_on
  step_on-empty e = ap (λ (u : Usage). step_by u n h c) e

  pub step_on-live : c.status ≡ Live → step_on n h c ≡ step_of n h c
  unfolding step_on
  step_on-live e = ap (λ (u : Usage). step_by u n h c) e

  -- what holds of a first step and of a later one holds of both
  pub step_on-either : (P : Going → Type 0) → P (first_step n h first_link) → (c.status ≡ Live → P (step_of n h c))
      → P (step_on n h c)
  unfolding step_on
  step_on-either P a b = by c.status refl
    where
      by : (u : Usage) → c.status ≡ u → P (step_by u n h c)
      by Empty e = a
      by Live e = b e

---- Writable

-- the list of the packet, sent or not
list-fits : (any : Bool) (l : Csrc) → l.count ≤ length l.words
    → ((list_if any l).count ≤ l.count) × ((list_if any l).count ≤ length (list_if any l).words)
unfolding list_if
list-fits any l f =
    cond_both (λ (x : Csrc). (x.count ≤ l.count) × (x.count ≤ length x.words)) any l no_list
    (omega arith, f) (omega arith, omega arith)

module _ (n : ℕ) (h : Header) (r : HeaderInRange h) where
  list_of : (any : Bool)
      → ((list_if any h.csrc).count ≤ h.csrc.count) × ((list_if any h.csrc).count ≤ length (list_if any h.csrc).words)
  list_of any = list-fits any h.csrc (omega (arith, r.csrc.count, r.csrc.size))

  writable-first : Writable h (first_step n h first_link)
  unfolding first_step parts_of
  writable-first =
      let l = list_of false in
      record { header = r; sequence = omega arith; generation = omega arith; list = l.0; words = l.1 }

  writable-from : (a : Going) → LinkBounds a.link → a.parts.csrc ≡ list_if a.parts.listed h.csrc → Writable h a
  writable-from a b e =
      let l = list_of a.parts.listed in
      record {
        header = r;
        sequence = omega (arith, b.sequence);
        generation = omega (arith, b.generation);
        list = rw e l.0;
        words = rw e l.1;
      }

  writable-live : (c : CompressorContext) → sound_compressor n c ≡ true → c.status ≡ Live → Writable h (step_of n h c)
  writable-live c s u = writable-from (step_of n h c) (sound_link-bounds (step_of n h c).link (link-step n h c u s))
      (list-step n h c)

  -- what a sound context sends can be written
  pub writable-step_on : (c : CompressorContext) → sound_compressor n c ≡ true → Writable h (step_on n h c)
  writable-step_on c s = step_on-either n h c (λ a. Writable h a) writable-first (writable-live c s)

  ---- The context that it leaves

  module _ (even : eqb (h.flow.dport % 2) 0 ≡ true) where
    sound-first_step : sound_compressor n (first_step n h first_link).context ≡ true
    unfolding first_step sound_link
    sound-first_step = sound-first n h first_link r even refl

    -- a sound context stays sound
    pub sound-step_on : (c : CompressorContext) → sound_compressor n c ≡ true → sound_compressor n (step_on n h c).context ≡ true
    sound-step_on c s =
        step_on-either n h c (λ a. sound_compressor n a.context ≡ true) sound-first_step (λ live. sound-step n h c r live s)

  module _ (c : CompressorContext) where
    held-step_of : Held c → Held (step_of n h c).context
    held-step_of k = rw (step-context n h c) (moved-held n h (reset (begun n h c)) r (ready_held n h c k))

    -- its numbers stay within their types
    pub held-step_on : Held c → Held (step_on n h c).context
    held-step_on k =
        step_on-either n h c (λ a. Held a.context)
        (related-first-arrives n 0 empty_decompressor h first_link r (omega arith)).keeps.held (λ live. held-step_of k)

    ---- The relation; v: the decompressor's context

    module _ (v : DecompressorContext) where
      lost-first : (j : ℕ) → suc j ≤ n → Related n (suc j) v (first_step n h first_link).context
      unfolding first_step
      lost-first j few = related-first-lost n j v h first_link r few

      -- the packet is lost
      pub lost-step_on : (j : ℕ) → Related n j v c → suc j ≤ n → Related n (suc j) v (step_on n h c).context
      lost-step_on j k few =
          step_on-either n h c (λ a. Related n (suc j) v a.context) (lost-first j few) (related-lost n j v h c r few k)

      arrives-first : (j : ℕ) → Arrives n j v h (first_step n h first_link)
      arrives-first j = related-first-arrives n j v h first_link r (omega arith)

      module _ (flow : c.status ≡ Live → h.flow ≡ c.flow) where
        -- the packet arrives
        pub arrives-step_on : (j : ℕ) → Related n j v c → n ≤ 14 → Arrives n j v h (step_on n h c)
        arrives-step_on j k most =
            step_on-either n h c (λ a. Arrives n j v h a) (arrives-first j)
            (λ live. related-arrives n j v h c r (flow live) k live most)

        -- a full header arrives whatever the decompressor has there
        pub full-step_on : Held c → (step_on n h c).kind ≡ full_header → Arrives n 0 v h (step_on n h c)
        full-step_on k =
            step_on-either n h c (λ a. a.kind ≡ full_header → Arrives n 0 v h a) (λ e. arrives-first 0)
            (λ live e. related-full n 0 v h c r k (flow live) e)

---- What its link packet carries can be read back, whatever its kind

-- a full header on context i of k
pub full-fits : {h : Header} {a : Going} → Writable h a → {k i : ℕ} → k ≤ 256 → i < k
    → FhFits k i a.link.generation a.link.sequence h
full-fits w few known =
    record { few = few; known = known; young = w.generation; small = w.sequence; range = w.header }

-- a CU and a CR
pub record Carried (a : Going) : Type 0 where
  pub type : LinkType a.kind
  pub udp : a.kind ≡ compressed_udp → CuFits a.link.sequence (checksum_sent a.context) a.parts
  pub rtp : a.kind ≡ compressed_rtp → CrFits a.link.sequence (checksum_sent a.context) a.parts

not-second : (m q t d : Bool) → q ≡ false → (m && q && t && d) ≡ true → ⊥
not-second m q t d e f =
    let a = (and-eq-true_iff (m && q && t) d).0 f in
    let b = (and-eq-true_iff (m && q) t).0 a.0 in
    false≢true (sym e ∙ ((and-eq-true_iff m q).0 b.0).1)

module _ (n : ℕ) (h : Header) (r : HeaderInRange h) (c : CompressorContext) where
  -- the first packet is a full header
  first-full : (k : ℕ) → (first_step n h first_link).kind ≡ k → is_full k ≡ true
  unfolding first_step
  first-full k e = ap is_full (sym e)

  first-type : LinkType (first_step n h first_link).kind
  unfolding first_step
  first-type = full-header

  carried_first : Carried (first_step n h first_link)
  carried_first = record {
    type = first-type;
    udp = λ e. absurd (false≢true (first-full compressed_udp e));
    rtp = λ e. absurd (false≢true (first-full compressed_rtp e));
  }

  module _ (held : Held c) (sound : sound_compressor n c ≡ true) (live : c.status ≡ Live) where
    small-step_of : (step_of n h c).link.sequence < 16
    small-step_of = omega (arith, (sound_link-bounds (step_of n h c).link (link-step n h c live sound)).sequence)

    udp-step_of : (step_of n h c).kind ≡ compressed_udp
        → CuFits (step_of n h c).link.sequence (checksum_sent (step_of n h c).context) (step_of n h c).parts
    udp-step_of k = record {
      parts = parts-step n h c r held live sound;
      small = small-step_of;
      dsn = step-dsn n h c;
      listed = cu-listed n h c k;
    }

    rtp-step_of : (step_of n h c).kind ≡ compressed_rtp
        → CrFits (step_of n h c).link.sequence (checksum_sent (step_of n h c).context) (step_of n h c).parts
    rtp-step_of k =
        let p = (step_of n h c).parts in
        let b = cr-bare n h c k in
        record {
          parts = parts-step n h c r held live sound;
          small = small-step_of;
          id = b.id;
          sequence = b.sequence;
          timestamp = b.timestamp;
          payload = b.payload;
          unlisted = step-unlisted n h c;
          second = λ e. absurd (not-second p.marker (is_some p.dsn) (is_some p.dts) (is_some p.did) (ap is_some b.dsn) e);
        }

  pub carried-step_on : Held c → sound_compressor n c ≡ true → Carried (step_on n h c)
  carried-step_on held sound =
      step_on-either n h c Carried carried_first
      (λ live. record { type = step-type n h c; udp = udp-step_of held sound live; rtp = rtp-step_of held sound live })
