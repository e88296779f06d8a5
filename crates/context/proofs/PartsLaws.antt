-- Iarwennol. What a packet on a context carries.
-- Parts that the layouts have room for. Assume nothing.
-- Used where parts are written and read back, and by robustness (rule 10).
use Prim.Native.Nat.{ℕ, ◌^◌, ◌<◌}
use mathlib.Core.Path.{◌≡◌, refl, sym, ◌∙◌}
use mathlib.Core.Bool.{Bool, true, false, cond, not, true≢false}
use native.Mathlib.Omega.{arith}
use lib.Dec.{eqb, ltb}
use Rattle.std.specs.Prelude.{None, IfSome}
use Rattle.std.specs.Bool.{then_some}
use Rattle.codes.specs.Difference.{has_code}
use Rattle.packet.specs.Csrc.{no_list}
use Rattle.packet.specs.Ranges.{ListInRange, HeaderInRange, PartsFit}
use Rattle.packet.specs.RangesLaws.{range-no_list}
use Rattle.packet.specs.declared.csrc.Csrc.{Csrc}
use Rattle.packet.specs.declared.header.Header.{Header}
use Rattle.packet.specs.declared.parts.Parts.{Parts}
use Rattle.context.specs.Compressor.{begun, reset, adopts_timestamp, judged, due_now, any_due, list_if, parts_of}
use Rattle.context.specs.Compressor.{full_header, compressed_udp, compressed_rtp, kind_of}
use Rattle.context.specs.Compressor.{deltas_after, moved, sent_with, sent_from, step_of}
use Rattle.context.proofs.Relation.{Held}
use Rattle.context.specs.Sound.{sound_link, sound_compressor}
use Rattle.context.specs.declared.compressor.Usage.TheVariants.{Live}
use Rattle.context.specs.declared.compressor.CompressorContext.{CompressorContext}
use Rattle.context.specs.declared.step.DueNow.{DueNow}
use Rattle.context.proofs.Tests.{cond-when, cond_both, adopts_timestamp-coded, NoneDue, any_due-false}
use Rattle.context.proofs.Begun.{ready_held}
use Rattle.context.proofs.Lost.{moved-held}
use Rattle.context.proofs.Arrives.{checksum-back}
use Rattle.context.proofs.SoundFacts.{UsedBounds, bounds-sound_link}
use Rattle.context.proofs.CompressorSound.{ready-bounds, sound_compressor-bounds}

---- then_some

sent-if : {A : Type 0} (P : A → Type 0) (due : Bool) (x : A) → P x → IfSome (then_some due x) P
sent-if P true x h = h
sent-if P false x h = tt

unsent : {A : Type 0} (due : Bool) (x : A) → due ≡ false → then_some due x ≡ None
unsent due x e = rw e

---- list_if

list-range : (any : Bool) (l : Csrc) → ListInRange l → ListInRange (list_if any l)
unfolding list_if
list-range any l r = cond_both (λ (x : Csrc). ListInRange x) any l no_list r range-no_list

list-unlisted : (any : Bool) (l : Csrc) → any ≡ false → list_if any l ≡ no_list
unfolding list_if
list-unlisted true l e = absurd (true≢false e)
list-unlisted false l e = refl

---- sent_from

module _ (n : ℕ) (h : Header) (c : CompressorContext) (fits : HeaderInRange h) (held : Held c) (bounds : UsedBounds n c) where
  sent-fits : PartsFit (not (sent_from n h c).context.blank) (sent_from n h c).parts
  unfolding sent_with parts_of moved deltas_after judged
  sent-fits =
      let d : DueNow = due_now c.due (judged h c) in
      let k : Held (moved n h c (judged h c)) = moved-held n h c fits held in
      record {
        checksum = record { fits = fits.checksum; blank = checksum-back (eqb h.checksum 0) h.checksum refl };
        id = sent-if (λ v. v < 2 ^ 16) d.id h.ip.id fits.ip.id;
        sequence = sent-if (λ v. v < 2 ^ 16) d.sequence h.rtp.sequence fits.rtp.sequence;
        timestamp = sent-if (λ v. v < 2 ^ 32) d.timestamp h.rtp.timestamp fits.rtp.timestamp;
        payload = sent-if (λ v. v < 2 ^ 7) d.payload h.rtp.payload fits.rtp.payload;
        did = sent-if (λ v. v < 2 ^ 16) d.did (moved n h c (judged h c)).deltas.id k.did;
        dsn = tt;
        dts = sent-if (λ v. v < 2 ^ 32) d.dts (moved n h c (judged h c)).deltas.timestamp k.dts;
        coded = sent-if (λ v. has_code 32 v ≡ true) d.dts (moved n h c (judged h c)).deltas.timestamp
            (cond-when (λ v. has_code 32 v ≡ true) (adopts_timestamp h c) _ _ (adopts_timestamp-coded h c) bounds.coded);
        list = list-range (any_due d) h.csrc fits.csrc;
      }

---- kind_of

-- parts with nothing but the marker and the checksum, as a CR of the compressor has them
pub record Bare (p : Parts) : Type 0 where
  pub id : p.id ≡ None
  pub sequence : p.sequence ≡ None
  pub timestamp : p.timestamp ≡ None
  pub payload : p.payload ≡ None
  pub did : p.did ≡ None
  pub dsn : p.dsn ≡ None
  pub dts : p.dts ≡ None
  pub listed : p.listed ≡ false

-- the link types of a packet on a context
pub data LinkType : ℕ → Type 0 where
  full-header : LinkType full_header
  compressed-udp : LinkType compressed_udp
  compressed-rtp : LinkType compressed_rtp

kind-type : (full any : Bool) → LinkType (cond full full_header (cond any compressed_udp compressed_rtp))
kind-type true any = full-header
kind-type false true = compressed-udp
kind-type false false = compressed-rtp

full-udp : full_header ≡ compressed_udp → ⊥
full-udp e = omega arith

full-rtp : full_header ≡ compressed_rtp → ⊥
full-rtp e = omega arith

rtp-udp : compressed_rtp ≡ compressed_udp → ⊥
rtp-udp e = omega arith

kind-udp : (full any : Bool) → cond full full_header (cond any compressed_udp compressed_rtp) ≡ compressed_udp → any ≡ true
kind-udp true any e = absurd (full-udp e)
kind-udp false true e = refl
kind-udp false false e = absurd (rtp-udp e)

kind-rtp : (full any : Bool) → cond full full_header (cond any compressed_udp compressed_rtp) ≡ compressed_rtp → any ≡ false
kind-rtp true any e = absurd (full-rtp e)
kind-rtp false true e = absurd (rtp-udp (sym e))
kind-rtp false false e = refl

---- step_of

module _ (n : ℕ) (h : Header) (s : CompressorContext) where
  -- what a CU or CR carries can be written; a full header's parts are not sent
  pub parts-step : HeaderInRange h → Held s → s.status ≡ Live → sound_compressor n s ≡ true
      → PartsFit (not (step_of n h s).context.blank) (step_of n h s).parts
  unfolding step_of
  parts-step f k u b = sent-fits n h (reset (begun n h s)) f (ready_held n h s k)
      (ready-bounds n h s (sound_compressor-bounds n s u b))

  -- the link sequence and the generation have their bits
  pub link-step : s.status ≡ Live → sound_compressor n s ≡ true → sound_link (step_of n h s).link ≡ true
  unfolding step_of sent_with
  link-step u b = bounds-sound_link (reset (begun n h s)).link (ready-bounds n h s (sound_compressor-bounds n s u b)).link

  -- the list that the parts have, where they have one, is the packet's
  pub list-step : (step_of n h s).parts.csrc ≡ list_if (step_of n h s).parts.listed h.csrc
  unfolding step_of sent_with parts_of
  list-step = refl

  pub step-unlisted : (step_of n h s).parts.listed ≡ false → (step_of n h s).parts.csrc ≡ no_list
  step-unlisted e = list-step ∙ list-unlisted (step_of n h s).parts.listed h.csrc e

  pub step-type : LinkType (step_of n h s).kind
  unfolding step_of sent_with kind_of
  step-type = kind-type (ltb 0 (reset (begun n h s)).due.full)
      (any_due (due_now (reset (begun n h s)).due (judged h (reset (begun n h s)))))

  -- a CU has the list, and no difference of the sequence
  pub cu-listed : (step_of n h s).kind ≡ compressed_udp → (step_of n h s).parts.listed ≡ true
  unfolding step_of sent_with parts_of kind_of
  cu-listed e = kind-udp (ltb 0 (reset (begun n h s)).due.full)
      (any_due (due_now (reset (begun n h s)).due (judged h (reset (begun n h s))))) e

  pub step-dsn : (step_of n h s).parts.dsn ≡ None
  unfolding step_of sent_with parts_of
  step-dsn = refl

  -- a CR has neither list nor field
  pub cr-bare : (step_of n h s).kind ≡ compressed_rtp → Bare (step_of n h s).parts
  unfolding step_of sent_with parts_of kind_of
  cr-bare e =
      let now = due_now (reset (begun n h s)).due (judged h (reset (begun n h s))) in
      let none : any_due now ≡ false = kind-rtp (ltb 0 (reset (begun n h s)).due.full) (any_due now) e in
      let d : NoneDue now = any_due-false now none in
      record {
        id = unsent now.id _ d.id;
        sequence = unsent now.sequence _ d.sequence;
        timestamp = unsent now.timestamp _ d.timestamp;
        payload = unsent now.payload _ d.payload;
        did = unsent now.did _ d.did;
        dsn = refl;
        dts = unsent now.dts _ d.dts;
        listed = none;
      }
