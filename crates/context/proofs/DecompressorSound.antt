-- Iarwennol. Soundness at the decompressor.
-- Every step leaves a sound context for a sound one. Assume nothing.
-- Used by the soundness of the decompressor's table after each call.
use Prim.Native.Nat.{ℕ, ◌≤◌, ◌<◌}
use mathlib.Core.Path.{◌≡◌, refl, sym, ap, ◌∙◌}
use mathlib.Core.Bool.{Bool, true, false, cond, not, ◌&&◌, false≢true, and-eq-true_iff}
use native.Mathlib.Omega.{arith}
use lib.Dec.{eqb}
use Rattle.codes.specs.Difference.{has_code}
use Rattle.packet.specs.Ranges.{HeaderInRange, HeaderSound, PartsSound}
use Rattle.packet.specs.RangesLaws.{range-sound}
use Rattle.packet.specs.declared.csrc.Csrc.{Csrc}
use Rattle.packet.specs.declared.header.Header.{Header}
use Rattle.packet.specs.declared.header.RtpHeader.{RtpHeader}
use Rattle.packet.specs.declared.parts.Parts.{Parts}
use Rattle.context.specs.Decompressor.{filled, gap_judged, gap_of, ip_after, rtp_after, deltas_held, advanced, advanced_whole}
use Rattle.context.specs.Decompressor.{broke, Effect, accepted_as, refused_as, settled, applied, applied_whole}
use Rattle.context.specs.Sound.{sound_list, sound_link, filled_sound, unfilled_sound, sound_decompressor_by, sound_decompressor}
use Rattle.context.specs.Sound.{empty_decompressor, zero_list}
use Rattle.context.specs.declared.kept.Link.{Link}
use Rattle.context.specs.declared.decompressor.Status.{Status}
use Rattle.context.specs.declared.decompressor.Status.TheVariants.{Empty, Live, Broken}
use Rattle.context.specs.declared.decompressor.DecompressorContext.{DecompressorContext}
use Rattle.context.proofs.Tests.{cond_both, unwrap_or-both}
use Rattle.context.proofs.WholeLaws.{whole-delta}
use Rattle.context.proofs.SoundFacts.{has_code-zero, sound_list-made, sound_link-bounds}
use Rattle.context.proofs.SoundFacts.{FilledBounds, filled_sound-bounds, bounds-filled_sound}

---- A live context is sound where it is filled and its fields are in range

sound_decompressor-live : (c : DecompressorContext) → c.status ≡ Live → sound_decompressor c ≡ (c.filled && filled_sound c)
unfolding sound_decompressor sound_decompressor_by
sound_decompressor-live c e = ap (λ (s : Status). sound_decompressor_by s c) e

live-filled : (c : DecompressorContext) → c.status ≡ Live → sound_decompressor c ≡ true
    → (c.filled ≡ true) × (filled_sound c ≡ true)
live-filled c u s = (and-eq-true_iff c.filled (filled_sound c)).0 (sym (sound_decompressor-live c u) ∙ s)

pub sound_decompressor-bounds : (c : DecompressorContext) → c.status ≡ Live → sound_decompressor c ≡ true → FilledBounds c
sound_decompressor-bounds c u s = filled_sound-bounds c (live-filled c u s).1

filled-and : (f b : Bool) → f ≡ true → b ≡ true → (f && b) ≡ true
filled-and f b e g = rw (e, g)

bounds-sound_decompressor : (c : DecompressorContext) → c.status ≡ Live → c.filled ≡ true → FilledBounds c
    → sound_decompressor c ≡ true
bounds-sound_decompressor c u f b = sound_decompressor-live c u ∙ filled-and c.filled (filled_sound c) f (bounds-filled_sound c b)

---- empty_decompressor, filled

pub sound_none : sound_decompressor empty_decompressor ≡ true
unfolding sound_decompressor sound_decompressor_by empty_decompressor unfilled_sound zero_list
sound_none = refl

pub sound-filled : (h : Header) (l : Link) → HeaderInRange h → sound_link l ≡ true → sound_decompressor (filled h l) ≡ true
unfolding filled
sound-filled h l f s = bounds-sound_decompressor (filled h l) refl refl (record {
  flags = omega (arith, f.ip.flags);
  payload = omega (arith, f.rtp.payload);
  list = sound_list-made h.csrc (range-sound f.csrc);
  coded = has_code-zero;
  link = sound_link-bounds l s;
})

---- advanced, advanced_whole

pub sound-advanced : (g q : ℕ) (c : DecompressorContext) (p : Parts) → q ≤ 15 → PartsSound p → c.status ≡ Live
    → sound_decompressor c ≡ true → sound_decompressor (advanced g q c p) ≡ true
unfolding advanced ip_after rtp_after deltas_held
sound-advanced g q c p small a u s =
    let b = sound_decompressor-bounds c u s in
    bounds-sound_decompressor (advanced g q c p) u (live-filled c u s).0 (record {
      flags = b.flags;
      payload =
          let x = unwrap_or-both (λ (x : ℕ). x < 128) p.payload c.rtp.payload a.payload (omega (arith, b.payload)) in omega arith;
      list = cond_both (λ (x : Csrc). sound_list x ≡ true) p.listed _ _ (sound_list-made p.csrc a.list) b.list;
      coded = unwrap_or-both (λ (x : ℕ). has_code 32 x ≡ true) p.dts _ a.coded b.coded;
      link = record { sequence = small; generation = b.link.generation };
    })

pub sound-whole : (g q : ℕ) (c : DecompressorContext) (p : Parts) (w : RtpHeader) → q ≤ 15 → PartsSound p → HeaderSound w
    → c.status ≡ Live → sound_decompressor c ≡ true → sound_decompressor (advanced_whole g q c p w) ≡ true
unfolding advanced_whole ip_after
sound-whole g q c p w small a t u s =
    let b = sound_decompressor-bounds c u s in
    bounds-sound_decompressor (advanced_whole g q c p w) u (live-filled c u s).0 (record {
      flags = b.flags;
      payload = omega (arith, t.payload);
      list = sound_list-made w.csrc t.list;
      coded = ap (has_code 32) (whole-delta g q c p w)
          ∙ unwrap_or-both (λ (x : ℕ). has_code 32 x ≡ true) p.dts _ a.coded has_code-zero;
      link = record { sequence = small; generation = b.link.generation };
    })

---- broke

broke-empty : (f a b : Bool) → (not f && b) ≡ true → cond f a b ≡ true
broke-empty true a b e = absurd (false≢true e)
broke-empty false a b e = e

broke-live : (f a b : Bool) → (f && a) ≡ true → cond f a b ≡ true
broke-live true a b e = e
broke-live false a b e = absurd (false≢true e)

broke-by : (s : Status) (c : DecompressorContext) → sound_decompressor_by s c ≡ true
    → cond c.filled (filled_sound c) (unfilled_sound c) ≡ true
unfolding sound_decompressor_by
broke-by Empty c e = broke-empty c.filled (filled_sound c) (unfilled_sound c) e
broke-by Live c e = broke-live c.filled (filled_sound c) (unfilled_sound c) e
broke-by Broken c e = e

pub sound-broke : (c : DecompressorContext) → sound_decompressor c ≡ true → sound_decompressor (broke c) ≡ true
unfolding broke sound_decompressor sound_decompressor_by filled_sound unfilled_sound
sound-broke c s = broke-by c.status c s

---- applied, applied_whole

sound-settled : (number g : ℕ) (c next : DecompressorContext) → sound_decompressor next ≡ true → sound_decompressor c ≡ true
    → sound_decompressor (settled number g c next).context ≡ true
unfolding settled
sound-settled number g c next f s =
    cond_both (λ (e : Effect). sound_decompressor e.context ≡ true) (eqb number 0) (accepted_as g next) (refused_as number g c) f
    (sound-broke c s)

module _ (n q : ℕ) (c : DecompressorContext) (p : Parts) (small : q ≤ 15) (a : PartsSound p) (live : c.status ≡ Live)
    (s : sound_decompressor c ≡ true) where
  pub sound-applied : sound_decompressor (applied n q c p).context ≡ true
  unfolding applied
  sound-applied =
      sound-settled (gap_judged n (gap_of q c)) (gap_of q c) c (advanced (gap_of q c) q c p)
      (sound-advanced (gap_of q c) q c p small a live s) s

  pub sound-applied_whole : (w : RtpHeader) → HeaderSound w → sound_decompressor (applied_whole n q c p w).context ≡ true
  unfolding applied_whole
  sound-applied_whole w t =
      sound-settled (gap_judged n (gap_of q c)) (gap_of q c) c (advanced_whole (gap_of q c) q c p w)
      (sound-whole (gap_of q c) q c p w small a t live s) s
