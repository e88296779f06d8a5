-- Iarwennol. What a sound context rebuilds can be written. Assume nothing.
-- Used by the functions that hand a header to the writer, which asks that its narrow fields are in range.
use Prim.Native.Nat.{ℕ, ◌<◌}
use mathlib.Core.Path.{◌≡◌, refl}
use mathlib.Core.Bool.{Bool, true, false, cond}
use native.Mathlib.Omega.{arith}
use borrow.Author.Tests.{eqb-false}
use lib.Dec.{eqb}
use Rattle.packet.specs.Ranges.{Narrow, HeaderSound, PartsSound}
use Rattle.packet.specs.declared.header.RtpHeader.{RtpHeader}
use Rattle.packet.specs.declared.parts.Parts.{Parts}
use Rattle.context.specs.Sound.{sound_decompressor}
use Rattle.context.specs.Decompressor.{gap_judged, gap_of, advanced, advanced_whole, Effect, accepted_as, refused_as, settled}
use Rattle.context.specs.Decompressor.{applied, applied_whole, rebuilt}
use Rattle.context.proofs.SoundFacts.{sound_list-count}
use Rattle.context.proofs.DecompressorSound.{sound_decompressor-bounds, sound-applied, sound-applied_whole}
use Rattle.context.specs.declared.decompressor.Status.TheVariants.{Live}
use Rattle.context.specs.declared.decompressor.DecompressorContext.{DecompressorContext}

---- rebuilt

pub rebuilt-narrow : (c : DecompressorContext) (sent : ℕ) → c.status ≡ Live → sound_decompressor c ≡ true → Narrow (rebuilt c sent)
unfolding rebuilt
rebuilt-narrow c sent u s =
    let b = sound_decompressor-bounds c u s in
    record { flags = omega (arith, b.flags); payload = omega (arith, b.payload); count = sound_list-count c.csrc b.list }

---- applied, applied_whole: where they accept, the context is live

live-by : (b : Bool) (number g : ℕ) (c next : DecompressorContext) → eqb number 0 ≡ b → next.status ≡ Live
    → (cond b (accepted_as g next) (refused_as number g c)).number ≡ 0
    → (cond b (accepted_as g next) (refused_as number g c)).context.status ≡ Live
live-by true number g c next t f e = f
live-by false number g c next t f e = absurd (eqb-false number 0 t e)

settled-live : (number g : ℕ) (c next : DecompressorContext) → next.status ≡ Live → (settled number g c next).number ≡ 0
    → (settled number g c next).context.status ≡ Live
unfolding settled
settled-live number g c next f e = live-by (eqb number 0) number g c next refl f e

module _ (n q : ℕ) (c : DecompressorContext) (p : Parts) (live : c.status ≡ Live) where
  applied-live : (applied n q c p).number ≡ 0 → (applied n q c p).context.status ≡ Live
  unfolding applied advanced
  applied-live e = settled-live (gap_judged n (gap_of q c)) (gap_of q c) c (advanced (gap_of q c) q c p) live e

  whole-live : (w : RtpHeader) → (applied_whole n q c p w).number ≡ 0 → (applied_whole n q c p w).context.status ≡ Live
  unfolding applied_whole advanced_whole
  whole-live w e = settled-live (gap_judged n (gap_of q c)) (gap_of q c) c (advanced_whole (gap_of q c) q c p w) live e

  module _ (sent : ℕ) (small : q < 16) (s : sound_decompressor c ≡ true) (parts : PartsSound p) where
    pub applied-narrow : (x : Effect) → x ≡ applied n q c p → x.number ≡ 0 → Narrow (rebuilt x.context sent)
    applied-narrow x a = rw a (λ e. rebuilt-narrow (applied n q c p).context sent (applied-live e)
        (sound-applied n q c p (omega arith) parts live s))

    pub whole-narrow : (w : RtpHeader) → HeaderSound w → (x : Effect) → x ≡ applied_whole n q c p w → x.number ≡ 0
        → Narrow (rebuilt x.context sent)
    whole-narrow w h x a = rw a (λ e. rebuilt-narrow (applied_whole n q c p w).context sent (whole-live w e)
        (sound-applied_whole n q c p (omega arith) parts live s w h))
