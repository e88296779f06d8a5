-- Iarwennol. Laws of a CU without F at the decompressor (rule 7.7). Assume nothing.
-- Used by the soundness and the ranges of the context after it; whole-stands says what becomes of the packets that follow.
use Prim.Native.Nat.{ℕ, ◌^◌, ◌<◌}
use mathlib.Core.Path.{◌≡◌, refl, ap, ◌∙◌}
use Rattle.std.specs.Prelude.{Option, None, unwrap_or}
use Rattle.packet.specs.declared.header.RtpHeader.{RtpHeader}
use Rattle.packet.specs.declared.parts.Parts.{Parts}
use Rattle.context.specs.Decompressor.{rtp_after, deltas_held, advanced, advanced_whole}
use Rattle.context.specs.declared.decompressor.DecompressorContext.{DecompressorContext}
use Rattle.context.proofs.FieldLaws.{moved_on-still}

---- Where the delta of the timestamp is 0

-- a CR, or a CU with F, that brings nothing of the timestamp
pub record Silent (p : Parts) : Type 0 where
  pub whole : p.timestamp ≡ None
  pub difference : p.dts ≡ None

module _ (g q : ℕ) (c : DecompressorContext) (p : Parts) (silent : Silent p) (still : c.deltas.timestamp ≡ 0) where
  -- leaves it where it was, over any gap
  pub still-timestamp : c.rtp.timestamp < 2 ^ 32 → (advanced g q c p).rtp.timestamp ≡ c.rtp.timestamp
  unfolding advanced rtp_after
  still-timestamp fits =
      rw (silent.whole, silent.difference, still)
      (moved_on-still 32 g c.rtp.timestamp fits)

  pub still-delta : (advanced g q c p).deltas.timestamp ≡ 0
  unfolding advanced deltas_held
  still-delta = rw silent.difference still

---- After a CU without F, whose RTP header is w

module _ (g q : ℕ) (c : DecompressorContext) (p : Parts) (w : RtpHeader) where
  -- the delta of the timestamp is the one sent, or 0
  pub whole-delta : (advanced_whole g q c p w).deltas.timestamp ≡ unwrap_or p.dts 0
  unfolding advanced_whole deltas_held
  whole-delta = refl

  -- without dT the timestamp stands still from then on
  pub whole-still : p.dts ≡ None → (advanced_whole g q c p w).deltas.timestamp ≡ 0
  whole-still e = whole-delta ∙ ap (λ (d : Option ℕ). unwrap_or d 0) e

  pub whole-stands : p.dts ≡ None → w.rtp.timestamp < 2 ^ 32 → (h r : ℕ) (b : Parts) → Silent b
      → (advanced h r (advanced_whole g q c p w) b).rtp.timestamp ≡ w.rtp.timestamp
  unfolding advanced_whole
  whole-stands e fits h r b silent = still-timestamp h r (advanced_whole g q c p w) b silent (whole-still e) fits
