-- Iarwennol. The laws of arrivals that the UDP checksum judges, and what their words say, as they were asked for.
-- Proved by those of `decompressor`.
use Prim.Native.Nat.{ℕ, ◌+◌, ◌-◌, ◌≤◌, ◌<◌}
use mathlib.Core.Path.{◌≡◌, refl}
use mathlib.Core.Bool.{true, false}
use mathlib.Core.List.{List, [], ◌∷◌, ◌++◌}
use lib.Dec.{eqb}
use lib.ListN.{length, drop}
use Rattle.codes.specs.Reading.{word_at}
use Rattle.octets.specs.Sum.{sum_of, words_of}
use Rattle.headers.specs.Header.{header_size}
use Rattle.headers.specs.UdpChecksum.{never_blank, udp_checksum_of, udp_right}
use Rattle.context.specs.Decompressor.{broke, checksum_read, rebuilt}
use Rattle.context.specs.declared.decompressor.DecompressorContext.{DecompressorContext}
use Rattle.decompressor.specs.declared.table.Table.{Table}
use Rattle.decompressor.specs.Answer.{refused, delivered}
use Rattle.decompressor.specs.Table.{context_at, with_context}
use Rattle.decompressor.specs.Receive.{packet_of, is_disproved, rebuild_to}
use Rattle.decompressor.proofs.Judged.{undisproved-step, undisproved-blank, undisproved-right, disproved-wrong, disproved-zero}
use Rattle.decompressor.proofs.Judged.{rebuild_to-disproved, rebuild_to-taken}

-- the sum goes over addresses, protocol and UDP length, then ports, UDP length and 0, then the data; FFFF stands for 0000
module _ (p : List ℕ) where
  checksum-asked : udp_checksum_of p ≡ never_blank (65535 - sum_of 0 (
      word_at p 12 ∷ word_at p 14 ∷ word_at p 16 ∷ word_at p 18 ∷ 17 ∷ word_at p 24
      ∷ word_at p 20 ∷ word_at p 22 ∷ word_at p 24 ∷ 0 ∷ words_of (drop 28 p)))
  unfolding udp_checksum_of
  checksum-asked = refl

  right-asked : udp_right p ≡ eqb (word_at p 26) (udp_checksum_of p)
  unfolding udp_right
  right-asked = refl

zero-asked : never_blank 0 ≡ 65535
zero-asked = refl

-- one step on, on a context without a checksum, or with the right one, nothing is disproved; else it is, and by 0000 too
module _ (c : DecompressorContext) (g : ℕ) (p : List ℕ) where
  step-asked : g ≤ 1 → is_disproved c g p ≡ false
  step-asked = undisproved-step c g p

  blank-asked : checksum_read c ≡ false → is_disproved c g p ≡ false
  blank-asked = undisproved-blank c g p

  fits-asked : udp_right p ≡ true → is_disproved c g p ≡ false
  fits-asked = undisproved-right c g p

  wrong-asked : checksum_read c ≡ true → 1 < g → udp_right p ≡ false → is_disproved c g p ≡ true
  wrong-asked = disproved-wrong c g p

  blank-wrong-asked : checksum_read c ≡ true → 1 < g → word_at p 26 ≡ 0 → is_disproved c g p ≡ true
  blank-wrong-asked = disproved-zero c g p

-- with room or without it is refused with 12, and the context is broken; what is not disproved is given out where there is room
module _ (t : Table) (i g : ℕ) (c : DecompressorContext) (sent : ℕ) (rest output : List ℕ)
    (few : header_size (rebuilt c sent) + length rest ≤ 1500) where
  broken-asked : is_disproved c g (packet_of (rebuilt c sent) rest) ≡ true
      → rebuild_to t i g c sent rest output ≡ refused (with_context t i (broke (context_at t i))) 12 output
  broken-asked = rebuild_to-disproved t i g c sent rest output few

  taken-asked : is_disproved c g (packet_of (rebuilt c sent) rest) ≡ false
      → rebuild_to t i g c sent rest output ≡ delivered t (with_context t i c) (packet_of (rebuilt c sent) rest) output
  taken-asked = rebuild_to-taken t i g c sent rest output few
