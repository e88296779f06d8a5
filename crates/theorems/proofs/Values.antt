-- Iarwennol. The laws of a CU with and without F, as they were asked for.
-- Proved by those of `compressor` and of `context`.
use Prim.Native.Nat.{ℕ, ◌^◌, ◌<◌}
use mathlib.Core.Path.{◌≡◌}
use mathlib.Core.Bool.{true}
use mathlib.Core.List.{List}
use lib.ListN.{length, take}
use Rattle.std.specs.Prelude.{None, unwrap_or}
use Rattle.codes.specs.Bytes.{AllBytes}
use Rattle.packet.specs.declared.header.RtpHeader.{RtpHeader}
use Rattle.packet.specs.declared.parts.Parts.{Parts}
use Rattle.links.specs.Head.{head_of}
use Rattle.context.specs.Decompressor.{advanced, advanced_whole}
use Rattle.context.specs.declared.decompressor.DecompressorContext.{DecompressorContext}
use Rattle.context.proofs.WholeLaws.{whole-delta, whole-stands}
use Rattle.compressor.specs.declared.table.Table.{Table}
use Rattle.compressor.specs.Send.{send_of}
use Rattle.compressor.proofs.ValuesLaws.{send_of-values}

-- a CU that a send gives out has F
values-asked : (t : Table) (p output : List ℕ) → length t.contexts ≡ 64 → AllBytes p → (send_of t p output).kind ≡ 2
    → (head_of (take (send_of t p output).length (send_of t p output).output)).flags.bit7 ≡ true
values-asked = send_of-values

-- after one without F the delta of the timestamp is the one sent, or 0
module _ (g q : ℕ) (c : DecompressorContext) (p : Parts) (w : RtpHeader) where
  delta-asked : (advanced_whole g q c p w).deltas.timestamp ≡ unwrap_or p.dts 0
  delta-asked = whole-delta g q c p w

  -- and where it is 0, a packet that brings nothing of the timestamp has the one of the RTP header, over any gap
  stands-asked : p.dts ≡ None → w.rtp.timestamp < 2 ^ 32 → (h r : ℕ) (b : Parts) → b.timestamp ≡ None
      → b.dts ≡ None → (advanced h r (advanced_whole g q c p w) b).rtp.timestamp ≡ w.rtp.timestamp
  stands-asked e fits h r b whole difference =
      whole-stands g q c p w e fits h r b (record { whole = whole; difference = difference })
