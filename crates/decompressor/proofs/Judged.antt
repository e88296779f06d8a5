-- Iarwennol. Laws of arrivals that the UDP checksum judges (rule 7.10): which are not disproved, and what becomes of those that are
-- and of those that are not. Assume nothing.
-- Used by the theorem on lists of calls (crtp): an arrival that fits is taken.
use Prim.Native.Nat.{ℕ, ◌+◌, ◌-◌, ◌^◌, ◌≤◌, ◌<◌}
use mathlib.Core.Path.{◌≡◌, refl}
use mathlib.Core.Bool.{Bool, true, false, ◌&&◌, not}
use mathlib.Core.List.{List, ◌++◌}
use borrow.Author.Tests.{le-ltb, lt-ltb}
use lib.Dec.{eqb}
use lib.ListN.{length}
use Rattle.codes.specs.Reading.{word_at}
use Rattle.packet.specs.declared.header.Header.{Header}
use Rattle.headers.specs.Header.{header_size}
use Rattle.headers.specs.Checksum.{ip_checksum, printed}
use Rattle.headers.specs.UdpChecksum.{udp_checksum_of, udp_right}
use Rattle.headers.proofs.UdpChecksumLaws.{udp_right-blank, udp_checksum-header_bytes}
use Rattle.context.specs.Decompressor.{broke, checksum_read, rebuilt}
use Rattle.context.specs.declared.decompressor.DecompressorContext.{DecompressorContext}
use Rattle.decompressor.specs.declared.table.Table.{Table}
use Rattle.decompressor.specs.Answer.{refused, delivered}
use Rattle.decompressor.specs.Table.{context_at, with_context}
use Rattle.decompressor.specs.Receive.{packet_of, is_judged, is_disproved, rebuild_to}

---- is_disproved

and-false : (b : Bool) → (b && false) ≡ false
and-false true = refl
and-false false = refl

module _ (c : DecompressorContext) (g : ℕ) (p : List ℕ) where
  -- one step on, nothing is guessed
  pub undisproved-step : g ≤ 1 → is_disproved c g p ≡ false
  undisproved-step h = rw (le-ltb 1 g h, and-false)

  -- a context that carries no checksum has nothing to go by
  pub undisproved-blank : checksum_read c ≡ false → is_disproved c g p ≡ false
  undisproved-blank e = rw e

  -- the right checksum
  pub undisproved-right : udp_right p ≡ true → is_disproved c g p ≡ false
  undisproved-right e = rw (e, and-false)

  module _ (carries : checksum_read c ≡ true) (guessed : 1 < g) where
    -- any other
    pub disproved-wrong : udp_right p ≡ false → is_disproved c g p ≡ true
    disproved-wrong e = rw (carries, lt-ltb 1 g guessed, e)

    -- and 0000
    pub disproved-zero : word_at p 26 ≡ 0 → is_disproved c g p ≡ true
    disproved-zero z = disproved-wrong (udp_right-blank p z)

-- as a call works it out: what came is held against what the header and the rest give
module _ (c : DecompressorContext) (g : ℕ) (h : Header) (rest : List ℕ) where
  pub judged-by : (size : ℕ) → is_judged c g ≡ true → h.checksum < 2 ^ 16 → size ≡ header_size h + length rest
      → not (eqb h.checksum (udp_checksum_of (printed h size ++ rest))) ≡ is_disproved c g (packet_of h rest)
  unfolding udp_right
  judged-by size j small e =
      rw (
        e,
        j,
        udp_checksum-header_bytes (header_size h + length rest) (header_size h + length rest - 20)
            (ip_checksum h (header_size h + length rest)) h rest small,
      )

  pub unjudged : is_judged c g ≡ false → false ≡ is_disproved c g (packet_of h rest)
  unjudged j = rw j

---- rebuild_to, where the packet is no longer than it may be

module _ (t : Table) (i g : ℕ) (c : DecompressorContext) (sent : ℕ) (rest output : List ℕ)
    (few : header_size (rebuilt c sent) + length rest ≤ 1500) where
  -- 12, with room or without, and the context is broken
  pub rebuild_to-disproved : is_disproved c g (packet_of (rebuilt c sent) rest) ≡ true
      → rebuild_to t i g c sent rest output ≡ refused (with_context t i (broke (context_at t i))) 12 output
  rebuild_to-disproved e = rw (le-ltb 1500 (header_size (rebuilt c sent) + length rest) few, e)

  pub rebuild_to-taken : is_disproved c g (packet_of (rebuilt c sent) rest) ≡ false
      → rebuild_to t i g c sent rest output ≡ delivered t (with_context t i c) (packet_of (rebuilt c sent) rest) output
  rebuild_to-taken e = rw (le-ltb 1500 (header_size (rebuilt c sent) + length rest) few, e)
