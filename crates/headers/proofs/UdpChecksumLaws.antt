-- Iarwennol. Laws of the UDP checksum: it has 16 bits and is never blank, so a blank one is never right. Assume nothing.
-- Used by the function that works it out (headers_write), and by the laws of arrivals that are judged (decompressor).
use Rattle.std.specs.Prelude.{ℕ, zero, suc, ◌+◌, ◌-◌, ◌^◌, ◌≤◌, ◌<◌, ◌≡◌, false, drop}
use Rattle.std.proofs.Math.Path.{refl}
use Rattle.std.proofs.Common.{arith}
use mathlib.Core.List.{List, [], ◌++◌}
use borrow.Author.Tests.{ne_eqb}
use Rattle.codes.specs.Reading.{word_at}
use Rattle.codes.proofs.BytesRead.{word_at-big_endian}
use Rattle.packet.specs.declared.header.Header.{Header}
use Rattle.octets.specs.Put.{list_bytes}
use Rattle.octets.specs.Sum.{complement}
use Rattle.headers.specs.Header.{header_bytes, ip_front, ip_back, udp_bytes, rtp_fixed}
use Rattle.headers.specs.UdpChecksum.{udp_sum, never_blank, udp_checksum_of, udp_right}

---- never_blank

never_blank-some : (x : ℕ) → 1 ≤ never_blank x
never_blank-some zero = omega arith
never_blank-some (suc x) = omega arith

never_blank-lt : (x : ℕ) → x < 2 ^ 16 → never_blank x < 2 ^ 16
never_blank-lt zero h = omega arith
never_blank-lt (suc x) h = h

pub never_blank-same : (x : ℕ) → 1 ≤ x → x ≡ never_blank x
never_blank-same zero h = absurd (omega arith)
never_blank-same (suc x) h = refl

---- udp_checksum_of

module _ (p : List ℕ) where
  pub udp_checksum_of-some : 1 ≤ udp_checksum_of p
  unfolding udp_checksum_of
  udp_checksum_of-some = never_blank-some (complement (udp_sum p))

  pub udp_checksum_of-lt : udp_checksum_of p < 2 ^ 16
  unfolding udp_checksum_of
  udp_checksum_of-lt = never_blank-lt (complement (udp_sum p)) (omega arith)

  ---- udp_right

  -- 0000 is never right
  pub udp_right-blank : word_at p 26 ≡ 0 → udp_right p ≡ false
  unfolding udp_right
  udp_right-blank e = ne_eqb (word_at p 26) (udp_checksum_of p) (λ f. omega (arith, udp_checksum_of-some))

---- of a header and the rest of its packet

module _ (l u k : ℕ) (h : Header) (rest : List ℕ) where
  pub udp_checksum-header_bytes : h.checksum < 2 ^ 16 → word_at (header_bytes l u k h ++ rest) 26 ≡ h.checksum
  unfolding header_bytes ip_front ip_back udp_bytes
  udp_checksum-header_bytes b = word_at-big_endian h.checksum b []

  pub data-header_bytes : drop 28 (header_bytes l u k h ++ rest) ≡ rtp_fixed h ++ list_bytes h.csrc ++ rest
  unfolding header_bytes ip_front ip_back udp_bytes
  data-header_bytes = refl
