-- Iarwennol. The UDP checksum of a packet is worked out from its header's summed bytes and from the rest. Assumes nothing.
-- Used by udp_checksum.
use Rattle.std.specs.Prelude.{ℕ, ◌+◌, ◌≤◌, ◌≡◌, length}
use Rattle.std.proofs.Math.Path.{refl, sym, ap}
use Rattle.std.proofs.Common.{◌∙◌, arith}
use mathlib.Core.List.{List, ◌++◌}
use Rattle.std.proofs.Math.ListN.{length-append}
use Rattle.packet.specs.declared.header.Header.{Header}
use Rattle.octets.specs.Put.{list_bytes}
use Rattle.octets.specs.Sum.{sum_of, words_of, complement}
use Rattle.octets.specs.SumLaws.{words_of-append, sum_of-append}
use Rattle.headers.specs.Header.{header_bytes, ip_front, ip_back, udp_bytes, rtp_fixed}
use Rattle.headers.specs.ListLaws.{length-list_bytes}
use Rattle.headers.specs.UdpChecksum.{pseudo_header, udp_header, udp_sum, never_blank, udp_checksum_of}
use Rattle.headers_write.specs.Summed.{pseudo_bytes, unsummed, summed_bytes}

module _ (l u k : ℕ) (h : Header) (rest : List ℕ) where
  abbrev packet : List ℕ
  packet = header_bytes l u k h ++ rest

  -- the words before the data, and those of what follows them
  words-summed : (s : List ℕ)
      → words_of (pseudo_bytes u h ++ (udp_bytes u (unsummed h) ++ s)) ≡ pseudo_header packet ++ (udp_header packet ++ words_of s)
  unfolding pseudo_bytes header_bytes ip_front ip_back udp_bytes
  words-summed s = refl

  module _ (c : h.csrc.count ≤ length h.csrc.words) where
    -- the RTP header ends at an even place
    words-data : words_of (rtp_fixed h ++ list_bytes h.csrc ++ rest) ≡ words_of (rtp_fixed h ++ list_bytes h.csrc) ++ words_of rest
    unfolding rtp_fixed
    words-data =
        words_of-append (rtp_fixed h ++ list_bytes h.csrc) rest
        (omega (arith, length-append (rtp_fixed h) (list_bytes h.csrc), length-list_bytes h.csrc c))

    udp_sum-summed : sum_of (sum_of 0 (words_of (summed_bytes u h))) (words_of rest) ≡ udp_sum packet
    unfolding header_bytes ip_front ip_back udp_bytes
    udp_sum-summed =
        sym (sum_of-append 0 (words_of (summed_bytes u h)) (words_of rest))
        ∙ ap (λ (ws : List ℕ). sum_of 0 (ws ++ words_of rest)) (words-summed (rtp_fixed h ++ list_bytes h.csrc))
        ∙ ap (λ (ws : List ℕ). sum_of 0 (pseudo_header packet ++ (udp_header packet ++ ws))) (sym words-data)

    pub udp_checksum_of-summed : never_blank (complement (sum_of (sum_of 0 (words_of (summed_bytes u h))) (words_of rest)))
        ≡ udp_checksum_of packet
    unfolding udp_checksum_of
    udp_checksum_of-summed = ap (λ (x : ℕ). never_blank (complement x)) udp_sum-summed
