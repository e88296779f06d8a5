-- Iarwennol. Laws of an arrival: what is made of each link layout that was written. Assume nothing.
-- Used by the theorem on lists of calls (crtp).
use Rattle.std.specs.Prelude.{ℕ, ◌+◌, ◌≤◌, ◌<◌, ◌≡◌, refl, true, false, List, ◌++◌, length, drop}
use Rattle.std.proofs.Common.{ap, ◌∙◌, arith}
use borrow.Author.Tests.{le-leb, le-ltb, lt-ltb}
use Rattle.std.proofs.Math.Seq.{drop-append_seam}
use Rattle.packet.specs.declared.header.Header.{Header}
use Rattle.packet.specs.declared.parts.Parts.{Parts}
use Rattle.octets.specs.declared.flags.Flags.{Flags}
use Rattle.packet.specs.Refusal.{is_accepted}
use Rattle.settings.specs.SettingsLaws.{length_allowed-made}
use Rattle.fields.specs.Place.{good}
use Rattle.links.specs.declared.head.Head.{Head}
use Rattle.links.proofs.FitsLaws.{CuFits, CrFits}
use Rattle.links.specs.Head.{context_of, head_of}
use Rattle.links.specs.Cu.{cu_bytes, cu_flags}
use Rattle.links.proofs.CuLaws.{context_of-cu_bytes, head_of-cu_bytes, cu_of-cu_bytes}
use Rattle.links.specs.Cr.{cr_bytes, cr_flags}
use Rattle.links.proofs.CrLaws.{context_of-cr_bytes, head_of-cr_bytes, cr_of-cr_bytes}
use Rattle.links.specs.Fh.{fh_bytes}
use Rattle.links.proofs.FhLaws.{FhFits, length-fh_bytes, fh_judged-fh_bytes, fh_of-fh_bytes}
use Rattle.context.specs.Decompressor.{accepted_as, applied, broke, filled}
use Rattle.context.specs.declared.decompressor.Status.{Status}
use Rattle.context.specs.declared.decompressor.Status.TheVariants.{Empty, Live, Broken}
use Rattle.context.specs.declared.decompressor.DecompressorContext.{DecompressorContext}
use Rattle.decompressor.specs.declared.old.OldForm.{OldForm}
use Rattle.decompressor.specs.declared.old.OldForm.TheVariants.{Taken}
use Rattle.decompressor.specs.declared.table.Table.{Table}
use Rattle.decompressor.specs.Answer.{refused, delivered}
use Rattle.decompressor.specs.Table.{sound_of, context_at, with_context}
use Rattle.decompressor.specs.Receive.{packet_of, receive_full, rebuild_to}
use Rattle.decompressor.specs.Receive.{receive_parts, receive_udp, receive_rtp, receive_on, receive_compressed, receive_kind}
use Rattle.decompressor.specs.Receive.{receive_by, receive_of}

-- a packet that is judged by its type alone: the table is sound, and the length allowed
module _ (t : Table) (s output : List ℕ) (sound : sound_of t ≡ true) (some : 1 ≤ length s) (few : length s ≤ 1500) where
  receive-kind : (kind : ℕ) → kind ≤ 3 → receive_of t kind s output ≡ receive_kind Taken kind t s output
  unfolding receive_by
  receive-kind kind h = rw (sound, le-leb kind 3 h, length_allowed-made (length s) some few)

  ---- Plain

  pub receive-plain : receive_of t 0 s output ≡ delivered t t s output
  unfolding receive_kind
  receive-plain = receive-kind 0 (omega arith)

  receive-full : receive_of t 1 s output ≡ receive_full t s output
  unfolding receive_kind
  receive-full = receive-kind 1 (omega arith)

---- FULL_HEADER

module _ (t : Table) (i g q total : ℕ) (h : Header) (rest output : List ℕ) (fits : FhFits t.settings.contexts i g q h) where
  abbrev full : List ℕ
  full = fh_bytes i g q total h ++ rest

  full-read : total ≡ length full
      → receive_full t full output ≡ delivered t (with_context t i (filled h (record { sequence = q; generation = g })))
      (packet_of h rest) output
  unfolding receive_full
  full-read e =
      rw (
        fh_judged-fh_bytes t.settings.contexts i g q total h fits rest e,
        fh_of-fh_bytes t.settings.contexts i g q total h fits rest,
        ← length-fh_bytes t.settings.contexts i g q total h fits,
        drop-append_seam (fh_bytes i g q total h) rest,
      )

  pub receive-header : sound_of t ≡ true → total ≡ length full → 1 ≤ length full → length full ≤ 1500
      → receive_of t 1 full output ≡ delivered t (with_context t i (filled h (record { sequence = q; generation = g })))
      (packet_of h rest) output
  receive-header sound e some few = receive-full t full output sound some few ∙ full-read e

---- COMPRESSED_UDP and COMPRESSED_RTP: 6, then 4, then by the context

module _ (old : OldForm) (kind : ℕ) (t : Table) (s output : List ℕ) where
  pub compressed-unknown : t.settings.contexts ≤ context_of s → receive_compressed old kind t s output ≡ refused t 6 output
  unfolding receive_compressed
  compressed-unknown h = rw (le-ltb (context_of s) t.settings.contexts h)

  module _ (h : context_of s < t.settings.contexts) where
    pub compressed-cut : is_accepted (head_of s).place.verdict ≡ false → receive_compressed old kind t s output ≡ refused t 4 output
    unfolding receive_compressed
    compressed-cut e = rw (lt-ltb (context_of s) t.settings.contexts h, e)

    pub compressed-on : is_accepted (head_of s).place.verdict ≡ true
        → receive_compressed old kind t s output ≡ receive_on old (context_at t (context_of s)).status kind t (context_of s)
        (head_of s) s output
    unfolding receive_compressed
    compressed-on e = rw (lt-ltb (context_of s) t.settings.contexts h, e)

-- rules 3.1, 7.2: a context that is not live is refused 8 and left broken, whatever the gap and the fields
module _ (old : OldForm) (kind : ℕ) (t : Table) (i : ℕ) (h : Head) (s output : List ℕ) where
  pub on-not_live : (u : Status) → (u ≡ Live → ⊥)
      → receive_on old u kind t i h s output ≡ refused (with_context t i (broke (context_at t i))) 8 output
  on-not_live Empty n = refl
  on-not_live Live n = absurd (n refl)
  on-not_live Broken n = refl

---- COMPRESSED_UDP and COMPRESSED_RTP on a live context that accepts them

-- parts that were read to a place, and accepted
settle-accepted : (t : Table) (i q g at : ℕ) (h : Parts) (after : DecompressorContext) (s output : List ℕ)
    → applied t.settings.repeats q (context_at t i) h ≡ accepted_as g after
    → receive_parts (record { place = good at; parts = h }) t i q s output ≡ rebuild_to t i g after h.checksum (drop at s) output
settle-accepted t i q g at h after s output e = rw e

module _ (t : Table) (i q g : ℕ) (h : Parts) (after : DecompressorContext) (rest output : List ℕ)
    (sound : sound_of t ≡ true) (place : i < t.settings.contexts) (live : (context_at t i).status ≡ Live)
    (accepts : applied t.settings.repeats q (context_at t i) h ≡ accepted_as g after) where
  on-live : (kind : ℕ) (head : Head) (s : List ℕ)
      → receive_on Taken (context_at t i).status kind t i head s output ≡ receive_on Taken Live kind t i head s output
  on-live kind head s = ap (λ (x : Status). receive_on Taken x kind t i head s output) live

  compressed-head : (kind : ℕ) (f : Flags) (s : List ℕ) → context_of s ≡ i → head_of s ≡ record { place = good 2; flags = f }
      → receive_compressed Taken kind t s output ≡ receive_on Taken Live kind t i (record { place = good 2; flags = f }) s output
  unfolding receive_compressed
  compressed-head kind f s c e = rw (c, lt-ltb i t.settings.contexts place, e)
      (on-live kind (record { place = good 2; flags = f }) s)

  module _ (fits : CuFits q (context_at t i).carried h) where
    abbrev udp : List ℕ
    udp = cu_bytes i q (context_at t i).carried h

    udp-read : receive_udp Taken t i (record { place = good 2; flags = cu_flags q h }) (udp ++ rest) output
        ≡ rebuild_to t i g after h.checksum rest output
    udp-read =
        rw (cu_of-cu_bytes i q (context_at t i).carried h fits rest)
        (settle-accepted t i q g (length udp) h after (udp ++ rest) output accepts
        ∙ ap (λ (l : List ℕ). rebuild_to t i g after h.checksum l output) (drop-append_seam udp rest))

    pub receive-udp : 1 ≤ length (udp ++ rest) → length (udp ++ rest) ≤ 1500
        → receive_of t 2 (udp ++ rest) output ≡ rebuild_to t i g after h.checksum rest output
    unfolding receive_kind
    receive-udp a b =
        receive-kind t (udp ++ rest) output sound a b 2 (omega arith)
        ∙ compressed-head 2 (cu_flags q h) (udp ++ rest) (context_of-cu_bytes i q (context_at t i).carried h fits rest)
        (head_of-cu_bytes i q (context_at t i).carried h fits rest)
        ∙ udp-read

  module _ (fits : CrFits q (context_at t i).carried h) where
    abbrev rtp : List ℕ
    rtp = cr_bytes i q (context_at t i).carried h

    rtp-read : receive_rtp t i (record { place = good 2; flags = cr_flags q h }) (rtp ++ rest) output
        ≡ rebuild_to t i g after h.checksum rest output
    rtp-read =
        rw (cr_of-cr_bytes i q (context_at t i).carried h fits rest)
        (settle-accepted t i q g (length rtp) h after (rtp ++ rest) output accepts
        ∙ ap (λ (l : List ℕ). rebuild_to t i g after h.checksum l output) (drop-append_seam rtp rest))

    pub receive-rtp : 1 ≤ length (rtp ++ rest) → length (rtp ++ rest) ≤ 1500
        → receive_of t 3 (rtp ++ rest) output ≡ rebuild_to t i g after h.checksum rest output
    unfolding receive_kind
    receive-rtp a b =
        receive-kind t (rtp ++ rest) output sound a b 3 (omega arith)
        ∙ compressed-head 3 (cr_flags q h) (rtp ++ rest) (context_of-cr_bytes i q (context_at t i).carried h fits rest)
        (head_of-cr_bytes i q (context_at t i).carried h fits rest)
        ∙ rtp-read
