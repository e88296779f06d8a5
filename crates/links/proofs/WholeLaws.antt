-- Iarwennol. Laws of COMPRESSED_UDP without F: what was encoded is decoded, whatever comes after it. Assume nothing.
-- The compressor sends no such packet; the law holds the two definitions of the layout together.
use Rattle.std.specs.Prelude.{ℕ, ◌+◌, ◌≤◌, ◌≡◌, Bool, None, drop}
use Rattle.std.proofs.Math.Path.{refl}
use Rattle.std.proofs.Common.{sym, ap, ◌∙◌}
use Rattle.std.proofs.Math.Bool.{true, false}
use mathlib.Core.List.{List, [], ◌∷◌, ◌++◌, append_assoc}
use native.Mathlib.Omega.{arith}
use Rattle.std.proofs.Math.ListN.{length, length-append}
use Rattle.codes.specs.Bytes.{big_endian}
use Rattle.packet.specs.Csrc.{no_list}
use Rattle.packet.specs.Ranges.{HeaderFits}
use Rattle.packet.specs.declared.header.RtpHeader.{RtpHeader}
use Rattle.packet.specs.declared.parts.Parts.{Parts}
use Rattle.octets.specs.Put.{list_bytes}
use Rattle.headers.specs.Rtp.{rtp_first_byte, rtp_first, rtp_second_byte, rtp_second}
use Rattle.headers.specs.RtpLaws.{rtp_first_of-byte, rtp_first_byte-version, rtp_second_of-byte}
use Rattle.fields.specs.Place.{good}
use Rattle.fields.specs.NextLaws.{left-past, next_version-written, next_byte-written}
use Rattle.fields.specs.NextLaws.{next_word-written, next_long-written, next_list-written}
use Rattle.links.specs.declared.whole.Fixed.{Fixed}
use Rattle.links.proofs.SentLaws.{append-four}
use Rattle.links.specs.Head.{head_bytes, head_of}
use Rattle.links.proofs.FitsLaws.{WholeFits}
use Rattle.links.proofs.HeadLaws.{head_of-written}
use Rattle.links.specs.Cu.{changes_bytes}
use Rattle.links.proofs.CuLaws.{changes, changes_of-changes_bytes}
use Rattle.links.specs.Whole.{rtp_bytes, whole_flags, whole_bytes, fixed_of, rtp_header, rtp_rest, rtp_of, whole_parts, whole_of}

---- the RTP header

abbrev first_byte : RtpHeader → ℕ
first_byte w = rtp_first_byte (rtp_first w.rtp w.csrc)

abbrev second_byte : RtpHeader → ℕ
second_byte w = rtp_second_byte (rtp_second w.marker w.rtp)

abbrev fixed : ℕ → RtpHeader → Fixed
fixed at w = record {
  place = good at;
  first = first_byte w;
  second = second_byte w;
  sequence = w.rtp.sequence;
  timestamp = w.rtp.timestamp;
  ssrc = w.ssrc;
}

module _ (w : RtpHeader) (fit : HeaderFits w) where
  abbrev tail : List ℕ → List ℕ
  tail l =
      big_endian 2 w.rtp.sequence ++ (big_endian 4 w.rtp.timestamp ++ (big_endian 4 w.ssrc ++ (list_bytes w.csrc ++ l)))

  tail-long : (l : List ℕ) → 11 ≤ length (second_byte w ∷ tail l)
  tail-long l = omega arith

  fixed_of-bytes : (s : List ℕ) (at : ℕ) (l : List ℕ) → drop at s ≡ first_byte w ∷ second_byte w ∷ tail l
      → fixed_of s (good at) ≡ fixed (at + 12) w
  unfolding fixed_of
  fixed_of-bytes s at l e =
      let A = big_endian 2 w.rtp.sequence in
      let B = big_endian 4 w.rtp.timestamp in
      let C = big_endian 4 w.ssrc in
      let D = list_bytes w.csrc in
      let e1 = left-past s at (first_byte w ∷ []) (second_byte w ∷ tail l) e in
      let e2 = left-past s (at + 1) (second_byte w ∷ []) (tail l) e1 in
      let e3 = left-past s (at + 1 + 1) A (B ++ (C ++ (D ++ l))) e2 in
      let e4 = left-past s (at + 1 + 1 + 2) B (C ++ (D ++ l)) e3 in
      let n : at + 1 + 1 + 2 + 4 + 4 ≡ at + 12 = omega arith in
      rw (
        next_version-written s at (first_byte w) (second_byte w ∷ tail l)
            (rtp_first_byte-version (rtp_first w.rtp w.csrc) (omega (arith, fit.list.count))) (tail-long l) e,
        next_byte-written s (at + 1) true (second_byte w) (tail l) e1,
        next_word-written s (at + 1 + 1) true w.rtp.sequence (B ++ (C ++ (D ++ l))) fit.sequence e2,
        next_long-written s (at + 1 + 1 + 2) true w.rtp.timestamp (C ++ (D ++ l)) fit.timestamp e3,
        next_long-written s (at + 1 + 1 + 2 + 4) true w.ssrc (D ++ l) fit.ssrc e4,
        n,
      )

  rtp-same : (at : ℕ)
      → rtp_header (fixed 0 w) (rtp_first w.rtp w.csrc) (record { place = good at; list = w.csrc })
      ≡ record { place = good at; header = w }
  rtp-same at = let second = rtp_second_of-byte (rtp_second w.marker w.rtp) fit.payload in λ i. record {
    place = good at;
    header = record {
      ssrc = w.ssrc;
      marker = (second i).marker;
      rtp = record {
        padding = w.rtp.padding;
        extension = w.rtp.extension;
        payload = (second i).payload;
        sequence = w.rtp.sequence;
        timestamp = w.rtp.timestamp;
      };
      csrc = w.csrc;
    };
  }

  rtp_rest-bytes : (s : List ℕ) (at : ℕ) (l : List ℕ) → drop at s ≡ list_bytes w.csrc ++ l
      → rtp_rest s (fixed at w) (rtp_first w.rtp w.csrc)
      ≡ record { place = good (at + length (list_bytes w.csrc)); header = w }
  unfolding rtp_rest
  rtp_rest-bytes s at l e = rw (next_list-written s at w.csrc l fit.list e) (rtp-same (at + length (list_bytes w.csrc)))

  length-rtp_bytes : length (rtp_bytes w) ≡ 12 + length (list_bytes w.csrc)
  length-rtp_bytes = omega arith

  append-rtp : (l : List ℕ) → rtp_bytes w ++ l ≡ first_byte w ∷ second_byte w ∷ tail l
  append-rtp l =
      ap (λ (x : List ℕ). first_byte w ∷ second_byte w ∷ x)
      (append-four (big_endian 2 w.rtp.sequence) (big_endian 4 w.rtp.timestamp) (big_endian 4 w.ssrc) (list_bytes w.csrc)
      l)

  pub rtp_of-rtp_bytes : (s : List ℕ) (at : ℕ) (l : List ℕ) → drop at s ≡ rtp_bytes w ++ l
      → rtp_of s (good at) ≡ record { place = good (at + length (rtp_bytes w)); header = w }
  unfolding rtp_of
  rtp_of-rtp_bytes s at l e =
      let e0 = e ∙ append-rtp l in
      let front = first_byte w ∷ second_byte w
      ∷ (big_endian 2 w.rtp.sequence ++ (big_endian 4 w.rtp.timestamp ++ big_endian 4 w.ssrc)) in
      let e1 = left-past s at front (list_bytes w.csrc ++ l) e0 in
      let n : at + 12 + length (list_bytes w.csrc) ≡ at + length (rtp_bytes w) = omega (arith, length-rtp_bytes) in
      rw (
        fixed_of-bytes s at l e0,
        rtp_first_of-byte (rtp_first w.rtp w.csrc) (omega (arith, fit.list.count)),
        rtp_rest-bytes s (at + 12) l e1,
        n,
      )

---- whole

abbrev Bare : Parts → RtpHeader → Type 0
Bare h w =
    (w.marker ≡ h.marker) × (None ≡ h.sequence) × (None ≡ h.timestamp) × (None ≡ h.payload) × (None ≡ h.dsn)
    × (false ≡ h.listed) × (no_list ≡ h.csrc)

whole_same : (h : Parts) (w : RtpHeader) → Bare h w → (a at : ℕ)
    → whole_parts (changes a h) (record { place = good at; header = w }) ≡ record { place = good at; parts = h; header = w }
whole_same h w b a at = λ i. record {
  place = good at;
  parts = record {
    marker = b.0 i;
    checksum = h.checksum;
    id = h.id;
    sequence = b.1 i;
    timestamp = b.2 i;
    payload = b.3 i;
    did = h.did;
    dsn = b.4 i;
    dts = h.dts;
    listed = b.5 i;
    csrc = b.6 i;
  };
  header = w;
}

module _ (context link : ℕ) (carried : Bool) (h : Parts) (w : RtpHeader) (fits : WholeFits link carried h w) where
  bare : Bare h w
  bare = (
    sym fits.marker,
    sym fits.sequence,
    sym fits.timestamp,
    sym fits.payload,
    sym fits.dsn,
    sym fits.unlisted,
    sym fits.empty,
  )

  length-whole_bytes : 2 + length (changes_bytes carried h) + length (rtp_bytes w) ≡ length (whole_bytes context link carried h w)
  unfolding whole_bytes
  length-whole_bytes = let n = length-append (changes_bytes carried h) (rtp_bytes w) in omega arith

  whole_back : (s rest : List ℕ) → s ≡ whole_bytes context link carried h w ++ rest
      → whole_of s (good 2) (whole_flags link h) carried
      ≡ record { place = good (length (whole_bytes context link carried h w)); parts = h; header = w }
  unfolding whole_of whole_bytes
  whole_back s rest e =
      let C = changes_bytes carried h in
      let R = rtp_bytes w in
      let e2 = left-past s 0 (head_bytes context (whole_flags link h)) ((C ++ R) ++ rest) e ∙ append_assoc C R rest in
      let e3 = left-past s 2 C (R ++ rest) e2 in
      rw (
        changes_of-changes_bytes h carried fits.parts s 2 false (R ++ rest) e2,
        rtp_of-rtp_bytes w fits.header s (2 + length C) rest e3,
        length-whole_bytes,
      )
      (whole_same h w bare (2 + length C) (length (whole_bytes context link carried h w)))

  pub head_of-whole_bytes : (rest : List ℕ)
      → head_of (whole_bytes context link carried h w ++ rest) ≡ record { place = good 2; flags = whole_flags link h }
  unfolding whole_bytes
  head_of-whole_bytes rest =
      head_of-written _ context (whole_flags link h) ((changes_bytes carried h ++ rtp_bytes w) ++ rest) fits.small refl

  pub whole_of-whole_bytes : (rest : List ℕ)
      → whole_of (whole_bytes context link carried h w ++ rest) (good 2) (whole_flags link h) carried
      ≡ record { place = good (length (whole_bytes context link carried h w)); parts = h; header = w }
  whole_of-whole_bytes rest = whole_back (whole_bytes context link carried h w ++ rest) rest refl
