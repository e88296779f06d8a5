-- Iarwennol. Laws of COMPRESSED_UDP with F: what was encoded is decoded, whatever comes after it. Assume nothing.
-- Used by the theorem on lists of calls (crtp) and by links_write.
use Rattle.std.specs.Prelude.{ℕ, ◌+◌, ◌<◌, ◌≡◌, Bool, None, take, drop}
use Rattle.std.proofs.Math.Path.{refl}
use Rattle.std.proofs.Common.{sym, ap, ◌∙◌, arith}
use Rattle.std.proofs.Math.Bool.{true}
use mathlib.Core.List.{List, [], ◌∷◌, ◌++◌, append_assoc}
use Rattle.std.proofs.Math.ListN.{length, length-append}
use Rattle.codes.specs.Bytes.{AllBytes, more, big_endian}
use Rattle.codes.specs.BytesLaws.{AllBytes-append, AllBytes-big_endian}
use Rattle.codes.specs.Reading.{byte_at}
use Rattle.packet.specs.declared.parts.Parts.{Parts}
use Rattle.octets.specs.Flags.{flags_of, byte_of}
use Rattle.octets.specs.FlagsLaws.{flags_of-byte_of, byte_of-lt}
use Rattle.packet.specs.Ranges.{PartsFit}
use Rattle.octets.specs.Put.{optional, list_bytes, words}
use Rattle.octets.specs.PutLaws.{AllBytes-optional, AllBytes-words}
use Rattle.fields.specs.Place.{good}
use Rattle.fields.specs.NextLaws.{left-past, next_byte-written, next_word-written, next_list-written}
use Rattle.links.specs.declared.cu.CuSecond.{CuSecond}
use Rattle.links.specs.declared.cu.Changes.{Changes}
use Rattle.links.specs.declared.cu.Values.{Values}
use Rattle.links.specs.Sent.{whole, whole_byte, delta}
use Rattle.links.proofs.SentLaws.{length-four, append-four, word-back, long-back, payload-back, delta16-back, delta32-back}
use Rattle.links.proofs.SentLaws.{carried-back, zero-fits, AllBytes-whole, AllBytes-whole_byte, AllBytes-delta}
use Rattle.links.proofs.FitsLaws.{CuFits}
use Rattle.links.specs.Head.{head_bytes, context_of, head_of}
use Rattle.links.proofs.HeadLaws.{context_of-written, head_of-written}
use Rattle.links.specs.Cu.{cu_second_of, cu_second_bits, cu_sent, cu_flags, cu_second}
use Rattle.links.specs.Cu.{cu_second_byte, changes_bytes, values_bytes, cu_bytes}
use Rattle.links.specs.Cu.{changes_of, values_of, cu_parts, cu_rest, cu_of}

---- the second byte

cu_second_of-bits : (g : CuSecond) → g.count < 16 → cu_second_of (flags_of (byte_of (cu_second_bits g))) ≡ g
cu_second_of-bits g h = ap cu_second_of (flags_of-byte_of (cu_second_bits g) h)

---- the fields before the RTP part, which a CU without F has too

abbrev pub changes : ℕ → Parts → Changes
changes at h = record { place = good at; checksum = h.checksum; did = h.did; dts = h.dts; id = h.id }

module _ (h : Parts) (carried : Bool) (fit : PartsFit carried h) where
  pub changes_of-changes_bytes : (s : List ℕ) (at : ℕ) (values : Bool) (l : List ℕ) → drop at s ≡ changes_bytes carried h ++ l
      → changes_of s (good at) (cu_sent values h) carried ≡ changes (at + length (changes_bytes carried h)) h
  unfolding changes_of
  changes_of-changes_bytes s at values l e =
      let A = optional carried (big_endian 2 h.checksum) in
      let B = delta 16 h.did in
      let C = delta 32 h.dts in
      let D = whole 2 h.id in
      let e0 = e ∙ append-four A B C D l in
      let e1 = left-past s at A (B ++ (C ++ (D ++ l))) e0 in
      let e2 = left-past s (at + length A) B (C ++ (D ++ l)) e1 in
      let e3 = left-past s (at + length A + length B) C (D ++ l) e2 in
      rw (
        next_word-written s at carried h.checksum (B ++ (C ++ (D ++ l))) fit.checksum.fits e0,
        carried-back carried h.checksum fit.checksum.blank,
        delta16-back s (at + length A) (C ++ (D ++ l)) h.did fit.did e1,
        delta32-back s (at + length A + length B) (D ++ l) h.dts fit.dts fit.coded e2,
        word-back s (at + length A + length B + length C) l h.id fit.id e3,
        length-four A B C D at,
      )

---- the RTP part

abbrev values : ℕ → Parts → Values
values at h = record { place = good at; sequence = h.sequence; timestamp = h.timestamp; payload = h.payload; csrc = h.csrc }

module _ (h : Parts) (carried : Bool) (fit : PartsFit carried h) where
  values_of-values_bytes : (s : List ℕ) (at : ℕ) (l : List ℕ) → drop at s ≡ values_bytes h ++ l
      → values_of s (good at) (cu_second h) ≡ values (at + length (values_bytes h)) h
  unfolding values_of
  values_of-values_bytes s at l e =
      let A = whole 2 h.sequence in
      let B = whole 4 h.timestamp in
      let C = whole_byte h.payload in
      let D = list_bytes h.csrc in
      let e0 = e ∙ append-four A B C D l in
      let e1 = left-past s at A (B ++ (C ++ (D ++ l))) e0 in
      let e2 = left-past s (at + length A) B (C ++ (D ++ l)) e1 in
      let e3 = left-past s (at + length A + length B) C (D ++ l) e2 in
      rw (
        word-back s at (B ++ (C ++ (D ++ l))) h.sequence fit.sequence e0,
        long-back s (at + length A) (C ++ (D ++ l)) h.timestamp fit.timestamp e1,
        payload-back s (at + length A + length B) (D ++ l) h.payload fit.payload e2,
        next_list-written s (at + length A + length B + length C) h.csrc l fit.list e3,
        length-four A B C D at,
      )

---- whole

-- parts that a CU carries are what its reader makes of them
cu-same : (h : Parts) → None ≡ h.dsn → true ≡ h.listed → (a at : ℕ)
    → cu_parts (cu_second h) (changes a h) (values at h) ≡ record { place = good at; parts = h }
cu-same h d l a at = λ i. record {
  place = good at;
  parts = record {
    marker = h.marker;
    checksum = h.checksum;
    id = h.id;
    sequence = h.sequence;
    timestamp = h.timestamp;
    payload = h.payload;
    did = h.did;
    dsn = d i;
    dts = h.dts;
    listed = l i;
    csrc = h.csrc;
  };
}

module _ (context link : ℕ) (carried : Bool) (h : Parts) (fits : CuFits link carried h) where
  length-cu_parts : 3 + length (changes_bytes carried h) + length (values_bytes h) ≡ length (cu_bytes context link carried h)
  unfolding cu_bytes
  length-cu_parts = simp length-append (omega arith)

  cu_rest-bytes : (s l : List ℕ) → drop 3 s ≡ changes_bytes carried h ++ (values_bytes h ++ l)
      → cu_rest s (good 3) (cu_sent true h) (cu_second h) carried
      ≡ record { place = good (length (cu_bytes context link carried h)); parts = h }
  unfolding cu_rest
  cu_rest-bytes s l e =
      let C = changes_bytes carried h in
      let U = values_bytes h in
      rw (
        changes_of-changes_bytes h carried fits.parts s 3 true (U ++ l) e,
        values_of-values_bytes h carried fits.parts s (3 + length C) l (left-past s 3 C (U ++ l) e),
        length-cu_parts,
      )
      (cu-same h (sym fits.dsn) (sym fits.listed) (3 + length C)
      (length (cu_bytes context link carried h)))

  cu-back : (s rest : List ℕ) → s ≡ cu_bytes context link carried h ++ rest
      → cu_of s (good 2) (cu_flags link h) carried ≡ record { place = good (length (cu_bytes context link carried h)); parts = h }
  unfolding cu_of cu_bytes
  cu-back s rest e =
      let g = cu_second_byte h in
      let C = changes_bytes carried h in
      let U = values_bytes h in
      let e2 = left-past s 0 (head_bytes context (cu_flags link h)) (g ∷ ((C ++ U) ++ rest)) e in
      let e3 = left-past s 2 (g ∷ []) ((C ++ U) ++ rest) e2 ∙ append_assoc C U rest in
      rw (
        next_byte-written s 2 true g ((C ++ U) ++ rest) e2,
        cu_second_of-bits (cu_second h) (omega (arith, fits.parts.list.count)),
      )
      (cu_rest-bytes s rest e3)

  -- what the decompressor reads of an encoded CU with F, followed by anything: the context number, the flag byte, the parts
  -- and the place of what comes after
  pub first-cu_bytes : (rest : List ℕ) → byte_at (cu_bytes context link carried h ++ rest) 0 ≡ context
  unfolding cu_bytes
  first-cu_bytes rest = refl

  -- what follows the head, and the rest
  abbrev past_head : List ℕ → List ℕ
  past_head rest = cu_second_byte h ∷ ((changes_bytes carried h ++ values_bytes h) ++ rest)

  pub context_of-cu_bytes : (rest : List ℕ) → context_of (cu_bytes context link carried h ++ rest) ≡ context
  unfolding cu_bytes
  context_of-cu_bytes rest = context_of-written _ context (byte_of (cu_flags link h) ∷ past_head rest) refl

  pub head_of-cu_bytes : (rest : List ℕ)
      → head_of (cu_bytes context link carried h ++ rest) ≡ record { place = good 2; flags = cu_flags link h }
  unfolding cu_bytes
  head_of-cu_bytes rest = head_of-written _ context (cu_flags link h) (past_head rest) fits.small refl

  pub cu_of-cu_bytes : (rest : List ℕ)
      → cu_of (cu_bytes context link carried h ++ rest) (good 2) (cu_flags link h) carried
      ≡ record { place = good (length (cu_bytes context link carried h)); parts = h }
  cu_of-cu_bytes rest = cu-back (cu_bytes context link carried h ++ rest) rest refl

  AllBytes-changes : AllBytes (changes_bytes carried h)
  AllBytes-changes =
      AllBytes-append (AllBytes-optional carried (AllBytes-big_endian 2 h.checksum)) (
      AllBytes-append (AllBytes-delta 16 h.did) (AllBytes-append (AllBytes-delta 32 h.dts) (AllBytes-whole 2 h.id))
      )

  AllBytes-values : AllBytes (values_bytes h)
  AllBytes-values =
      AllBytes-append (AllBytes-whole 2 h.sequence) (
      AllBytes-append (AllBytes-whole 4 h.timestamp) (
      AllBytes-append (AllBytes-whole_byte h.payload (omega (arith, zero-fits h.payload 7 fits.parts.payload)))
      (AllBytes-words (take h.csrc.count h.csrc.words))
      )
      )

  pub AllBytes-cu_bytes : context < 256 → AllBytes (cu_bytes context link carried h)
  unfolding cu_bytes
  AllBytes-cu_bytes k =
      more k (more (byte_of-lt (cu_flags link h) fits.small) (
      more (byte_of-lt (cu_second_bits (cu_second h)) (omega (arith, fits.parts.list.count)))
      (AllBytes-append AllBytes-changes AllBytes-values)
      ))
