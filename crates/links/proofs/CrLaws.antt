-- Iarwennol. Laws of COMPRESSED_RTP: what was encoded is decoded, whatever comes after it. Assume nothing.
-- Used by the theorem on lists of calls (crtp) and by links_write.
use Rattle.std.specs.Prelude.{ℕ, ◌+◌, ◌<◌, ◌≡◌, Bool, None, List, ◌∷◌, ◌++◌, take, drop}
use Rattle.std.proofs.Math.Path.{refl}
use Rattle.std.proofs.Common.{sym, ap, ◌∙◌, arith}
use Rattle.std.proofs.Math.Bool.{true, false}
use Rattle.std.proofs.lemmas.Bool.{false≢true}
use Rattle.std.proofs.Math.ListN.{length, length-append}
use Rattle.codes.specs.Bytes.{AllBytes, none, more, big_endian}
use Rattle.codes.specs.BytesLaws.{AllBytes-append, AllBytes-big_endian}
use Rattle.codes.specs.Reading.{byte_at}
use Rattle.packet.specs.declared.parts.Parts.{Parts}
use Rattle.octets.specs.declared.flags.Flags.{Flags}
use Rattle.octets.specs.Flags.{byte_of}
use Rattle.octets.specs.FlagsLaws.{flags_of-byte_of, byte_of-lt}
use Rattle.packet.specs.Ranges.{PartsFit}
use Rattle.octets.specs.Put.{optional, list_bytes}
use Rattle.octets.specs.PutLaws.{AllBytes-optional, AllBytes-words}
use Rattle.fields.specs.declared.place.Place.{Place}
use Rattle.fields.specs.Place.{good}
use Rattle.fields.specs.NextLaws.{left-past, next_byte-written, next_word-written, next_list-written}
use Rattle.links.specs.declared.head.ReadParts.{ReadParts}
use Rattle.links.specs.declared.cr.CrFlags.{CrFlags}
use Rattle.links.specs.declared.cr.Second.{Second}
use Rattle.links.specs.declared.cr.Deltas.{Deltas}
use Rattle.links.specs.Sent.{delta}
use Rattle.links.proofs.SentLaws.{length_three, append-three, append-four, delta16-back, delta32-back, carried-back, AllBytes-delta}
use Rattle.links.specs.Head.{head_bytes, context_of, head_of}
use Rattle.links.proofs.HeadLaws.{context_of-written, head_of-written}
use Rattle.links.specs.Cr.{cr_flags_of, cr_flags_bits, cr_sent, cr_first, cr_flags, cr_second_byte, second_bytes, deltas_bytes}
use Rattle.links.specs.Cr.{cr_bytes}
use Rattle.links.specs.Cr.{all_four, second_with, second_of, deltas_of, cr_rest, cr_of}
use Rattle.links.proofs.FitsLaws.{CrFits}

---- the second byte

-- the flags in effect, whichever byte they came from
abbrev effective : Place → Bool → Parts → Second
effective p listed h = record { place = p; listed = listed; flags = cr_sent h; count = h.csrc.count }

-- the flag byte is 1111 exactly where there is a list
four-listed : (listed : Bool) (own : CrFlags) → (all_four own ≡ true → listed ≡ true) → all_four (cr_first listed own) ≡ listed
four-listed true own h = refl
four-listed false own h = by (all_four own) refl
  where
    by : (b : Bool) → all_four own ≡ b → all_four (cr_first false own) ≡ false
    by true e = absurd (false≢true (h e))
    by false e = e

second_with-true : (f : CrFlags) (g : Flags) (p : Place)
    → second_with true f g p ≡ record { place = p; listed = true; flags = cr_flags_of g; count = g.low }
unfolding second_with
second_with-true f g p = refl

second_with-false : (f : CrFlags) (g : Flags) (p : Place)
    → second_with false f g p ≡ record { place = p; listed = false; flags = f; count = 0 }
unfolding second_with
second_with-false f g p = refl

module _ (s : List ℕ) (at : ℕ) (h : Parts) (l : List ℕ) (small : h.csrc.count < 16) where
  second-there : drop at s ≡ second_bytes true h ++ l
      → second_of s (good at) (cr_first true (cr_sent h)) ≡ effective (good (at + 1)) true h
  unfolding second_of
  second-there e =
      rw (
        next_byte-written s at true (cr_second_byte h) l e,
        flags_of-byte_of (cr_flags_bits h.csrc.count (cr_sent h)) small,
        second_with-true,
      )

  second_none : 0 ≡ h.csrc.count → all_four (cr_sent h) ≡ false → drop at s ≡ l
      → second_of s (good at) (cr_first false (cr_sent h)) ≡ effective (good (at + 0)) false h
  unfolding second_of
  second_none z q e = rw (q, next_byte-written s at false 0 l e, second_with-false, ← z)

  second_of-second_bytes : (listed : Bool) → (listed ≡ false → 0 ≡ h.csrc.count) → all_four (cr_first listed (cr_sent h)) ≡ listed
      → drop at s ≡ second_bytes listed h ++ l
      → second_of s (good at) (cr_first listed (cr_sent h)) ≡ effective (good (at + length (second_bytes listed h))) listed h
  second_of-second_bytes true z q e = second-there e
  second_of-second_bytes false z q e = second_none (z refl) q e

---- the differences

abbrev deltas : ℕ → Parts → Deltas
deltas at h = record { place = good at; did = h.did; dsn = h.dsn; dts = h.dts }

module _ (h : Parts) (carried : Bool) (fit : PartsFit carried h) where
  deltas_of-deltas_bytes : (s : List ℕ) (at : ℕ) (l : List ℕ) → drop at s ≡ deltas_bytes h ++ l
      → deltas_of s (good at) (cr_sent h) ≡ deltas (at + length (deltas_bytes h)) h
  unfolding deltas_of
  deltas_of-deltas_bytes s at l e =
      let A = delta 16 h.did in
      let B = delta 16 h.dsn in
      let C = delta 32 h.dts in
      let e0 = e ∙ append-three A B C l in
      let e1 = left-past s at A (B ++ (C ++ l)) e0 in
      let e2 = left-past s (at + length A) B (C ++ l) e1 in
      rw (
        delta16-back s at (B ++ (C ++ l)) h.did fit.did e0,
        delta16-back s (at + length A) (C ++ l) h.dsn fit.dsn e1,
        delta32-back s (at + length A + length B) l h.dts fit.dts fit.coded e2,
        length_three A B C at,
      )

---- whole

-- parts that a CR carries are what its reader makes of them
abbrev Carried : Parts → Type 0
Carried h = (None ≡ h.id) × (None ≡ h.sequence) × (None ≡ h.timestamp) × (None ≡ h.payload)

cr-same : (h : Parts) → Carried h → (p : Place)
    → ◌≡◌ {A = ReadParts}
    record {
      place = p;
      parts = record {
        marker = h.marker;
        checksum = h.checksum;
        id = None;
        sequence = None;
        timestamp = None;
        payload = None;
        did = h.did;
        dsn = h.dsn;
        dts = h.dts;
        listed = h.listed;
        csrc = h.csrc;
      };
    }
    record { place = p; parts = h }
cr-same h c p = λ i. record {
  place = p;
  parts = record {
    marker = h.marker;
    checksum = h.checksum;
    id = c.0 i;
    sequence = c.1 i;
    timestamp = c.2 i;
    payload = c.3 i;
    did = h.did;
    dsn = h.dsn;
    dts = h.dts;
    listed = h.listed;
    csrc = h.csrc;
  };
}

module _ (context link : ℕ) (carried : Bool) (h : Parts) (fits : CrFits link carried h) where
  unsent : Carried h
  unsent = (sym fits.id, sym fits.sequence, sym fits.timestamp, sym fits.payload)

  cr_rest-bytes : (s : List ℕ) (at : ℕ) (l : List ℕ) → drop at s ≡ deltas_bytes h ++ (list_bytes h.csrc ++ l)
      → cr_rest s h.checksum (effective (good at) h.listed h)
      ≡ record { place = good (at + length (deltas_bytes h) + length (list_bytes h.csrc)); parts = h }
  unfolding cr_rest
  cr_rest-bytes s at l e =
      let D = deltas_bytes h in
      let E = list_bytes h.csrc in
      rw (
        deltas_of-deltas_bytes h carried fits.parts s at (E ++ l) e,
        next_list-written s (at + length D) h.csrc l fits.parts.list (left-past s at D (E ++ l) e),
      )
      (cr-same h unsent (good (at + length D + length E)))

  abbrev checksum_bytes : List ℕ
  checksum_bytes = optional carried (big_endian 2 h.checksum)

  length-cr_parts : 2 + length checksum_bytes + length (second_bytes h.listed h) + length (deltas_bytes h)
      + length (list_bytes h.csrc)
      ≡ length (cr_bytes context link carried h)
  unfolding cr_bytes
  length-cr_parts = simp length-append (omega arith)

  unlisted-count : h.listed ≡ false → 0 ≡ h.csrc.count
  unlisted-count e = sym (ap (λ c. c.count) (fits.unlisted e))

  cr-back : (s rest : List ℕ) → s ≡ cr_bytes context link carried h ++ rest
      → cr_of s (good 2) (cr_flags link h) carried ≡ record { place = good (length (cr_bytes context link carried h)); parts = h }
  unfolding cr_of cr_bytes
  cr-back s rest e =
      let K = checksum_bytes in
      let L = second_bytes h.listed h in
      let D = deltas_bytes h in
      let E = list_bytes h.csrc in
      let e2 = left-past s 0 (head_bytes context (cr_flags link h)) ((K ++ (L ++ (D ++ E))) ++ rest) e ∙ append-four K L D E rest in
      let e3 = left-past s 2 K (L ++ (D ++ (E ++ rest))) e2 in
      let e4 = left-past s (2 + length K) L (D ++ (E ++ rest)) e3 in
      rw (
        next_word-written s 2 carried h.checksum (L ++ (D ++ (E ++ rest))) fits.parts.checksum.fits e2,
        carried-back carried h.checksum fits.parts.checksum.blank,
        second_of-second_bytes s (2 + length K) h (D ++ (E ++ rest)) (omega (arith, fits.parts.list.count)) h.listed
            unlisted-count
            (four-listed h.listed (cr_sent h) fits.second) e3,
        cr_rest-bytes s (2 + length K + length L) rest e4,
        length-cr_parts,
      )

  -- what the decompressor reads of an encoded CR, followed by anything: the context number, the flag byte, the parts and
  -- the place of what comes after
  pub first-cr_bytes : (rest : List ℕ) → byte_at (cr_bytes context link carried h ++ rest) 0 ≡ context
  unfolding cr_bytes
  first-cr_bytes rest = refl

  -- what follows the head, and the rest
  abbrev past_head : List ℕ → List ℕ
  past_head rest = (checksum_bytes ++ (second_bytes h.listed h ++ (deltas_bytes h ++ list_bytes h.csrc))) ++ rest

  pub context_of-cr_bytes : (rest : List ℕ) → context_of (cr_bytes context link carried h ++ rest) ≡ context
  unfolding cr_bytes
  context_of-cr_bytes rest = context_of-written _ context (byte_of (cr_flags link h) ∷ past_head rest) refl

  pub head_of-cr_bytes : (rest : List ℕ)
      → head_of (cr_bytes context link carried h ++ rest) ≡ record { place = good 2; flags = cr_flags link h }
  unfolding cr_bytes
  head_of-cr_bytes rest = head_of-written _ context (cr_flags link h) (past_head rest) fits.small refl

  pub cr_of-cr_bytes : (rest : List ℕ)
      → cr_of (cr_bytes context link carried h ++ rest) (good 2) (cr_flags link h) carried
      ≡ record { place = good (length (cr_bytes context link carried h)); parts = h }
  cr_of-cr_bytes rest = cr-back (cr_bytes context link carried h ++ rest) rest refl

  pub AllBytes-cr_bytes : context < 256 → AllBytes (cr_bytes context link carried h)
  unfolding cr_bytes
  AllBytes-cr_bytes k =
      more k (more (byte_of-lt (cr_flags link h) fits.small) (
      AllBytes-append (AllBytes-optional carried (AllBytes-big_endian 2 h.checksum)) (
      AllBytes-append (
      AllBytes-optional h.listed
      (more (byte_of-lt (cr_flags_bits h.csrc.count (cr_sent h)) (omega (arith, fits.parts.list.count))) none)
      ) (
      AllBytes-append (AllBytes-append (AllBytes-delta 16 h.did)
      (AllBytes-append (AllBytes-delta 16 h.dsn) (AllBytes-delta 32 h.dts))) (
      AllBytes-words (take h.csrc.count h.csrc.words)
      )
      )
      )
      ))
