-- Iarwennol. What the readers of CU and CR give, whatever the bytes: never a place past the end, and parts in range. Assumes
-- nothing; that each part is within its width asks for bytes that are bytes (AllBytes).
-- Used by the soundness and the ranges of the decompressor's contexts.
use Prim.Native.Nat.{ℕ, ◌^◌, ◌≤◌, ◌<◌}
use mathlib.Core.Path.{◌≡◌, refl}
use mathlib.Core.Bool.{Bool, true, false}
use mathlib.Core.List.{List}
use native.Mathlib.Omega.{arith}
use lib.ListN.{length}
use Rattle.std.specs.Prelude.{IfSome}
use Rattle.codes.specs.Bytes.{AllBytes}
use Rattle.codes.specs.Difference.{has_code}
use Rattle.packet.specs.Ranges.{ListSound, HeaderFits, HeaderSound, Sendable, PartsFit, PartsSound}
use Rattle.packet.specs.RangesLaws.{range-no_list}
use Rattle.octets.specs.declared.flags.Flags.{Flags}
use Rattle.octets.specs.Flags.{flags_of}
use Rattle.headers.specs.declared.rtp.RtpFirst.{RtpFirst}
use Rattle.headers.specs.Rtp.{rtp_first_of}
use Rattle.fields.specs.declared.place.Place.{Place}
use Rattle.fields.specs.Place.{or_zero}
use Rattle.fields.specs.Next.{next_byte, next_word, next_long, next_delta16, next_version}
use Rattle.links.specs.declared.cu.CuFlags.{CuFlags}
use Rattle.links.specs.declared.cu.CuSecond.{CuSecond}
use Rattle.links.specs.declared.cr.CrFlags.{CrFlags}
use Rattle.fields.proofs.NextRange.{next_byte-within, next_word-within, next_long-within, next_delta16-within, next_delta32-within}
use Rattle.fields.proofs.NextRange.{next_payload-within, next_version-within, next_list-within, next_delta32-coded}
use Rattle.fields.proofs.NextRange.{next_payload-range, next_word-range, next_word-wanted, next_long-range, next_delta16-range}
use Rattle.fields.proofs.NextRange.{next_delta32-range, next_list-sound, next_list-range}
use Rattle.links.specs.declared.cr.Second.{Second}
use Rattle.links.specs.declared.whole.Fixed.{Fixed}
use Rattle.links.proofs.SentLaws.{zero-fits}
use Rattle.links.specs.Cu.{cu_flags_of, cu_second_of, changes_of, values_of, cu_rest, cu_of}
use Rattle.links.specs.Cr.{cr_flags_of, all_four, second_with, second_of, deltas_of, cr_rest, cr_of}
use Rattle.links.specs.Whole.{fixed_of, rtp_rest, rtp_of, whole_of}

module _ (s : List ℕ) where
  ---- CU with F

  changes_of-coded : (p : Place) (f : CuFlags) (carried : Bool) → IfSome (changes_of s p f carried).dts (λ v. has_code 32 v ≡ true)
  unfolding changes_of
  changes_of-coded p f carried = next_delta32-coded s _ f.dts

  changes_of-within : (p : Place) (f : CuFlags) (carried : Bool) → p.cursor.at ≤ length s
      → (changes_of s p f carried).place.cursor.at ≤ length s
  unfolding changes_of
  changes_of-within p f carried h =
      let a = next_word-within s p h carried in
      let b = next_delta16-within s (next_word s p carried).place a f.did in
      let c = next_delta32-within s (next_delta16 s (next_word s p carried).place f.did).place b f.dts in
      next_word-within s _ c f.id

  values_of-payload : (p : Place) (g : CuSecond) → IfSome (values_of s p g).payload (λ v. v < 128)
  unfolding values_of
  values_of-payload p g = next_payload-range s _ g.payload

  values_of-list : (p : Place) (g : CuSecond) → g.count < 16 → ListSound (values_of s p g).csrc
  unfolding values_of
  values_of-list p g h = next_list-sound s _ g.count (omega arith)

  values_of-within : (p : Place) (g : CuSecond) → p.cursor.at ≤ length s → (values_of s p g).place.cursor.at ≤ length s
  unfolding values_of
  values_of-within p g h =
      let a = next_word-within s p h g.sequence in
      let b = next_long-within s (next_word s p g.sequence).place a g.timestamp in
      let c = next_payload-within s (next_long s (next_word s p g.sequence).place g.timestamp).place b g.payload in
      next_list-within s _ c g.count

  cu_rest-within : (p : Place) (f : CuFlags) (g : CuSecond) (carried : Bool) → p.cursor.at ≤ length s
      → (cu_rest s p f g carried).place.cursor.at ≤ length s
  unfolding cu_rest
  cu_rest-within p f g carried h = values_of-within (changes_of s p f carried).place g (changes_of-within p f carried h)

  cu_rest-sound : (p : Place) (f : CuFlags) (g : CuSecond) (carried : Bool) → g.count < 16
      → PartsSound (cu_rest s p f g carried).parts
  unfolding cu_rest
  cu_rest-sound p f g carried h = record {
    payload = values_of-payload (changes_of s p f carried).place g;
    coded = changes_of-coded p f carried;
    list = values_of-list (changes_of s p f carried).place g h;
  }

  pub cu_of-within : (p : Place) (f : Flags) (carried : Bool) → p.cursor.at ≤ length s
      → (cu_of s p f carried).place.cursor.at ≤ length s
  unfolding cu_of
  cu_of-within p f carried h = cu_rest-within (next_byte s p true).place (cu_flags_of f)
      (cu_second_of (flags_of (or_zero (next_byte s p true).field))) carried (next_byte-within s p h true)

  pub cu_of-sound : (p : Place) (f : Flags) (carried : Bool) → PartsSound (cu_of s p f carried).parts
  unfolding cu_of
  cu_of-sound p f carried = cu_rest-sound (next_byte s p true).place (cu_flags_of f)
      (cu_second_of (flags_of (or_zero (next_byte s p true).field))) carried (omega arith)

  ---- CR

  second_with-count : (m : Bool) (f : CrFlags) (g : Flags) (p : Place) → g.low < 16 → (second_with m f g p).count < 16
  unfolding second_with
  second_with-count true f g p h = h
  second_with-count false f g p h = omega arith

  second_of-count : (p : Place) (f : CrFlags) → (second_of s p f).count < 16
  unfolding second_of
  second_of-count p f = second_with-count (all_four f) f (flags_of (or_zero (next_byte s p (all_four f)).field))
      (next_byte s p (all_four f)).place (omega arith)

  second_with-within : (m : Bool) (f : CrFlags) (g : Flags) (p : Place) → p.cursor.at ≤ length s
      → (second_with m f g p).place.cursor.at ≤ length s
  unfolding second_with
  second_with-within true f g p h = h
  second_with-within false f g p h = h

  second_of-within : (p : Place) (f : CrFlags) → p.cursor.at ≤ length s → (second_of s p f).place.cursor.at ≤ length s
  unfolding second_of
  second_of-within p f h =
      second_with-within (all_four f) f (flags_of (or_zero (next_byte s p (all_four f)).field)) (next_byte s p (all_four f)).place
      (next_byte-within s p h (all_four f))

  deltas_of-coded : (p : Place) (f : CrFlags) → IfSome (deltas_of s p f).dts (λ v. has_code 32 v ≡ true)
  unfolding deltas_of
  deltas_of-coded p f = next_delta32-coded s _ f.dts

  deltas_of-within : (p : Place) (f : CrFlags) → p.cursor.at ≤ length s → (deltas_of s p f).place.cursor.at ≤ length s
  unfolding deltas_of
  deltas_of-within p f h =
      let a = next_delta16-within s p h f.did in
      let b = next_delta16-within s (next_delta16 s p f.did).place a f.dsn in
      next_delta32-within s _ b f.dts

  cr_rest-within : (checksum : ℕ) (n : Second) → n.place.cursor.at ≤ length s → (cr_rest s checksum n).place.cursor.at ≤ length s
  unfolding cr_rest
  cr_rest-within checksum n h = next_list-within s (deltas_of s n.place n.flags).place (deltas_of-within n.place n.flags h)
      n.count

  cr_rest-sound : (checksum : ℕ) (n : Second) → n.count < 16 → PartsSound (cr_rest s checksum n).parts
  unfolding cr_rest
  cr_rest-sound checksum n h = record {
    payload = tt;
    coded = deltas_of-coded n.place n.flags;
    list = next_list-sound s (deltas_of s n.place n.flags).place n.count (omega arith);
  }

  pub cr_of-within : (p : Place) (f : Flags) (carried : Bool) → p.cursor.at ≤ length s
      → (cr_of s p f carried).place.cursor.at ≤ length s
  unfolding cr_of
  cr_of-within p f carried h =
      cr_rest-within (or_zero (next_word s p carried).field) (second_of s (next_word s p carried).place (cr_flags_of f))
      (second_of-within (next_word s p carried).place (cr_flags_of f) (next_word-within s p h carried))

  pub cr_of-sound : (p : Place) (f : Flags) (carried : Bool) → PartsSound (cr_of s p f carried).parts
  unfolding cr_of
  cr_of-sound p f carried = cr_rest-sound (or_zero (next_word s p carried).field)
      (second_of s (next_word s p carried).place (cr_flags_of f)) (second_of-count (next_word s p carried).place (cr_flags_of f))

  ---- CU without F

  fixed_of-within : (p : Place) → p.cursor.at ≤ length s → (fixed_of s p).place.cursor.at ≤ length s
  unfolding fixed_of
  fixed_of-within p h =
      let a = next_version-within s p h in
      let b = next_byte-within s (next_version s p).place a true in
      let c = next_word-within s (next_byte s (next_version s p).place true).place b true in
      let d = next_long-within s (next_word s (next_byte s (next_version s p).place true).place true).place c true in
      next_long-within s _ d true

  rtp_rest-within : (x : Fixed) (f : RtpFirst) → x.place.cursor.at ≤ length s → (rtp_rest s x f).place.cursor.at ≤ length s
  unfolding rtp_rest
  rtp_rest-within x f h = next_list-within s x.place h f.count

  rtp_rest-sound : (x : Fixed) (f : RtpFirst) → f.count < 16 → HeaderSound (rtp_rest s x f).header
  unfolding rtp_rest
  rtp_rest-sound x f h = record { payload = omega arith; list = next_list-sound s x.place f.count (omega arith) }

  rtp_of-within : (p : Place) → p.cursor.at ≤ length s → (rtp_of s p).place.cursor.at ≤ length s
  unfolding rtp_of
  rtp_of-within p h = rtp_rest-within (fixed_of s p) (rtp_first_of (fixed_of s p).first) (fixed_of-within p h)

  rtp_of-sound : (p : Place) → HeaderSound (rtp_of s p).header
  unfolding rtp_of
  rtp_of-sound p = rtp_rest-sound (fixed_of s p) (rtp_first_of (fixed_of s p).first) (omega arith)

  pub whole_of-within : (p : Place) (f : Flags) (carried : Bool) → p.cursor.at ≤ length s
      → (whole_of s p f carried).place.cursor.at ≤ length s
  unfolding whole_of
  whole_of-within p f carried h = rtp_of-within (changes_of s p (cu_flags_of f) carried).place
      (changes_of-within p (cu_flags_of f) carried h)

  pub whole_of-sound : (p : Place) (f : Flags) (carried : Bool) → PartsSound (whole_of s p f carried).parts
  unfolding whole_of
  whole_of-sound p f carried = record {
    payload = tt;
    coded = changes_of-coded p (cu_flags_of f) carried;
    list = record { count = omega arith; size = refl; blank = refl };
  }

  pub whole_of-header : (p : Place) (f : Flags) (carried : Bool) → HeaderSound (whole_of s p f carried).header
  unfolding whole_of
  whole_of-header p f carried = rtp_of-sound (changes_of s p (cu_flags_of f) carried).place

-- where the bytes are bytes: each part by its width
module _ (s : List ℕ) (all : AllBytes s) where
  ---- CU with F

  cu_rest-range : (p : Place) (f : CuFlags) (g : CuSecond) (carried : Bool) → g.count < 16
      → PartsFit carried (cu_rest s p f g carried).parts
  unfolding cu_rest changes_of values_of
  cu_rest-range p f g carried h = record {
    checksum = next_word-wanted s all p carried;
    id = next_word-range s all _ f.id;
    sequence = next_word-range s all _ g.sequence;
    timestamp = next_long-range s all _ g.timestamp;
    payload = next_payload-range s _ g.payload;
    did = next_delta16-range s _ f.did;
    dsn = tt;
    dts = next_delta32-range s _ f.dts;
    coded = next_delta32-coded s _ f.dts;
    list = next_list-range s all _ g.count (omega arith);
  }

  pub cu_of-range : (p : Place) (f : Flags) (carried : Bool) → PartsFit carried (cu_of s p f carried).parts
  unfolding cu_of
  cu_of-range p f carried = cu_rest-range (next_byte s p true).place (cu_flags_of f)
      (cu_second_of (flags_of (or_zero (next_byte s p true).field))) carried (omega arith)

  ---- CR

  cr_rest-range : (carried : Bool) (checksum : ℕ) (n : Second) → Sendable 16 carried checksum → n.count < 16
      → PartsFit carried (cr_rest s checksum n).parts
  unfolding cr_rest deltas_of
  cr_rest-range carried checksum n c h = record {
    checksum = c;
    id = tt;
    sequence = tt;
    timestamp = tt;
    payload = tt;
    did = next_delta16-range s _ n.flags.did;
    dsn = next_delta16-range s _ n.flags.dsn;
    dts = next_delta32-range s _ n.flags.dts;
    coded = next_delta32-coded s _ n.flags.dts;
    list = next_list-range s all _ n.count (omega arith);
  }

  pub cr_of-range : (p : Place) (f : Flags) (carried : Bool) → PartsFit carried (cr_of s p f carried).parts
  unfolding cr_of
  cr_of-range p f carried =
      cr_rest-range carried (or_zero (next_word s p carried).field) (second_of s (next_word s p carried).place (cr_flags_of f))
      (next_word-wanted s all p carried) (second_of-count s (next_word s p carried).place (cr_flags_of f))

  ---- CU without F

  rtp_rest-range : (x : Fixed) (f : RtpFirst) → f.count < 16 → x.sequence < 2 ^ 16 → x.timestamp < 2 ^ 32 → x.ssrc < 2 ^ 32
      → HeaderFits (rtp_rest s x f).header
  unfolding rtp_rest
  rtp_rest-range x f h q t r = record {
    payload = omega arith;
    sequence = q;
    timestamp = t;
    ssrc = r;
    list = next_list-range s all x.place f.count (omega arith);
  }

  rtp_of-range : (p : Place) → HeaderFits (rtp_of s p).header
  unfolding rtp_of fixed_of
  rtp_of-range p =
      rtp_rest-range (fixed_of s p) (rtp_first_of (fixed_of s p).first) (omega arith)
      (next_word-wanted s all _ true).fits (zero-fits _ 32 (next_long-range s all _ true))
      (zero-fits _ 32 (next_long-range s all _ true))

  pub whole_of-range : (p : Place) (f : Flags) (carried : Bool) → PartsFit carried (whole_of s p f carried).parts
  unfolding whole_of changes_of
  whole_of-range p f carried = record {
    checksum = next_word-wanted s all p carried;
    id = next_word-range s all _ (cu_flags_of f).id;
    sequence = tt;
    timestamp = tt;
    payload = tt;
    did = next_delta16-range s _ (cu_flags_of f).did;
    dsn = tt;
    dts = next_delta32-range s _ (cu_flags_of f).dts;
    coded = next_delta32-coded s _ (cu_flags_of f).dts;
    list = range-no_list;
  }

  pub whole_of-header-range : (p : Place) (f : Flags) (carried : Bool) → HeaderFits (whole_of s p f carried).header
  unfolding whole_of
  whole_of-header-range p f carried = rtp_of-range (changes_of s p (cu_flags_of f) carried).place
