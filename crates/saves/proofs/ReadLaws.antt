-- Iarwennol. Laws of a record that was read: it stands for a sound context, and that context is written as these very bytes. Assume
-- nothing. Used by the laws of what is loaded.
use Rattle.std.specs.Prelude.{ℕ, ◌+◌, ◌%◌, ◌≤◌, ◌≡◌, Bool, false, cond, not, ◌&&◌, ◌||◌, List, [], ◌∷◌, ◌++◌, eqb, leb, length}
use Rattle.std.specs.Prelude.{take, drop}
use Rattle.std.proofs.Math.Path.{refl}
use Rattle.std.proofs.Common.{sym, ap, subst, ◌∙◌, add-one, arith, eqb-true, leb-true, take-append-drop, length-drop, drop-drop}
use Rattle.std.proofs.Common.{drop-cons, length-take-le}
use Rattle.std.proofs.Math.Bool.{true}
use Rattle.std.proofs.lemmas.Bool.{eqb-false}
use Rattle.codes.specs.Bytes.{AllBytes, big_endian}
use Rattle.codes.specs.Numbers.{forbidden}
use Rattle.codes.specs.Reading.{byte_at}
use Rattle.packet.proofs.Chain.{all-of-eight}
use Rattle.packet.specs.Ranges.{HeaderInRange}
use Rattle.packet.specs.RangesLaws.{range-sound}
use Rattle.packet.specs.Refusal.{is_accepted}
use Rattle.packet.specs.declared.header.Header.{Header}
use Rattle.headers.specs.Header.{header_size}
use Rattle.fields.specs.declared.place.Place.{Place}
use Rattle.fields.specs.Place.{good}
use Rattle.context.specs.Decompressor.{rebuilt}
use Rattle.context.specs.Ranges.{ContextInRange}
use Rattle.context.specs.Sound.{sound_decompressor, sound_decompressor_by, filled_sound, unfilled_sound, zero_list}
use Rattle.context.specs.Sound.{empty_decompressor}
use Rattle.context.specs.declared.decompressor.Status.{Status}
use Rattle.context.specs.declared.decompressor.Status.TheVariants.{Empty, Live, Broken}
use Rattle.context.specs.declared.decompressor.DecompressorContext.{DecompressorContext}
use Rattle.context.proofs.SoundFacts.{FilledBounds, bounds-filled_sound, sound_list-made}
use Rattle.context.proofs.DecompressorRange.{range_none}
use Rattle.context.proofs.Unfilled.{blank}
use Rattle.saves.specs.declared.read.Fixed.{Fixed}
use Rattle.saves.specs.declared.read.GotHeader.{GotHeader}
use Rattle.saves.specs.declared.read.GotContext.{GotContext}
use Rattle.saves.specs.Saves.{allowed, kept, kept_bytes, no_header, header_field, header_from, header_part}
use Rattle.saves.specs.Saves.{used_bytes, record_by, record_bytes, fixed_of, unfilled_allowed, header_allowed, size_allowed}
use Rattle.saves.specs.Saves.{context_of, record_from, record_of}
use Rattle.saves.proofs.StepLaws.{Goes, checked-passed, allowed-goes}
use Rattle.saves.proofs.KeptLaws.{marked, HeaderRead, header_from-read}
use Rattle.saves.proofs.FixedLaws.{fixed, FixedFits, fixed_bytes, standing, FixedRead, empty, used, fixed_of-read}
use Rattle.saves.proofs.FixedLaws.{fixed_of-goes, fixed_bytes-standing}
use Rattle.saves.proofs.RecordLaws.{from_empty, from-broken}

---- The context of fields and header that were read

-- a mark is told from whether it is 0
marked-back : (v : ℕ) → marked v ≡ true → cond (not (eqb v 0)) 0xFFFF 0 ≡ v
marked-back v m = by (eqb v 0) refl m
  where
    by : (b : Bool) → eqb v 0 ≡ b → (b || eqb v 0xFFFF) ≡ true → cond (not b) 0xFFFF 0 ≡ v
    by true e k = sym (eqb-true v 0 e)
    by false e k = sym (eqb-true v 0xFFFF k)

module _ (f : Fixed) (h : Header) where
  abbrev context : DecompressorContext
  context = context_of f h

  kept-context_of : marked h.checksum ≡ true → kept context ≡ h
  unfolding rebuilt context_of
  kept-context_of m = λ i. record {
    flow = h.flow;
    ip = h.ip;
    rtp = h.rtp;
    csrc = h.csrc;
    marker = h.marker;
    checksum = marked-back h.checksum m i;
  }

  range-context_of : FixedFits f → HeaderInRange h → ContextInRange context
  unfolding context_of
  range-context_of fits r = record {
    flow = r.flow;
    ip = r.ip;
    rtp = r.rtp;
    csrc = r.csrc;
    did = fits.did;
    dts = fits.dts;
  }

  module _ (fits : FixedFits f) (r : HeaderInRange h) (sized : eqb f.size 0 ≡ false) where
    filled-context_of : context.filled ≡ true
    unfolding context_of
    filled-context_of = rw sized

    bounds-context_of : FilledBounds context
    unfolding context_of
    bounds-context_of = record {
      flags = omega (arith, r.ip.flags);
      payload = omega (arith, r.rtp.payload);
      list = sound_list-made h.csrc (range-sound r.csrc);
      coded = fits.coded;
      link = record { sequence = fits.sequence; generation = fits.generation };
    }

    -- its state is 1 or 2
    status-by : (P : ℕ → Status → Type 0) → (b : Bool) → eqb f.state 1 ≡ b → P 1 Live → P 2 Broken
        → P f.state (cond b Live Broken)
    status-by P true e live broken = rw (eqb-true f.state 1 e) live
    status-by P false e live broken =
        let z = eqb-false f.state 0 fits.used in
        let o = eqb-false f.state 1 e in
        let two : f.state ≡ 2 = omega (arith, fits.state) in
        rw two broken

    status-context_of : (P : ℕ → Status → Type 0) → P 1 Live → P 2 Broken → P f.state context.status
    unfolding context_of
    status-context_of P live broken = rw fits.used (status-by P (eqb f.state 1) refl live broken)

    sound-context_of : sound_decompressor context ≡ true
    unfolding sound_decompressor sound_decompressor_by
    sound-context_of =
        let s = bounds-filled_sound context bounds-context_of in
        status-context_of (λ n x. sound_decompressor_by x context ≡ true)
        (both context.filled (filled_sound context) filled-context_of s)
        (first context.filled (filled_sound context) (unfilled_sound context) filled-context_of s)
      where
        both : (a b : Bool) → a ≡ true → b ≡ true → (a && b) ≡ true
        both a b e k = rw (e, k)

        first : (a b c : Bool) → a ≡ true → b ≡ true → cond a b c ≡ true
        first a b c e k = rw (e, k)

    bytes-context_of : record_bytes context ≡ used_bytes f.state context
    unfolding record_bytes
    bytes-context_of = status-context_of (λ n x. record_by x context ≡ used_bytes n context) refl refl

    part-context_of : marked h.checksum ≡ true → header_size h ≡ f.size → header_part context ≡ f.size ∷ kept_bytes h
    part-context_of m n =
        ap (λ (b : Bool). cond b (header_size (kept context) ∷ kept_bytes (kept context)) (0 ∷ [])) filled-context_of
        ∙ ap (λ (x : Header). header_size x ∷ kept_bytes x) (kept-context_of m)
        ∙ ap (λ (k : ℕ). k ∷ kept_bytes h) n

    -- its bytes before the header's size
    abbrev before : List ℕ
    before =
        (f.state ∷ []) ++ ((context.link.generation ∷ []) ++ ((context.link.sequence ∷ [])
        ++ (big_endian 2 context.deltas.id ++ big_endian 4 context.deltas.timestamp)))

    before-context_of : (l : List ℕ) → before ++ ((f.size ∷ kept_bytes h) ++ l)
        ≡ fixed_bytes f.state f.generation f.sequence f.did f.dts f.size (kept_bytes h ++ l)
    unfolding context_of
    before-context_of l = refl

    pub used-context_of : marked h.checksum ≡ true → header_size h ≡ f.size → (l : List ℕ)
        → record_bytes context ++ l
        ≡ fixed_bytes f.state f.generation f.sequence f.did f.dts f.size (kept_bytes h ++ l)
    used-context_of m n l =
        ap (λ (x : List ℕ). x ++ l) bytes-context_of
        ∙ ap (λ (x : List ℕ). before ++ (x ++ l)) (part-context_of m n)
        ∙ before-context_of l

---- A record that was read

-- the reading goes on at `next`; the context is sound, and its record is what stands there
pub record RecordRead (s : List ℕ) (at : ℕ) (g : GotContext) : Type 0 where
  pub next : ℕ
  pub place : g.place ≡ good next
  pub sound : sound_decompressor g.context ≡ true
  pub range : ContextInRange g.context
  pub back : record_bytes g.context ++ drop next s ≡ drop at s

abbrev header_by : List ℕ → Place → ℕ → Bool → GotHeader
header_by s p n b = cond b (header_field s p.cursor.at n) (record { place = p; header = no_header })

header-by : (s : List ℕ) (p : Place) (n : ℕ) (g b : Bool) → is_accepted p.verdict ≡ g
    → Goes (header_by s p n (g && b)).place → Goes p
header-by s p n true b e x = e
header-by s p n false b e x = x

pub header_from-goes : (s : List ℕ) (p : Place) (n : ℕ) → Goes (header_from s p n).place → Goes p
unfolding header_from
header_from-goes s p n x = header-by s p n (is_accepted p.verdict) (not (eqb n 0)) refl x

from_goes : (s : List ℕ) (f : Fixed) → Goes (record_from s f).place → Goes f.place
from_goes s f x =
    (allowed-goes f.place (size_allowed f) (header_from-goes s (allowed f.place (size_allowed f)) f.size x)).0

-- a reading that was not refused in a record was not refused before it
pub record_of-goes : (s : List ℕ) (p : Place) → Goes (record_of s p).place → Goes p
unfolding record_of
record_of-goes s p x = fixed_of-goes s p (from_goes s (fixed_of s p) x)

---- a context that is empty, or was never filled

empty-sound : sound_decompressor (blank Empty) ≡ true
unfolding sound_decompressor sound_decompressor_by unfilled_sound zero_list
empty-sound = refl

broken-sound : sound_decompressor (blank Broken) ≡ true
unfolding sound_decompressor sound_decompressor_by unfilled_sound zero_list
broken-sound = refl

blank-range : (x : Status) → ContextInRange (blank x)
unfolding empty_decompressor
blank-range x = record {
  flow = range_none.flow;
  ip = range_none.ip;
  rtp = range_none.rtp;
  csrc = range_none.csrc;
  did = range_none.did;
  dts = range_none.dts;
}

module _ (s : List ℕ) (at : ℕ) where
  zero-first : byte_at s at ≡ 0 → at + 1 ≤ length s → 0 ∷ drop (at + 1) s ≡ drop at s
  zero-first z h = rw (← z, add-one) (sym (drop-cons s at 0 (omega arith)))

  read-empty : byte_at s at ≡ 0 → at + 1 ≤ length s → RecordRead s at (record { place = good (at + 1); context = blank Empty })
  unfolding record_bytes
  read-empty z h = record {
    next = at + 1;
    place = refl;
    sound = empty-sound;
    range = blank-range Empty;
    back = zero-first z h;
  }

  module _ (a : AllBytes s) (there : at + 10 ≤ length s) where
    abbrev f : Fixed
    f = standing s at

    left-fixed : fixed_bytes f.state f.generation f.sequence f.did f.dts f.size (drop (at + 10) s) ≡ drop at s
    left-fixed = fixed_bytes-standing s at a there

    -- without a header
    module _ (e : unfilled_allowed f ≡ true) (z : f.size ≡ 0) where
      tests : (eqb f.state 2 ≡ true) × (eqb f.generation 0 ≡ true) × (eqb f.sequence 0 ≡ true) × (eqb f.did 0 ≡ true)
          × (eqb f.dts 0 ≡ true)
      tests =
          let t = all-of-eight true true true (eqb f.state 2) (eqb f.generation 0) (eqb f.sequence 0) (eqb f.did 0)
          (eqb f.dts 0) e in
          (t.3, t.4, t.5, t.6, t.7)

      fixed_zero : f ≡ fixed (at + 10) 2 0 0 0 0 0
      fixed_zero = λ i. record {
        place = good (at + 10);
        state = eqb-true f.state 2 tests.0 i;
        generation = eqb-true f.generation 0 tests.1 i;
        sequence = eqb-true f.sequence 0 tests.2 i;
        did = eqb-true f.did 0 tests.3 i;
        dts = eqb-true f.dts 0 tests.4 i;
        size = z i;
      }

      back-zero : fixed_bytes 2 0 0 0 0 0 (drop (at + 10) s) ≡ drop at s
      back-zero =
          sym (ap (λ (x : Fixed). fixed_bytes x.state x.generation x.sequence x.did x.dts x.size
          (drop (at + 10) s)) fixed_zero)
          ∙ left-fixed

      read-blank : RecordRead s at (record { place = good (at + 10); context = blank Broken })
      unfolding record_bytes
      read-blank = record {
        next = at + 10;
        place = refl;
        sound = broken-sound;
        range = blank-range Broken;
        back = back-zero;
      }

    -- with a header
    module _ (fits : FixedFits f) (sized : eqb f.size 0 ≡ false) (g : GotHeader) (r : HeaderRead s (at + 10) f.size g) where
      abbrev h : Header
      h = g.header

      left-header : kept_bytes h ++ drop (at + 10 + f.size) s ≡ drop (at + 10) s
      left-header =
          ap (λ (x : List ℕ). x ++ drop (at + 10 + f.size) s) r.header.back
          ∙ ap (λ (x : List ℕ). take f.size (drop (at + 10) s) ++ x) (sym (drop-drop f.size (at + 10) s))
          ∙ take-append-drop f.size (drop (at + 10) s)

      size-header : header_size h ≡ f.size
      size-header = r.header.size ∙ length-take-le f.size (drop (at + 10) s) (omega (arith, r.there, length-drop (at + 10) s))

      read-filled : RecordRead s at (record { place = g.place; context = context_of f h })
      read-filled = record {
        next = at + 10 + f.size;
        place = r.place;
        sound = sound-context_of f h fits r.header.range sized;
        range = range-context_of f h fits r.header.range;
        back =
            used-context_of f h fits r.header.range sized r.header.marks size-header (drop (at + 10 + f.size) s)
            ∙ ap (fixed_bytes f.state f.generation f.sequence f.did f.dts f.size) left-header
            ∙ left-fixed;
      }

    -- by whether it has one
    module _ (fits : FixedFits f) (x : Goes (record_from s f).place) where
      size-allowed : size_allowed f ≡ true
      size-allowed =
          (allowed-goes (good (at + 10)) (size_allowed f)
          (header_from-goes s (allowed (good (at + 10)) (size_allowed f)) f.size x)).1

      size-chosen : cond (eqb f.size 0) (unfilled_allowed f) (header_allowed f.size) ≡ true
      unfolding size_allowed
      size-chosen = rw fits.used at size-allowed

      -- the record, once its size was allowed
      abbrev got_header : GotHeader
      got_header = header_from s (good (at + 10)) f.size

      from-allowed : record_from s f ≡ record { place = got_header.place; context = context_of f got_header.header }
      from-allowed = rw (size-allowed, checked-passed (good (at + 10)) forbidden)

      least : header_allowed f.size ≡ true → 1 ≤ f.size
      least e =
          let t = all-of-eight true true true true true (leb 40 f.size) (leb f.size 100) (eqb (f.size % 4) 0) e in
          omega (arith, leb-true 40 f.size t.5)

      sized-by : (b : Bool) → eqb f.size 0 ≡ b → cond b (unfilled_allowed f) (header_allowed f.size) ≡ true
          → RecordRead s at (record_from s f)
      sized-by true z e =
          let n = eqb-true f.size 0 z in
          subst (RecordRead s at) (sym (ap (record_from s) (fixed_zero e n) ∙ from-broken s (at + 10))) (read-blank e n)
      sized-by false z e =
          let y = subst (λ (r : GotContext). Goes r.place) from-allowed x in
          subst (RecordRead s at) (sym from-allowed)
          (read-filled fits z got_header (header_from-read a (at + 10) f.size (least e) y))

      read-used : RecordRead s at (record_from s f)
      read-used = sized-by (eqb f.size 0) refl size-chosen

  read-from : AllBytes s → (f : Fixed) → FixedRead s at f → Goes (record_from s f).place → RecordRead s at (record_from s f)
  read-from a f (empty z h e) x =
      subst (RecordRead s at) (sym (ap (record_from s) e ∙ from_empty s (at + 1))) (read-empty z h)
  read-from a f (used h fits e) x =
      subst (λ (y : Fixed). RecordRead s at (record_from s y)) (sym e) (read-used a h fits (rw e at x))

  -- a record that was accepted
  pub record_of-read : AllBytes s → Goes (record_of s (good at)).place → RecordRead s at (record_of s (good at))
  unfolding record_of
  record_of-read a x = read-from a (fixed_of s (good at)) (fixed_of-read s at (from_goes s (fixed_of s (good at)) x) a) x
