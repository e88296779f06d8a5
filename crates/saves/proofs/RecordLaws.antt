-- Iarwennol. Laws of a record: what was written of a context is read back; what is read is a sound context, and is written back.
-- Assume nothing. Used by the laws of a saved table.
use Rattle.std.specs.Prelude.{ℕ, ◌+◌, ◌%◌, ◌^◌, ◌≤◌, ◌<◌, ◌≡◌, Bool, true, false, cond, ◌&&◌, List, [], ◌∷◌, ◌++◌, eqb, leb, length}
use Rattle.std.specs.Prelude.{drop}
use Rattle.std.proofs.Math.Path.{refl, sym, ap}
use Rattle.std.proofs.Common.{◌∙◌, arith}
use Rattle.std.proofs.Math.Bool.{not, and-eq-true_iff}
use borrow.Author.Tests.{eq-eqb, ne_eqb, le-leb, not-true}
use Rattle.codes.specs.Numbers.{forbidden}
use Rattle.packet.specs.Ranges.{HeaderInRange}
use Rattle.headers.specs.Header.{header_size, size_with}
use Rattle.headers.proofs.HeaderLaws.{length-header_bytes}
use Rattle.fields.specs.Place.{good}
use Rattle.fields.specs.NextLaws.{left-past}
use Rattle.context.specs.Decompressor.{rebuilt}
use Rattle.context.specs.Ranges.{ContextInRange}
use Rattle.context.specs.Sound.{sound_decompressor, sound_decompressor_by, filled_sound, unfilled_sound}
use Rattle.context.specs.declared.decompressor.Status.{Status}
use Rattle.context.specs.declared.decompressor.Status.TheVariants.{Empty, Live, Broken}
use Rattle.context.specs.declared.decompressor.DecompressorContext.{DecompressorContext}
use Rattle.context.proofs.SoundFacts.{FilledBounds, filled_sound-bounds, has_code-zero}
use Rattle.context.proofs.Unfilled.{blank, unfilled-blank}
use Rattle.saves.specs.declared.read.Fixed.{Fixed}
use Rattle.saves.specs.Saves.{checked, kept, kept_bytes, header_from, status_of, header_part, used_bytes, record_by, record_bytes}
use Rattle.saves.specs.Saves.{size_allowed, context_of, record_from, record_of}
use Rattle.saves.proofs.StepLaws.{checked-passed}
use Rattle.saves.proofs.KeptLaws.{marked, header_from-bytes}
use Rattle.saves.proofs.FixedLaws.{fixed, FixedFits, fixed_bytes, fixed_of-used, fixed_of-empty}

---- The header of a context that was filled

abbrev checksum_by : Bool → ℕ
checksum_by carried = cond carried 0xFFFF 0

checksum-small : (b : Bool) → checksum_by b < 2 ^ 16
checksum-small true = omega arith
checksum-small false = omega arith

checksum-marked : (b : Bool) → marked (checksum_by b) ≡ true
checksum-marked true = refl
checksum-marked false = refl

checksum-carried : (b : Bool) → not (eqb (checksum_by b) 0) ≡ b
checksum-carried true = refl
checksum-carried false = refl

pub kept-range : (c : DecompressorContext) → ContextInRange c → HeaderInRange (kept c)
unfolding rebuilt
kept-range c r = record {
  flow = r.flow;
  ip = r.ip;
  rtp = r.rtp;
  csrc = r.csrc;
  checksum = checksum-small c.carried;
}

pub kept-marked : (c : DecompressorContext) → marked (kept c).checksum ≡ true
unfolding rebuilt
kept-marked c = checksum-marked c.carried

pub size-kept : (c : DecompressorContext) → header_size (kept c) ≡ size_with c.csrc.count
unfolding rebuilt
size-kept c = refl

---- Written and read: a context that was filled

-- the sizes that a header of up to fifteen CSRC words can have
pub header_allowed-size : (count : ℕ) → count ≤ 15
    → (leb 40 (size_with count) && leb (size_with count) 100 && eqb (size_with count % 4) 0) ≡ true
header_allowed-size count h =
    rw (
      le-leb 40 (size_with count) (omega arith),
      le-leb (size_with count) 100 (omega arith),
      eq-eqb (size_with count % 4) 0 (omega arith),
    )

module _ (c : DecompressorContext) (filled : c.filled ≡ true) (b : FilledBounds c) (r : ContextInRange c) where
  abbrev written : (at state : ℕ) → Fixed
  written at state =
      fixed at state c.link.generation c.link.sequence c.deltas.id c.deltas.timestamp (header_size (kept c))

  written-fits : (at state : ℕ) → eqb state 0 ≡ false → state ≤ 2 → FixedFits (written at state)
  written-fits at state u h = record {
    used = u;
    state = h;
    generation = b.link.generation;
    sequence = b.link.sequence;
    did = r.did;
    dts = r.dts;
    coded = b.coded;
  }

  size-written : (at state : ℕ) → eqb state 0 ≡ false → size_allowed (written at state) ≡ true
  unfolding size_allowed
  size-written at state u =
      rw (u, size-kept c, ne_eqb (size_with c.csrc.count) 0 (λ z. omega arith))
      (header_allowed-size c.csrc.count r.csrc.count)

  context-written : (at state : ℕ) → status_of state ≡ c.status → context_of (written at state) (kept c) ≡ c
  unfolding context_of rebuilt
  context-written at state e = λ i. record {
    status = e i;
    filled = (ap not (ne_eqb (size_with c.csrc.count) 0 (λ z. omega arith)) ∙ sym filled) i;
    flow = c.flow;
    ip = c.ip;
    rtp = c.rtp;
    csrc = c.csrc;
    carried = checksum-carried c.carried i;
    marker = c.marker;
    deltas = c.deltas;
    link = c.link;
  }

  header-part : header_part c ≡ header_size (kept c) ∷ kept_bytes (kept c)
  header-part = rw filled

  -- the bytes up to the header's size, and those after it
  used-left : (state : ℕ) (l : List ℕ) → used_bytes state c ++ l
      ≡ fixed_bytes state c.link.generation c.link.sequence c.deltas.id c.deltas.timestamp (header_size (kept c))
      (kept_bytes (kept c) ++ l)
  used-left state l = rw header-part

  pub length-used : (state : ℕ) → length (used_bytes state c) ≡ 10 + header_size (kept c)
  length-used state = rw header-part (omega (arith, length-header_bytes 0 0 0 (kept c) (kept-range c r)))

  module _ (s : List ℕ) (at state : ℕ) (l : List ℕ) (u : eqb state 0 ≡ false) (h : state ≤ 2)
      (status : status_of state ≡ c.status) (e : drop at s ≡ used_bytes state c ++ l) where
    left : drop at s
        ≡ fixed_bytes state c.link.generation c.link.sequence c.deltas.id c.deltas.timestamp (header_size (kept c))
        (kept_bytes (kept c) ++ l)
    left = e ∙ used-left state l

    left-header : drop (at + 10) s ≡ kept_bytes (kept c) ++ l
    left-header =
        left-past s at
        (fixed_bytes state c.link.generation c.link.sequence c.deltas.id c.deltas.timestamp (header_size (kept c)) [])
        (kept_bytes (kept c) ++ l) left

    header_read : header_from s (good (at + 10)) (header_size (kept c))
        ≡ record { place = good (at + 10 + header_size (kept c)); header = kept c }
    header_read = header_from-bytes (kept c) (kept-range c r) (kept-marked c) s (at + 10) l left-header

    from-written : record_from s (written (at + 10) state) ≡ record { place = good (at + 10 + header_size (kept c)); context = c }
    from-written =
        rw (
          size-written (at + 10) state u,
          checked-passed (good (at + 10)) forbidden,
          header_read,
          context-written (at + 10) state status,
        )

    past : at + 10 + header_size (kept c) ≡ at + length (used_bytes state c)
    past = omega (arith, length-used state)

    record_of-used : record_of s (good at) ≡ record { place = good (at + length (used_bytes state c)); context = c }
    unfolding record_of
    record_of-used =
        ap (record_from s) (fixed_of-used s at state c.link.generation c.link.sequence c.deltas.id c.deltas.timestamp
        (header_size (kept c)) (kept_bytes (kept c) ++ l) (written-fits at state u h) left)
        ∙ from-written
        ∙ ap (λ (n : ℕ). record { place = good n; context = c }) past

---- Written and read: a context that was never filled

-- a broken one has all its fields, which are 0, and no header; an empty one has its state alone
pub from_empty : (s : List ℕ) (at : ℕ) → record_from s (fixed at 0 0 0 0 0 0) ≡ record { place = good at; context = blank Empty }
unfolding size_allowed checked header_from context_of
from_empty s at = refl

pub from-broken : (s : List ℕ) (at : ℕ) → record_from s (fixed at 2 0 0 0 0 0) ≡ record { place = good at; context = blank Broken }
unfolding size_allowed checked header_from context_of
from-broken s at = refl

zero-fits : (at : ℕ) → FixedFits (fixed at 2 0 0 0 0 0)
zero-fits at = record {
  used = refl;
  state = omega arith;
  generation = omega arith;
  sequence = omega arith;
  did = omega arith;
  dts = omega arith;
  coded = has_code-zero;
}

module _ (s : List ℕ) (at : ℕ) (l : List ℕ) where
  record_of-empty : drop at s ≡ 0 ∷ l → record_of s (good at) ≡ record { place = good (at + 1); context = blank Empty }
  unfolding record_of
  record_of-empty e = ap (record_from s) (fixed_of-empty s at l e) ∙ from_empty s (at + 1)

  record_of-broken : drop at s ≡ used_bytes 2 (blank Broken) ++ l
      → record_of s (good at) ≡ record { place = good (at + 10); context = blank Broken }
  unfolding record_of
  record_of-broken e = ap (record_from s) (fixed_of-used s at 2 0 0 0 0 0 l (zero-fits at) e) ∙ from-broken s (at + 10)

---- Written and read

-- the record of c, with so many bytes, is read back
abbrev Back : List ℕ → ℕ → DecompressorContext → List ℕ → Type 0
Back s at c bs = record_of s (good at) ≡ record { place = good (at + length bs); context = c }

module _ (c : DecompressorContext) (r : ContextInRange c) (s : List ℕ) (at : ℕ) (l : List ℕ) where
  back-empty : c.status ≡ Empty → c.filled ≡ false → unfilled_sound c ≡ true → drop at s ≡ 0 ∷ l → Back s at c (0 ∷ [])
  back-empty u f z e =
      let same = unfilled-blank c f z r.csrc.size ∙ ap blank u in
      record_of-empty s at l e ∙ ap (λ (x : DecompressorContext). record { place = good (at + 1); context = x }) (sym same)

  unfilled-bytes : c ≡ blank Broken → drop at s ≡ used_bytes 2 c ++ l → Back s at c (used_bytes 2 c)
  unfilled-bytes same e =
      record_of-broken s at l (e ∙ ap (λ (x : DecompressorContext). used_bytes 2 x ++ l) same)
      ∙ ap (λ (x : DecompressorContext). record { place = good (at + length (used_bytes 2 x)); context = x }) (sym same)

  back-broken : (f : Bool) → c.filled ≡ f → c.status ≡ Broken → cond f (filled_sound c) (unfilled_sound c) ≡ true
      → drop at s ≡ used_bytes 2 c ++ l → Back s at c (used_bytes 2 c)
  back-broken true f u z e = record_of-used c f (filled_sound-bounds c z) r s at 2 l refl (omega arith) (sym u) e
  back-broken false f u z e = unfilled-bytes (unfilled-blank c f z r.csrc.size ∙ ap blank u) e

  back_by : (x : Status) → c.status ≡ x → sound_decompressor_by x c ≡ true → drop at s ≡ record_by x c ++ l
      → Back s at c (record_by x c)
  unfolding sound_decompressor_by
  back_by Empty u z e =
      let p = (and-eq-true_iff (not c.filled) (unfilled_sound c)).0 z in
      back-empty u (not-true c.filled p.0) p.1 e
  back_by Live u z e =
      let p = (and-eq-true_iff c.filled (filled_sound c)).0 z in
      record_of-used c p.0 (filled_sound-bounds c p.1) r s at 1 l refl (omega arith) (sym u) e
  back_by Broken u z e = back-broken c.filled refl u z e

  -- a context that was saved is read back
  pub record_of-bytes : sound_decompressor c ≡ true → drop at s ≡ record_bytes c ++ l → Back s at c (record_bytes c)
  unfolding sound_decompressor record_bytes
  record_of-bytes z e = back_by c.status refl z e
