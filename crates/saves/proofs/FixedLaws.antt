-- Iarwennol. Laws of a record's fields before its header: what was written is read back, and what was read stands there. Assume
-- nothing. Used by the laws of a record.
use Rattle.std.specs.Prelude.{ℕ, ◌+◌, ◌^◌, ◌≤◌, ◌<◌, ◌≡◌, Bool, false, not, List, [], ◌∷◌, ◌++◌, eqb, length, drop}
use Rattle.std.proofs.Math.Path.{refl}
use Rattle.std.proofs.Common.{sym, ap, ◌∙◌, add-zero, add_assoc, eqb-true, length-drop, get_or-drop, drop-drop}
use Rattle.std.proofs.Math.Bool.{true}
use native.Mathlib.Omega.{arith}
use Rattle.codes.specs.Bytes.{AllBytes, big_endian}
use Rattle.codes.specs.Difference.{has_code}
use Rattle.codes.specs.Reading.{byte_at, word_at, long_at}
use Rattle.codes.proofs.BytesRead.{AllBytes-drop, word_at-lt, long_at-lt, big_endian-word_at, big_endian-long_at, places-drop}
use Rattle.fields.specs.declared.place.Place.{Place}
use Rattle.fields.specs.declared.place.Got.{Got}
use Rattle.fields.specs.Place.{good, there, or_zero}
use Rattle.fields.specs.Next.{next_byte, next_word, next_long}
use Rattle.fields.specs.NextLaws.{left-past, next_byte-written, next_word-written, next_long-written}
use Rattle.context.proofs.SoundFacts.{has_code-zero}
use Rattle.saves.specs.declared.read.Fixed.{Fixed}
use Rattle.saves.specs.Saves.{allowed, next_up_to, fixed_of}
use Rattle.saves.proofs.StepLaws.{Goes, checked-passed, allowed-goes, next_byte-goes, next_word-goes, next_long-goes}
use Rattle.saves.proofs.StepLaws.{next_up_to-goes, next_byte-took, next_word-took, next_long-took, next_up_to-took}
use Rattle.saves.proofs.StepLaws.{next_up_to-written}
use Rattle.saves.proofs.StepLaws.{next_byte-unwanted, next_word-unwanted, next_long-unwanted, next_up_to-unwanted}

abbrev pub fixed : (at state generation sequence did dts size : ℕ) → Fixed
fixed at state generation sequence did dts size = record {
  place = good at;
  state = state;
  generation = generation;
  sequence = sequence;
  did = did;
  dts = dts;
  size = size;
}

-- what the fields of a context in use must be
pub record FixedFits (f : Fixed) : Type 0 where
  pub used : eqb f.state 0 ≡ false
  pub state : f.state ≤ 2
  pub generation : f.generation ≤ 63
  pub sequence : f.sequence ≤ 15
  pub did : f.did < 2 ^ 16
  pub dts : f.dts < 2 ^ 32
  pub coded : has_code 32 f.dts ≡ true

---- written and read

abbrev pub fixed_bytes : (state generation sequence did dts size : ℕ) → (l : List ℕ) → List ℕ
fixed_bytes state generation sequence did dts size l =
    (state ∷ []) ++ ((generation ∷ []) ++ ((sequence ∷ []) ++ (big_endian 2 did ++ (big_endian 4 dts ++ (size ∷ l)))))

module _ (s : List ℕ) (at : ℕ) where
  pub fixed_of-used : (x g q d t z : ℕ) (l : List ℕ) → FixedFits (fixed at x g q d t z) → drop at s ≡ fixed_bytes x g q d t z l
      → fixed_of s (good at) ≡ fixed (at + 10) x g q d t z
  unfolding fixed_of
  fixed_of-used x g q d t z l f e =
      let D = big_endian 2 d in
      let T = big_endian 4 t in
      let e1 = left-past s at (x ∷ []) (g ∷ q ∷ (D ++ (T ++ (z ∷ l)))) e in
      let e2 = left-past s (at + 1) (g ∷ []) (q ∷ (D ++ (T ++ (z ∷ l)))) e1 in
      let e3 = left-past s (at + 1 + 1) (q ∷ []) (D ++ (T ++ (z ∷ l))) e2 in
      let e4 = left-past s (at + 1 + 1 + 1) D (T ++ (z ∷ l)) e3 in
      let e5 = left-past s (at + 1 + 1 + 1 + 2) T (z ∷ l) e4 in
      let n : at + 1 + 1 + 1 + 2 + 4 + 1 ≡ at + 10 = omega arith in
      rw (
        next_up_to-written s at 2 x (g ∷ q ∷ (D ++ (T ++ (z ∷ l)))) f.state e,
        f.used,
        next_up_to-written s (at + 1) 63 g (q ∷ (D ++ (T ++ (z ∷ l)))) f.generation e1,
        next_up_to-written s (at + 1 + 1) 15 q (D ++ (T ++ (z ∷ l))) f.sequence e2,
        next_word-written s (at + 1 + 1 + 1) true d (T ++ (z ∷ l)) f.did e3,
        next_long-written s (at + 1 + 1 + 1 + 2) true t (z ∷ l) f.dts e4,
        f.coded,
        checked-passed,
        next_byte-written s (at + 1 + 1 + 1 + 2 + 4) true z l e5,
        n,
      )

  -- past a state of 0 there is no field
  fixed_of-zero : (x : ℕ) → x ≡ 0 → next_up_to s (good at) true 2 ≡ there (at + 1) x
      → fixed_of s (good at) ≡ fixed (at + 1) 0 0 0 0 0 0
  unfolding fixed_of
  fixed_of-zero x z e =
      rw (
        e,
        z,
        next_up_to-unwanted s (at + 1) 63,
        next_up_to-unwanted s (at + 1) 15,
        next_word-unwanted s (at + 1),
        next_long-unwanted s (at + 1),
        has_code-zero,
        checked-passed,
        next_byte-unwanted s (at + 1),
      )

  pub fixed_of-empty : (l : List ℕ) → drop at s ≡ 0 ∷ l → fixed_of s (good at) ≡ fixed (at + 1) 0 0 0 0 0 0
  fixed_of-empty l e = fixed_of-zero 0 refl (next_up_to-written s at 2 0 l (omega arith) e)

---- read, and standing there

-- the fields of a context in use, as they stand in the bytes
abbrev pub standing : List ℕ → ℕ → Fixed
standing s at =
    fixed (at + 10) (byte_at s at) (byte_at s (at + 1)) (byte_at s (at + 2)) (word_at s (at + 3)) (long_at s (at + 5))
    (byte_at s (at + 9))

-- the two ways that the fields of a record can be read
pub data FixedRead (s : List ℕ) (at : ℕ) (f : Fixed) : Type 0 where
  empty : byte_at s at ≡ 0 → at + 1 ≤ length s → f ≡ fixed (at + 1) 0 0 0 0 0 0 → FixedRead s at f
  used : at + 10 ≤ length s → FixedFits (standing s at) → f ≡ standing s at → FixedRead s at f

-- a reading that was not refused at the size was not refused before it
pub fixed_of-goes : (s : List ℕ) (p : Place) → Goes (fixed_of s p).place → Goes p
unfolding fixed_of
fixed_of-goes s p x =
    (next_up_to-goes s p true 2 (next_up_to-goes s _ _ 63 (next_up_to-goes s _ _ 15 (
    next_word-goes s _ _ (
    next_long-goes s _ _ (allowed-goes _ _ (
    next_byte-goes s _ _ x)).0))).0).0).0

module _ (s : List ℕ) (at : ℕ) (x : Goes (fixed_of s (good at)).place) where
  abbrev state : Got ℕ
  state = next_up_to s (good at) true 2

  abbrev is_used : Bool
  is_used = not (eqb (or_zero state.field) 0)

  abbrev generation : Got ℕ
  generation = next_up_to s state.place is_used 63

  abbrev sequence : Got ℕ
  sequence = next_up_to s generation.place is_used 15

  abbrev did : Got ℕ
  did = next_word s sequence.place is_used

  abbrev dts : Got ℕ
  dts = next_long s did.place is_used

  goes-coded : Goes dts.place × (has_code 32 (or_zero dts.field) ≡ true)
  unfolding fixed_of
  goes-coded = allowed-goes dts.place (has_code 32 (or_zero dts.field))
      (next_byte-goes s (allowed dts.place (has_code 32 (or_zero dts.field))) is_used x)

  goes-did : Goes did.place
  goes-did = next_long-goes s did.place is_used goes-coded.0

  goes-sequence : Goes sequence.place
  goes-sequence = next_word-goes s sequence.place is_used goes-did

  goes-generation : Goes generation.place
  goes-generation = (next_up_to-goes s generation.place is_used 15 goes-sequence).0

  goes-state : Goes state.place
  goes-state = (next_up_to-goes s state.place is_used 63 goes-generation).0

  state-took : (at + 1 ≤ length s) × (byte_at s at ≤ 2) × (state ≡ there (at + 1) (byte_at s at))
  state-took = next_up_to-took s at 2 goes-state

  module _ (u : eqb (byte_at s at) 0 ≡ false) where
    is-used : is_used ≡ true
    is-used = rw (state-took.2, u)

    -- each field in turn: the step that took it, and what it took
    generation-step : generation ≡ next_up_to s (good (at + 1)) true 63
    generation-step = λ i. next_up_to s (state-took.2 i).place (is-used i) 63

    generation-took : (at + 1 + 1 ≤ length s) × (byte_at s (at + 1) ≤ 63)
        × (next_up_to s (good (at + 1)) true 63 ≡ there (at + 1 + 1) (byte_at s (at + 1)))
    generation-took = next_up_to-took s (at + 1) 63 (rw generation-step at goes-generation)

    sequence-step : sequence ≡ next_up_to s (good (at + 1 + 1)) true 15
    sequence-step = λ i. next_up_to s ((generation-step ∙ generation-took.2) i).place (is-used i) 15

    sequence-took : (at + 1 + 1 + 1 ≤ length s) × (byte_at s (at + 1 + 1) ≤ 15)
        × (next_up_to s (good (at + 1 + 1)) true 15 ≡ there (at + 1 + 1 + 1) (byte_at s (at + 1 + 1)))
    sequence-took = next_up_to-took s (at + 1 + 1) 15 (rw sequence-step at goes-sequence)

    did-step : did ≡ next_word s (good (at + 1 + 1 + 1)) true
    did-step = λ i. next_word s ((sequence-step ∙ sequence-took.2) i).place (is-used i)

    did-took : (at + 1 + 1 + 1 + 2 ≤ length s)
        × (next_word s (good (at + 1 + 1 + 1)) true ≡ there (at + 1 + 1 + 1 + 2) (word_at s (at + 1 + 1 + 1)))
    did-took = next_word-took s (at + 1 + 1 + 1) (rw did-step at goes-did)

    dts-step : dts ≡ next_long s (good (at + 1 + 1 + 1 + 2)) true
    dts-step = λ i. next_long s ((did-step ∙ did-took.1) i).place (is-used i)

    dts-took : (at + 1 + 1 + 1 + 2 + 4 ≤ length s)
        × (next_long s (good (at + 1 + 1 + 1 + 2)) true
        ≡ there (at + 1 + 1 + 1 + 2 + 4) (long_at s (at + 1 + 1 + 1 + 2)))
    dts-took = next_long-took s (at + 1 + 1 + 1 + 2) (rw dts-step at goes-coded.0)

    dts-is : dts ≡ there (at + 1 + 1 + 1 + 2 + 4) (long_at s (at + 1 + 1 + 1 + 2))
    dts-is = dts-step ∙ dts-took.1

    abbrev size : Got ℕ
    size = next_byte s (allowed dts.place (has_code 32 (or_zero dts.field))) is_used

    goes-size : Goes size.place
    unfolding fixed_of
    goes-size = x

    coded : has_code 32 (long_at s (at + 1 + 1 + 1 + 2)) ≡ true
    coded = rw dts-is at goes-coded.1

    size_step : size ≡ next_byte s (good (at + 1 + 1 + 1 + 2 + 4)) true
    size_step =
        ap (λ (ok : Bool). next_byte s (allowed dts.place ok) is_used) goes-coded.1
        ∙ (λ i. next_byte s (checked-passed (dts-is i).place 5 i) (is-used i))

    size-took : (at + 1 + 1 + 1 + 2 + 4 + 1 ≤ length s)
        × (next_byte s (good (at + 1 + 1 + 1 + 2 + 4)) true
        ≡ there (at + 1 + 1 + 1 + 2 + 4 + 1) (byte_at s (at + 1 + 1 + 1 + 2 + 4)))
    size-took = next_byte-took s (at + 1 + 1 + 1 + 2 + 4) (rw size_step at goes-size)

    -- together
    used-same : fixed_of s (good at)
        ≡ fixed (at + 1 + 1 + 1 + 2 + 4 + 1) (byte_at s at) (byte_at s (at + 1)) (byte_at s (at + 1 + 1))
        (word_at s (at + 1 + 1 + 1))
        (long_at s (at + 1 + 1 + 1 + 2)) (byte_at s (at + 1 + 1 + 1 + 2 + 4))
    unfolding fixed_of
    used-same = λ i. record {
      place = ((size_step ∙ size-took.1) i).place;
      state = or_zero (state-took.2 i).field;
      generation = or_zero ((generation-step ∙ generation-took.2) i).field;
      sequence = or_zero ((sequence-step ∙ sequence-took.2) i).field;
      did = or_zero ((did-step ∙ did-took.1) i).field;
      dts = or_zero (dts-is i).field;
      size = or_zero ((size_step ∙ size-took.1) i).field;
    }

    -- the places as one number each
    used-standing : fixed_of s (good at) ≡ standing s at
    used-standing =
        let n2 : at + 1 + 1 ≡ at + 2 = omega arith in
        let n3 : at + 2 + 1 ≡ at + 3 = omega arith in
        let n5 : at + 3 + 2 ≡ at + 5 = omega arith in
        let n9 : at + 5 + 4 ≡ at + 9 = omega arith in
        let n10 : at + 9 + 1 ≡ at + 10 = omega arith in
        rw (n2, n3, n5, n9, n10) at used-same

    used-fits : AllBytes s → FixedFits (standing s at)
    used-fits a =
        let n2 : at + 1 + 1 ≡ at + 2 = omega arith in
        let n5 : at + 1 + 1 + 1 + 2 ≡ at + 5 = omega arith in
        record {
          used = u;
          state = state-took.1;
          generation = generation-took.1;
          sequence = rw n2 at sequence-took.1;
          did = word_at-lt a (at + 3);
          dts = long_at-lt a (at + 5);
          coded = rw n5 at coded;
        }

  read_by : AllBytes s → (b : Bool) → eqb (byte_at s at) 0 ≡ b → FixedRead s at (fixed_of s (good at))
  read_by a true e =
      let z = eqb-true (byte_at s at) 0 e in
      empty z state-took.0 (fixed_of-zero s at (byte_at s at) z state-took.2)
  read_by a false e = used (omega (arith, (size-took e).0)) (used-fits e a) (used-standing e)

  pub fixed_of-read : AllBytes s → FixedRead s at (fixed_of s (good at))
  fixed_of-read a = read_by a (eqb (byte_at s at) 0) refl

-- the fields that stand there make up the bytes
module _ (r : List ℕ) (a : AllBytes r) (h : 10 ≤ length r) where
  bytes-front : fixed_bytes (byte_at r 0) (byte_at r 1) (byte_at r 2) (word_at r 3) (long_at r 5) (byte_at r 9) (drop 10 r) ≡ r
  bytes-front =
      (λ i. byte_at r 0 ∷ byte_at r 1 ∷ byte_at r 2
      ∷ (big_endian-word_at a 3 i ++ (big_endian-long_at a 5 i ++ (byte_at r 9 ∷ drop 10 r))))
      ∙ places-drop 10 r h

module _ (s : List ℕ) (at : ℕ) where
  byte_left : (k : ℕ) → byte_at (drop at s) k ≡ byte_at s (at + k)
  byte_left k = get_or-drop at s k 0

  first-left : byte_at (drop at s) 0 ≡ byte_at s at
  first-left = rw add-zero at (byte_left 0)

  word-left : (k : ℕ) → word_at (drop at s) k ≡ word_at s (at + k)
  word-left k = simp (get_or-drop, add_assoc)

  long-left : (k : ℕ) → long_at (drop at s) k ≡ long_at s (at + k)
  long-left k = simp (get_or-drop, add_assoc)

  pub fixed_bytes-standing : AllBytes s → at + 10 ≤ length s → let f = standing s at in
      fixed_bytes f.state f.generation f.sequence f.did f.dts f.size (drop (at + 10) s) ≡ drop at s
  fixed_bytes-standing a h =
      sym (λ i. fixed_bytes (first-left i) (byte_left 1 i) (byte_left 2 i) (word-left 3 i) (long-left 5 i) (byte_left 9 i)
      (drop-drop 10 at s i))
      ∙ bytes-front (drop at s) (AllBytes-drop at a) (omega (arith, length-drop at s))
