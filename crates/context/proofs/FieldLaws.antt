-- Iarwennol. Laws of one changing field.
-- Each once over the width w. Assume nothing.
-- Used for ID, sequence and timestamp where a packet is lost and where it arrives, and by the loops that make the steps.
use Prim.Native.Nat.{ℕ, zero, suc, ◌+◌, ◌-◌, ◌^◌, ◌≤◌, ◌<◌}
use mathlib.Core.Path.{◌≡◌, refl, sym, ap, ◌∙◌}
use mathlib.Core.Bool.{Bool, true, false, cond, false≢true}
use native.Mathlib.Omega.{arith}
use native.Mathlib.Nat.{add-zero, mod-lt, mod-eq_of_lt}
use native.Mathlib.Numerals.{add-one}
use lib.Dec.{eqb}
use lib.Pow.{pow_pos}
use borrow.Author.Tests.{eqb-true, not-false}
use Rattle.std.specs.Prelude.{Option, None, IfSome, unwrap_or}
use Rattle.std.specs.Bool.{then_some}
use Rattle.codes.specs.Difference.{difference, sum}
use Rattle.codes.specs.DifferenceLaws.{sum-difference}
use Rattle.context.specs.Field.{off_pattern, counted, is_due, steps, moved_on}
use Rattle.context.proofs.Relation.{Track, Seen, Near}
use Rattle.context.proofs.Tests.{unwrap_or-both, is_due-false}

---- difference

pub difference-fits : (w a b : ℕ) → difference w a b < 2 ^ w
unfolding difference
difference-fits w a b = mod-lt _ (pow_pos w)

---- moved_on

sum_fits : (w a d : ℕ) → sum w a d < 2 ^ w
unfolding sum
sum_fits w a d = mod-lt _ (pow_pos w)

-- a field lies within its width after a packet, if what was sent whole does
pub moved_on-fits : (w g last delta : ℕ) (d whole : Option ℕ) → IfSome whole (λ x. x < 2 ^ w)
    → moved_on (sum w) g last delta d whole < 2 ^ w
unfolding moved_on
moved_on-fits w g last delta d whole h = unwrap_or-both (λ (x : ℕ). x < 2 ^ w) whole _ h (sum_fits w _ _)

---- off_pattern

pub off_pattern-false : (w last delta x : ℕ) → off_pattern w last delta x ≡ false → difference w last x ≡ delta
unfolding off_pattern
off_pattern-false w last delta x e = eqb-true (difference w last x) delta (not-false (eqb (difference w last x) delta) e)

---- steps

-- one step more, for the loop that makes them
pub steps-more : {A : Type 0} (plus : A → A → A) (a d : A) (g : ℕ) → steps plus a d (g + 1) ≡ plus (steps plus a d g) d
steps-more plus a d g = rw add-one

-- the value after j steps of k, and one more on pattern
pub steps-onward : (w a j k s x : ℕ) → s < 2 ^ w → x < 2 ^ w → s ≡ steps (sum w) a k j → difference w s x ≡ k
    → x ≡ steps (sum w) a k (suc j)
steps-onward w a j k s x hs hx e d = sym (sum-difference w s x hs hx) ∙ ap (λ (y : ℕ). sum w s y) d ∙ ap (λ (y : ℕ). sum w y k) e

---- then_some

-- what is carried is taken, and what is not carried must be right already
pub then_some-carried : (b : Bool) (x y : ℕ) → (b ≡ false → y ≡ x) → unwrap_or (then_some b x) y ≡ x
then_some-carried true x y h = refl
then_some-carried false x y h = h refl

---- A field after a packet with the value x; off: it is off pattern; take: its difference is adopted

abbrev pub delta_now : (w : ℕ) (take : Bool) → Track → ℕ → ℕ
delta_now w take t x = cond take (difference w t.last x) t.delta

abbrev pub tracked : (w n : ℕ) (off take : Bool) → Track → ℕ → Track
tracked w n off take t x = record {
  last = x;
  delta = delta_now w take t x;
  delta_due = counted n take t.delta_due;
  due = counted n off t.due;
}

not_taken : (off take : Bool) → (take ≡ true → off ≡ true) → off ≡ false → take ≡ false
not_taken off true h e = sym (h refl) ∙ e
not_taken off false h e = refl

module _ (w n j : ℕ) (v : Seen) (t : Track) (x : ℕ) (small : t.last < 2 ^ w) (fits : x < 2 ^ w) where
  ---- near

  -- a packet that is lost
  pub near-lost : (off take : Bool) → Near w n j v t → suc j ≤ n → off_pattern w t.last t.delta x ≡ off
      → (take ≡ true → off ≡ true) →
      Near w n (suc j) v (tracked w n off take t x)
  unfolding counted
  near-lost true true r few ho ht = record { delta = λ h. absurd (omega arith); value = λ h. absurd (omega arith) }
  near-lost true false r few ho ht = record { delta = λ h. r.delta (omega arith); value = λ h. absurd (omega arith) }
  near-lost false true r few ho ht = absurd (false≢true (ht refl))
  near-lost false false r few ho ht = record {
    delta = λ h. r.delta (omega arith);
    value = λ h. let k : (v.delta ≡ t.delta) × (t.last ≡ steps (sum w) v.last v.delta j) = r.value (omega arith) in (
      k.0,
      steps-onward w v.last j v.delta t.last x small fits k.1
          (off_pattern-false w t.last t.delta x ho ∙ sym k.0),
    );
  }

  -- the delta that the decompressor holds after a CU or CR
  pub delta-arrives : (take : Bool) → Near w n j v t → j ≤ n →
      unwrap_or (then_some (is_due take t.delta_due) (delta_now w take t x)) v.delta ≡ delta_now w take t x
  delta-arrives take r few = then_some-carried (is_due take t.delta_due) (delta_now w take t x) v.delta
      (λ e. let s = is_due-false take t.delta_due e in rw s.0 (r.delta (omega (arith, s.1))))

  -- with nothing changed and nothing due, the last step is one of the delta too
  value-onward : (take : Bool) → Near w n j v t → j ≤ n → t.due ≡ 0 → take ≡ false → off_pattern w t.last t.delta x ≡ false →
      (d : ℕ) → d ≡ delta_now w take t x → sum w (steps (sum w) v.last v.delta (suc j - 1)) d ≡ x
  value-onward take r few z ht ho d e =
      let k : (v.delta ≡ t.delta) × (t.last ≡ steps (sum w) v.last v.delta j) = r.value (omega arith) in
      let one : suc j - 1 ≡ j = omega arith in
      let f : d ≡ v.delta = e ∙ rw ht (sym k.0) in
      rw (one, f) (sym (steps-onward w v.last j v.delta t.last x small fits k.1
      (off_pattern-false w t.last t.delta x ho ∙ sym k.0)))

  -- the value that the decompressor comes to by a CU or CR
  pub value-arrives : (off take : Bool) → Near w n j v t → j ≤ n → off_pattern w t.last t.delta x ≡ off
      → (take ≡ true → off ≡ true) →
      moved_on (sum w) (suc j) v.last v.delta (then_some (is_due take t.delta_due) (delta_now w take t x))
      (then_some (is_due off t.due) x) ≡ x
  unfolding moved_on
  value-arrives off take r few ho ht = then_some-carried (is_due off t.due) x
      (sum w (steps (sum w) v.last v.delta (suc j - 1))
      (unwrap_or (then_some (is_due take t.delta_due) (delta_now w take t x)) v.delta))
      (λ e. let s = is_due-false off t.due e in
      value-onward take r few s.1 (not_taken off take ht s.0) (ho ∙ s.0) _ (delta-arrives take r few))

-- with nothing lost
pub near-now : (w n : ℕ) (v : Seen) (t : Track) → v.last ≡ t.last → v.delta ≡ t.delta → Near w n 0 v t
near-now w n v t a b = record { delta = λ k. b; value = λ k. (b, sym a) }

---- A delta of 0

sum-still : (w a : ℕ) → a < 2 ^ w → sum w a 0 ≡ a
unfolding sum
sum-still w a h = rw add-zero (mod-eq_of_lt h)

steps-still : (w a g : ℕ) → a < 2 ^ w → steps (sum w) a 0 g ≡ a
steps-still w a zero h = refl
steps-still w a (suc g) h = rw (steps-still w a g h) (sum-still w a h)

-- a field of which nothing came stays where it was, over any gap
pub moved_on-still : (w g last : ℕ) → last < 2 ^ w → moved_on (sum w) g last 0 None None ≡ last
unfolding moved_on
moved_on-still w g last h = rw (steps-still w last (g - 1) h) (sum-still w last h)
