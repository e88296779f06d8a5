-- Iarwennol. What a step is by cases. Assumes nothing.
-- Used by the proofs of the steps.
use Rattle.std.specs.Prelude.{◌≡◌, refl, ℕ, Bool, true, false, cond, not, ◌&&◌, eqb, Option, Some, None, Err}
use Rattle.std.proofs.Common.{sym, ap, ◌∙◌}
use Rattle.std.proofs.Math.Bool.{true≢false, false≢true}
use Rattle.std.proofs.lemmas.Option.{none-some}
use Rattle.std.specs.Prelude.{unwrap_or}
use Rattle.codes.specs.Reading.{Reading, refused, said}
use Rattle.codes.specs.declared.cursor.Unreadable.{Unreadable}
use Rattle.codes.specs.declared.cursor.Unreadable.TheVariants.{Cut, UnusedCode}
use Rattle.packet.specs.Refusal.{number_of, refusal_of}
use Rattle.fields.specs.declared.place.Place.{Place}
use Rattle.fields.specs.declared.place.Got.{Got}
use Rattle.fields.specs.Place.{passed, stopped}
use Rattle.fields.specs.Next.{taken, formed}

pub taken_refused : {A B : Type 0} (of : ℕ → A) (value : B → ℕ) (at : ℕ) (why : Unreadable)
    → passed (stopped at (number_of (refusal_of why))) ≡ taken of at (said value (Err why))
taken_refused of value at Cut = refl
taken_refused of value at UnusedCode = refl

-- a step over what a reader answered, where it is wanted and nothing before it was refused
abbrev stepping : Bool → (p : Place) → Reading → Got ℕ
stepping b p r = cond b (taken (λ v. v) p.cursor.at r) (passed p)

some-same : (a b : ℕ) → Some a ≡ Some b → a ≡ b
some-same a b e = ap (λ (o : Option ℕ). unwrap_or o 0) e

-- where the form of what was read is judged too
module _ (ok : ℕ → Bool) (p : Place) (r : Reading) where
  there_is : (b z : Bool) (v : ℕ) → eqb r.number 0 ≡ z → (stepping b p r).field ≡ Some v
      → (b ≡ true) × (z ≡ true) × (r.value ≡ v)
  there_is true true v e h = (refl, refl, some-same r.value v (rw e at h))
  there_is true false v e h = absurd (none-some v (rw e at h))
  there_is false z v e h = absurd (none-some v h)

  formed_ok : eqb r.number 0 ≡ true → ok r.value ≡ true → formed ok r ≡ r
  formed_ok e h = rw (e, h)

  formed_not : eqb r.number 0 ≡ true → ok r.value ≡ false → formed ok r ≡ refused 5
  formed_not e h = rw (e, h)

  formed_cut : eqb r.number 0 ≡ false → formed ok r ≡ r
  formed_cut e = rw e

  pub formed_refused : (b : Bool) (v : ℕ) → (stepping b p r).field ≡ Some v → ok v ≡ false
      → passed (stopped p.cursor.at 5) ≡ stepping b p (formed ok r)
  formed_refused b v h e =
      let t = there_is b (eqb r.number 0) v refl h in
      rw t.0 (ap (stepping true p) (sym (formed_not t.1 (ap ok t.2 ∙ e))))

  pub formed_same : (b : Bool) (v : ℕ) → (stepping b p r).field ≡ Some v → ok v ≡ true
      → stepping b p r ≡ stepping b p (formed ok r)
  formed_same b v h e =
      let t = there_is b (eqb r.number 0) v refl h in
      ap (stepping b p) (sym (formed_ok t.1 (ap ok t.2 ∙ e)))

  none_by : (b z : Bool) → eqb r.number 0 ≡ z → (stepping b p r).field ≡ None → stepping b p r ≡ stepping b p (formed ok r)
  none_by true true e h = absurd (none-some r.value (sym (rw e at h)))
  none_by true false e h = ap (stepping true p) (sym (formed_cut e))
  none_by false z e h = refl

  pub formed_none : (b : Bool) → (stepping b p r).field ≡ None → stepping b p r ≡ stepping b p (formed ok r)
  formed_none b h = none_by b (eqb r.number 0) refl h

-- a test before a reading that is wanted, where it is passed or the reading was refused before
pub tested_same : (p : Place) (b h : Bool) (x y : Reading) → (b && not h) ≡ false
    → stepping (b && true) p x ≡ stepping (b && true) p (cond h x y)
tested_same p true true x y e = refl
tested_same p true false x y e = absurd (true≢false e)
tested_same p false h x y e = refl

pub tested_cut : (p : Place) (b h : Bool) (x : Reading) (n : ℕ) → (b && not h) ≡ true
    → stepping true p (refused n) ≡ stepping (b && true) p (cond h x (refused n))
tested_cut p true true x n e = absurd (false≢true e)
tested_cut p true false x n e = refl
tested_cut p false h x n e = absurd (false≢true e)
