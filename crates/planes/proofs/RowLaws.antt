-- Iarwennol. Laws of an array that is made of what a closure gives at each index. Assume nothing.
-- Used by the reading of a row.
use Rattle.std.specs.Prelude.{ℕ, zero, suc, ◌+◌, ◌≡◌, List, ◌∷◌, length, drop}
use Rattle.std.proofs.Common.{subst, ap, ◌∙◌, arith, add-zero, zero-add, sym, drop_of_length-le, drop-cons}
use Rattle.std.specs.Array.{IsFromFnResult, IsFromFnResultFrom}
use denote.Param.Members.{Mut, Called}
use Rattle.planes.specs.Planes.{places}

-- f: a closure that a call leaves as it is, and that gives at x what h has at j + x
module _ {F A : Type 0} (g : Mut F (ℕ × Unit {0}) A) (f : F) (h : ℕ → A) (j : ℕ)
    (says : (x : ℕ) (y : A) (q : F) → Called g f (x, tt) y q → (q ≡ f) × (y ≡ h (j + x))) where
  made-from : (ys : List A) (i n : ℕ) → length ys ≡ i + n → IsFromFnResultFrom g f ys i n → drop i ys ≡ places h (j + i) n
  made-from ys i zero e c = drop_of_length-le ys {i = i} (omega (arith, e))
  made-from ys i (suc n) e (q, y, is, called, rest) =
      let s = says i y q called in
      let rest' = subst (λ (z : F). IsFromFnResultFrom g z ys (i + 1) n) s.0 rest in
      let one : suc i ≡ i + 1 = omega arith in
      let on : j + (i + 1) ≡ suc (j + i) = omega arith in
      let after : drop (suc i) ys ≡ places h (suc (j + i)) n =
      ap (λ (x : ℕ). drop x ys) one ∙ made-from ys (i + 1) n (omega (arith, e)) rest' ∙ ap (λ (x : ℕ). places h x n) on in
      drop-cons ys i y (omega (arith, e)) ∙ (λ k. (is.0 ∙ s.1) k ∷ after k)

  pub made-places : (ys : List A) (n : ℕ) → IsFromFnResult g f ys n → ys ≡ places h j n
  made-places ys n c = made-from ys 0 n (c.long ∙ sym (zero-add n)) c.each ∙ ap (λ (x : ℕ). places h x n) (add-zero j)
