-- Iarwennol. Laws of the CSRC list. Assume nothing.
-- Used by the relation (context), where equal answers must mean equal lists.
use Rattle.std.specs.Prelude.{ℕ, ◌+◌, ◌<◌, ◌≤◌, ◌≡◌, refl, Bool, true, ◌&&◌, List, [], ◌∷◌, eqb, length, get_or, drop}
use Rattle.std.proofs.Common.{add-one, eqb-true, eq-eqb, drop_of_length-le, drop-cons}
use Rattle.std.proofs.Math.Bool.{and-true, and_assoc, and-eq-true_iff}
use Rattle.packet.specs.Csrc.{same, same_list}
use Rattle.packet.specs.declared.csrc.Csrc.{Csrc}

---- same

pub same_true : (a b : List ℕ) → same a b ≡ true → a ≡ b
same_true [] [] e = refl
same_true [] (y ∷ ys) e = cc
same_true (x ∷ xs) [] e = cc
same_true (x ∷ xs) (y ∷ ys) e =
    let t = (and-eq-true_iff (eqb x y) (same xs ys)).0 e in
    rw (eqb-true x y t.0, same_true xs ys t.1)

pub same_refl : (l : List ℕ) → same l l ≡ true
same_refl [] = refl
same_refl (x ∷ l) = rw (eq-eqb x x refl, same_refl l)

-- one place further, and past the last
module _ (a b : List ℕ) (i : ℕ) (ok : Bool) where
  pub same_drop : i < length a → i < length b
      → (ok && same (drop i a) (drop i b)) ≡ (ok && eqb (get_or a i 0) (get_or b i 0) && same (drop (i + 1) a) (drop (i + 1) b))
  same_drop h k = rw (add-one, drop-cons a i 0 h, drop-cons b i 0 k, and_assoc)

  pub same_end : length a ≤ i → length b ≤ i → (ok && same (drop i a) (drop i b)) ≡ ok
  same_end h k = rw (drop_of_length-le a h, drop_of_length-le b k, and-true)

---- same_list

pub same_list-true : (a b : Csrc) → same_list a b ≡ true → a ≡ b
unfolding same_list
same_list-true a b e =
    let t = (and-eq-true_iff (eqb a.count b.count) (same a.words b.words)).0 e in
    λ i. record { count = eqb-true a.count b.count t.0 i; words = same_true a.words b.words t.1 i }

pub same_list-refl : (l : Csrc) → same_list l l ≡ true
unfolding same_list
same_list-refl l = rw (eq-eqb l.count l.count refl, same_refl l.words)
