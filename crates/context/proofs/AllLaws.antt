-- Iarwennol. Laws of a test over a list: one for each turn of a loop that goes over it from the front, and one for each way
-- to look into a list or to change it. Assume nothing.
-- Used by the loop over a CSRC list, by the loops over the contexts of a table, and by the laws of the tables.
use Prim.Native.Nat.{ℕ, zero, suc, ◌+◌, ◌≤◌, ◌<◌}
use mathlib.Core.Path.{◌≡◌, refl}
use mathlib.Core.Bool.{Bool, true, ◌&&◌, and-true, and_assoc, and-eq-true_iff}
use mathlib.Core.List.{List, [], ◌∷◌}
use native.Mathlib.Numerals.{add-one}
use native.Mathlib.Omega.{arith}
use lib.ListN.{length, get_or, set, drop, replicate, drop_of_length-le}
use lib.Seq.{drop-cons}
use Rattle.context.specs.All.{all}

---- all

module _ {A : Type 0} (f : A → Bool) (l : List A) (i : ℕ) (ok : Bool) where
  -- one place further
  pub all_drop : (d : A) → i < length l → (ok && all f (drop i l)) ≡ (ok && f (get_or l i d) && all f (drop (i + 1) l))
  all_drop d h = rw (add-one, drop-cons l i d, and_assoc)

  -- past the last
  pub all_end : length l ≤ i → (ok && all f (drop i l)) ≡ ok
  all_end h = rw (drop_of_length-le, and-true)

module _ {A : Type 0} (f : A → Bool) where
  -- an index past the end gives d
  pub all_get_d : (l : List A) (i : ℕ) (d : A) → f d ≡ true → all f l ≡ true → f (get_or l i d) ≡ true
  all_get_d [] i d h e = h
  all_get_d (x ∷ xs) zero d h e = ((and-eq-true_iff (f x) (all f xs)).0 e).0
  all_get_d (x ∷ xs) (suc i) d h e = all_get_d xs i d h ((and-eq-true_iff (f x) (all f xs)).0 e).1

  -- an index within the list never does
  pub all-at : (l : List A) (i : ℕ) (d : A) → i < length l → all f l ≡ true → f (get_or l i d) ≡ true
  all-at [] i d h e = absurd (omega arith)
  all-at (x ∷ xs) zero d h e = ((and-eq-true_iff (f x) (all f xs)).0 e).0
  all-at (x ∷ xs) (suc i) d h e = all-at xs i d (omega arith) ((and-eq-true_iff (f x) (all f xs)).0 e).1

  pub all_set : (l : List A) (i : ℕ) (y : A) → f y ≡ true → all f l ≡ true → all f (set l i y) ≡ true
  all_set [] i y h e = refl
  all_set (x ∷ xs) zero y h e = rw h ((and-eq-true_iff (f x) (all f xs)).0 e).1
  all_set (x ∷ xs) (suc i) y h e =
      let p = (and-eq-true_iff (f x) (all f xs)).0 e in
      rw p.0 (all_set xs i y h p.1)

  pub all_replicate : (n : ℕ) (x : A) → f x ≡ true → all f (replicate n x) ≡ true
  all_replicate zero x h = refl
  all_replicate (suc n) x h = rw h (all_replicate n x h)

  pub all-dropped : (n : ℕ) (l : List A) → all f l ≡ true → all f (drop n l) ≡ true
  all-dropped zero l e = e
  all-dropped (suc n) [] e = refl
  all-dropped (suc n) (x ∷ xs) e = all-dropped n xs ((and-eq-true_iff (f x) (all f xs)).0 e).1
