-- Iarwennol. Arrays and slices as the proofs meet them. Assumes nothing.
-- Used by the loops over the contexts of a table, where one of its contexts is replaced, and where the rest of a packet is
-- handed on.
use Prim.Native.Nat.{ℕ, zero, suc, ◌-◌}
use mathlib.Core.Path.{◌≡◌, refl, sym, ap, ◌∙◌}
use mathlib.Core.List.{List, [], ◌∷◌, map}
use native.Mathlib.Omega.{arith}
use lib.ListN.{length, get_or, set, take, drop, length-map, length-drop}
use lib.Seq.{take_all}

-- the length of an array of structs, which the prover knows of its encoded elements
pub length-mapped : (X Y : Type 0) (f : X → Y) (l : List X) (n : ℕ) → length (map f l) ≡ n → length l ≡ n
length-mapped X Y f l n e = sym (length-map l f) ∙ e

-- the part of a slice from a place to its end
pub part-rest : (l : List ℕ) (a : ℕ) → take (length l - a) (drop a l) ≡ drop a l
part-rest l a = take_all (length l - a) (drop a l) (omega (arith, length-drop a l))

-- what holds of the element at place i, or of d past the end, holds still when the one at place k is replaced, if it holds of the
-- new one where i is k
pub set_keeps : {A : Type 0} (P : A → Type 0) (l : List A) (k i : ℕ) (y d : A) → (i ≡ k → P y) → P (get_or l i d)
    → P (get_or (set l k y) i d)
set_keeps P [] k i y d new before = before
set_keeps P (x ∷ xs) zero zero y d new before = new refl
set_keeps P (x ∷ xs) zero (suc i) y d new before = before
set_keeps P (x ∷ xs) (suc k) zero y d new before = before
set_keeps P (x ∷ xs) (suc k) (suc i) y d new before = set_keeps P xs k i y d (λ e. new (ap suc e)) before
