-- Iarwennol. Laws of loops that go over planes by an index. Assume nothing.
-- Used by no proof of this repository: its loops go over slices and places by themselves. They hold of any that count.
use Rattle.std.specs.Prelude.{ℕ, ◌+◌, ◌*◌, ◌<◌, ◌≤◌, ◌≡◌, Bool, ◌&&◌, List, [], ◌∷◌, ◌++◌, length, get_or, set, take, drop}
use Rattle.std.specs.Prelude.{suc, replicate}
use Rattle.std.proofs.Common.{sym, ap, ◌∙◌, add-one, arith, drop_of_length-le, drop-cons, take-suc-set, take_all}
use Rattle.std.proofs.lemmas.List.{replicate-append-replicate}
use Rattle.planes.specs.Planes.{every, replaced}

---- a test at every place

-- one more place
pub every_more : (f : ℕ → Bool) (i : ℕ) (ok : Bool) → ok ≡ every f i → (ok && f i) ≡ every f (i + 1)
every_more f i ok h = rw (add-one, h)

-- past the last
pub every-done : (f : ℕ → Bool) (i n : ℕ) (ok : Bool) → ok ≡ every f i → i ≤ n → n ≤ i → ok ≡ every f n
every-done f i n ok h a b = let e : i ≡ n = omega arith in h ∙ ap (every f) e

---- a row put plane by plane

pub replaced-step : (l r : List ℕ) (i f : ℕ) → f < length r
    → replaced l i f (drop f r) ≡ replaced (set l (64 * f + i) (get_or r f 0)) i (f + 1) (drop (f + 1) r)
replaced-step l r i f h = rw (add-one, drop-cons r f 0 h)

pub replaced-end : (l r : List ℕ) (i f : ℕ) → length r ≤ f → replaced l i f (drop f r) ≡ l
replaced-end l r i f h = rw (drop_of_length-le r h)

---- numbers cleared one by one

suc-is : (k : ℕ) → suc k ≡ k + 1
suc-is k = omega arith

pub clear-more : (l : List ℕ) (i : ℕ) → i < length l → take i l ≡ replicate i 0 → take (i + 1) (set l i 0) ≡ replicate (i + 1) 0
clear-more l i h e =
    ap (λ (k : ℕ). take k (set l i 0)) (sym (suc-is i)) ∙ take-suc-set l i 0 h ∙ ap (λ (r : List ℕ). r ++ (0 ∷ [])) e
    ∙ replicate-append-replicate i 1 0

pub clear-done : (l : List ℕ) (i n : ℕ) → length l ≡ n → n ≤ i → take i l ≡ replicate i 0 → i ≤ n → l ≡ replicate n 0
clear-done l i n s h e g =
    let q : i ≡ n = omega arith in sym (take_all i l (omega (arith, s))) ∙ e ∙ ap (λ (k : ℕ). replicate k 0) q
