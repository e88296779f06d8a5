-- Iarwennol. Laws of planes: a row that is replaced is read back, and no other changes. Assume nothing.
-- Used by the reading and writing of contexts.
use Rattle.std.specs.Prelude.{ℕ, zero, suc, ◌+◌, ◌*◌, ◌<◌, ◌≤◌, ◌≢◌, ◌≡◌, refl, List, [], ◌∷◌, length, get_or, set}
use Rattle.std.specs.Prelude.{◌++◌, drop, replicate}
use Rattle.std.proofs.Common.{sym, ap, ◌∙◌, add-zero, zero-add, arith, length-set, drop_of_length-le, drop-cons}
use Rattle.std.proofs.Common.{get_or-set_same, get_or-set_other, set-set}
use Rattle.std.proofs.lemmas.List.{set-get_or, set_comm}
use Rattle.planes.specs.Planes.{row, replaced, places}

pub length-replaced : {A : Type 0} (vs l : List A) (i f : ℕ) → length (replaced l i f vs) ≡ length l
length-replaced [] l i f = refl
length-replaced (v ∷ vs) l i f = length-replaced vs (set l (64 * f + i) v) i (suc f) ∙ length-set l (64 * f + i) v

-- a row in two parts, one after the other
pub replaced_append : {A : Type 0} (vs ws l : List A) (i f g : ℕ) → g ≡ f + length vs
    → replaced (replaced l i f vs) i g ws ≡ replaced l i f (vs ++ ws)
replaced_append [] ws l i f g e = ap (λ (x : ℕ). replaced l i x ws) (e ∙ add-zero f)
replaced_append (v ∷ vs) ws l i f g e = replaced_append vs ws (set l (64 * f + i) v) i (suc f) g (omega (arith, e))

---- another row

row-set : (l : List ℕ) (i f v j g n : ℕ) → i < 64 → j < 64 → j ≢ i → row (set l (64 * f + i) v) j g n ≡ row l j g n
row-set l i f v j g zero a b h = refl
row-set l i f v j g (suc n) a b h =
    rw (get_or-set_other l (64 * f + i) (64 * g + j) v 0 (λ e. h (omega arith)), row-set l i f v j (suc g) n a b h)

pub row_other : (vs l : List ℕ) (i f j g n : ℕ) → i < 64 → j < 64 → j ≢ i → row (replaced l i f vs) j g n ≡ row l j g n
row_other [] l i f j g n a b h = refl
row_other (v ∷ vs) l i f j g n a b h =
    row_other vs (set l (64 * f + i) v) i (suc f) j g n a b h ∙ row-set l i f v j g n a b h

---- the same row

-- a number before the planes that are written
get_d-before : (vs l : List ℕ) (i f x : ℕ) → x < 64 * f → get_or (replaced l i f vs) x 0 ≡ get_or l x 0
get_d-before [] l i f x h = refl
get_d-before (v ∷ vs) l i f x h =
    get_d-before vs (set l (64 * f + i) v) i (suc f) x (omega arith) ∙ get_or-set_other l (64 * f + i) x v 0 (λ e. omega arith)

-- a number past them
pub get_d_past : (vs l : List ℕ) (i f x : ℕ) → i < 64 → 64 * (f + length vs) ≤ x → get_or (replaced l i f vs) x 0 ≡ get_or l x 0
get_d_past [] l i f x a h = refl
get_d_past (v ∷ vs) l i f x a h =
    get_d_past vs (set l (64 * f + i) v) i (suc f) x a (omega arith) ∙ get_or-set_other l (64 * f + i) x v 0 (λ e. omega arith)

pub row_same : (vs l : List ℕ) (i f : ℕ) → i < 64 → 64 * (f + length vs) ≤ length l → row (replaced l i f vs) i f (length vs) ≡ vs
row_same [] l i f a h = refl
row_same (v ∷ vs) l i f a h = rw (
  get_d-before vs (set l (64 * f + i) v) i (suc f) (64 * f + i) (omega arith),
  get_or-set_same l (64 * f + i) v 0 (omega arith),
  row_same vs (set l (64 * f + i) v) i (suc f) a (omega (arith, length-set l (64 * f + i) v)),
)

-- a row that is replaced by itself
pub replaced-row : (l : List ℕ) (i f n : ℕ) → replaced l i f (row l i f n) ≡ l
replaced-row l i f zero = refl
replaced-row l i f (suc n) =
    ap (λ (k : List ℕ). replaced k i (suc f) (row l i (suc f) n)) (set-get_or l (64 * f + i) 0) ∙ replaced-row l i (suc f) n

---- one number of a row written

-- a number before the planes that are written can be written first
set_before : (vs l : List ℕ) (i f x v : ℕ) → x < 64 * f → set (replaced l i f vs) x v ≡ replaced (set l x v) i f vs
set_before [] l i f x v h = refl
set_before (u ∷ vs) l i f x v h =
    set_before vs (set l (64 * f + i) u) i (suc f) x v (omega arith)
    ∙ ap (λ (k : List ℕ). replaced k i (suc f) vs) (set_comm l (64 * f + i) x u v (λ e. omega arith))

-- a row with another number in plane f + g
replaced-set : (vs l : List ℕ) (i f g v : ℕ) → i < 64 → g < length vs
    → set (replaced l i f vs) (64 * (f + g) + i) v ≡ replaced l i f (set vs g v)
replaced-set [] l i f g v a h = absurd (omega arith)
replaced-set (u ∷ vs) l i f zero v a h =
    ap (λ (x : ℕ). set (replaced (set l (64 * f + i) u) i (suc f) vs) (64 * x + i) v) (add-zero f)
    ∙ set_before vs (set l (64 * f + i) u) i (suc f) (64 * f + i) v (omega arith)
    ∙ ap (λ (k : List ℕ). replaced k i (suc f) vs) (set-set l (64 * f + i) u v)
replaced-set (u ∷ vs) l i f (suc g) v a h =
    ap (λ (x : ℕ). set (replaced (set l (64 * f + i) u) i (suc f) vs) (64 * x + i) v) (add-suc f g)
    ∙ replaced-set vs (set l (64 * f + i) u) i (suc f) g v a (omega arith)
  where
    add-suc : (f g : ℕ) → f + suc g ≡ suc f + g
    add-suc f g = omega arith

-- the same of a list that is known to be one with a row replaced
pub set-replaced : (k l vs : List ℕ) (i f v : ℕ) → k ≡ replaced l i 0 vs → i < 64 → f < length vs
    → set k (64 * (0 + f) + i) v ≡ replaced l i 0 (set vs f v)
set-replaced k l vs i f v e s h = ap (λ (x : List ℕ). set x (64 * (0 + f) + i) v) e ∙ replaced-set vs l i 0 f v s h

---- nothing but zeros

pub get_d-zeros : (n x : ℕ) → ◌≡◌ {A = ℕ} (get_or (replicate n 0) x 0) 0
get_d-zeros zero x = refl
get_d-zeros (suc n) zero = refl
get_d-zeros (suc n) (suc x) = get_d-zeros n x

pub row-zeros : (l : List ℕ) (i f n : ℕ) → i < 64 → ((x : ℕ) → x < 64 * (f + n) → get_or l x 0 ≡ 0) → row l i f n ≡ replicate n 0
row-zeros l i f zero a h = refl
row-zeros l i f (suc n) a h =
    (λ j. h (64 * f + i) (omega arith) j ∷ row-zeros l i (suc f) n a (λ x b. h x (omega arith)) j)

---- places

pub places-at : {A : Type 0} (f : ℕ → A) (i n k : ℕ) (d : A) → k < n → get_or (places f i n) k d ≡ f (i + k)
places-at f i zero k d h = absurd (omega arith)
places-at f i (suc n) zero d h = rw (add-zero i) refl
places-at f i (suc n) (suc k) d h = places-at f (suc i) n k d (omega arith) ∙ ap f (omega arith)

-- in a table of places' numbers, each place has its own
pub numbers-at : (l : List ℕ) (n i : ℕ) → l ≡ places (λ (x : ℕ). x) 0 n → i < n → get_or l i 0 ≡ i
numbers-at l n i e h = ap (λ (l : List ℕ). get_or l i 0) e ∙ places-at (λ (x : ℕ). x) 0 n i 0 h ∙ zero-add i

pub places_same : {A : Type 0} (f g : ℕ → A) (i n : ℕ) → ((j : ℕ) → i ≤ j → j < i + n → g j ≡ f j) → places g i n ≡ places f i n
places_same f g i zero h = refl
places_same f g i (suc n) h =
    rw (h i (omega arith) (omega arith), places_same f g (suc i) n (λ j a b. h j (omega arith) (omega arith)))

-- another value at one place
pub places-set : {A : Type 0} (f g : ℕ → A) (i n k : ℕ) (c : A) → k < n → g (i + k) ≡ c
    → ((j : ℕ) → i ≤ j → j < i + n → j ≢ i + k → g j ≡ f j) → places g i n ≡ set (places f i n) k c
places-set f g i zero k c s e h = absurd (omega arith)
places-set f g i (suc n) zero c s e h = rw (
  ap g (sym (add-zero i)) ∙ e,
  places_same f g (suc i) n (λ j a b. h j (omega arith) (omega arith) (λ q. omega arith)),
)
places-set f g i (suc n) (suc k) c s e h = rw (
  h i (omega arith) (omega arith) (λ q. omega arith),
  places-set f g (suc i) n k c (omega arith) (ap g (omega arith) ∙ e)
      (λ j a b q. h j (omega arith) (omega arith) (λ r. q (omega arith))),
)

-- the same value at every place
pub places-replicate : {A : Type 0} (f : ℕ → A) (c : A) (i n : ℕ) → ((j : ℕ) → j < i + n → f j ≡ c) → places f i n ≡ replicate n c
places-replicate f c i zero h = refl
places-replicate f c i (suc n) h =
    (λ j. h i (omega arith) j ∷ places-replicate f c (suc i) n (λ k b. h k (omega arith)) j)

pub length-places : {A : Type 0} (f : ℕ → A) (i n : ℕ) → length (places f i n) ≡ n
length-places f i zero = refl
length-places f i (suc n) = ap suc (length-places f (suc i) n)

-- a list's end, number by number
pub drop-places : (l : List ℕ) (p n : ℕ) → p + n ≡ length l → drop p l ≡ places (λ k. get_or l k 0) p n
drop-places l p zero h = drop_of_length-le l {i = p} (omega arith)
drop-places l p (suc n) h = rw (drop-cons l p 0 (omega arith), drop-places l (suc p) n (omega arith))
