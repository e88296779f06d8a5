-- Iarwennol. Laws of a test that every place passes. Assume nothing.
-- Used by the walks over a table: planes first or places first, and what a test of all places says of one.
use Rattle.std.specs.Prelude.{ℕ, zero, suc, ◌+◌, ◌<◌, ◌≡◌, refl, Bool, true, false, ◌&&◌, ◌||◌, eqb, ltb, List, drop}
use Rattle.std.proofs.Common.{sym, ◌∙◌, ap, add-zero, arith, eqb-true, lt-ltb, le-ltb, ltb-true, ltb-false}
use Rattle.std.proofs.Math.Bool.{or-true, and-true, and_assoc, and-eq-true_iff}
use Rattle.std.proofs.lemmas.Bool.{eqb-false}
use Rattle.context.specs.All.{all}
use Rattle.planes.specs.Planes.{every, places, cell, past_at}

---- two tests

and-swap : (a b c d : Bool) → (a && b && (c && d)) ≡ (a && c && (b && d))
and-swap true true c d = refl
and-swap true false true d = refl
and-swap true false false d = refl
and-swap false b c d = refl

pub every-and : (f g : ℕ → Bool) (n : ℕ) → every (λ (i : ℕ). f i && g i) n ≡ (every f n && every g n)
every-and f g zero = refl
every-and f g (suc n) = rw (every-and f g n) (and-swap (every f n) (every g n) (f n) (g n))

pub every-same : (f g : ℕ → Bool) (n : ℕ) → ((i : ℕ) → i < n → f i ≡ g i) → every f n ≡ every g n
every-same f g zero h = refl
every-same f g (suc n) h = rw (every-same f g n (λ i a. h i (omega arith)), h n (omega arith))

pub every_true : (n : ℕ) → every (λ (i : ℕ). true) n ≡ true
every_true zero = refl
every_true (suc n) = rw (every_true n)

pub every-swap : (f : ℕ → ℕ → Bool) (n m : ℕ)
    → every (λ (a : ℕ). every (f a) m) n ≡ every (λ (b : ℕ). every (λ (a : ℕ). f a b) n) m
every-swap f zero m = sym (every_true m)
every-swap f (suc n) m = rw (every-swap f n m) (sym (every-and (λ (b : ℕ). every (λ (a : ℕ). f a b) n) (f n) m))

---- one place

pub every-at : (f : ℕ → Bool) (n i : ℕ) → i < n → every f n ≡ true → f i ≡ true
every-at f zero i h e = absurd (omega arith)
every-at f (suc n) i h e = go (eqb i n) refl (every-at f n i)
  where
    go : (b : Bool) → eqb i n ≡ b → (i < n → every f n ≡ true → f i ≡ true) → f i ≡ true
    go true q ih = rw (eqb-true i n q) ((and-eq-true_iff (every f n) (f n)).0 e).1
    go false q ih = ih (omega (arith, eqb-false i n q)) ((and-eq-true_iff (every f n) (f n)).0 e).0

-- tests that agree where a third is passed, at places that all pass it
pub every_given : (u f g : ℕ → Bool) (n : ℕ) → every u n ≡ true → ((i : ℕ) → u i ≡ true → f i ≡ g i) → every f n ≡ every g n
every_given u f g n e h = every-same f g n (λ i a. h i (every-at u n i a e))

pub passed : (u z : Bool) → u ≡ true → (u || z) ≡ true
passed u z e = rw e

-- holds of every place when it holds of each
pub every_made : (f : ℕ → Bool) (n : ℕ) → ((i : ℕ) → i < n → f i ≡ true) → every f n ≡ true
every_made f zero h = refl
every_made f (suc n) h = rw (every_made f n (λ i a. h i (omega arith)), h n (omega arith))

---- a plane without words

pub free-past : (f c : ℕ) (w b : List ℕ) (k : ℕ) → every (λ (i : ℕ). eqb (cell w (f + k) i) 0) 64 ≡ true
    → true ≡ every (past_at f c w b k) 64
free-past f c w b k e = sym (every_made (past_at f c w b k) 64 (λ i h. rw (
  every-at (λ (i : ℕ). eqb (cell w (f + k) i) 0) 64 i h e,
  or-true (ltb k (cell b c i)),
)))

---- a list of what a function gives at places

-- the first place apart
pub every_front : (f : ℕ → Bool) (n : ℕ) → every f (suc n) ≡ (f 0 && every (λ (i : ℕ). f (suc i)) n)
every_front f zero = rw (and-true (f 0))
every_front f (suc n) = ap (λ (b : Bool). b && f (suc n)) (every_front f n)
    ∙ and_assoc (f 0) (every (λ (i : ℕ). f (suc i)) n) (f (suc n))

ltb-suc : (k c : ℕ) → ltb k c ≡ ltb (suc k) (suc c)
ltb-suc k c = go (ltb k c) refl
  where
    go : (b : Bool) → ltb k c ≡ b → b ≡ ltb (suc k) (suc c)
    go true e = sym (lt-ltb (suc k) (suc c) (omega (arith, ltb-true k c e)))
    go false e = sym (le-ltb (suc k) (suc c) (omega (arith, ltb-false k c e)))

module _ {A : Type 0} (p : A → Bool) where
  pub all-places : (f : ℕ → A) (i n : ℕ) → all p (places f i n) ≡ every (λ (k : ℕ). p (f (i + k))) n
  all-places f i zero = refl
  all-places f i (suc n) =
      (λ j. p (f (sym (add-zero i) j)) && all-places f (suc i) n j)
      ∙ ap (λ (b : Bool). p (f (i + 0)) && b)
      (every-same (λ (k : ℕ). p (f (suc i + k))) (λ (k : ℕ). p (f (i + suc k))) n
      (λ k h. ap (λ (x : ℕ). p (f x)) (omega arith)))
      ∙ sym (every_front (λ (k : ℕ). p (f (i + k))) n)

  -- the places from c on
  pub tail-places : (c : ℕ) (f : ℕ → A) (i n : ℕ) → all p (drop c (places f i n)) ≡ every (λ (k : ℕ). ltb k c || p (f (i + k))) n
  tail-places zero f i n = all-places f i n
      ∙ every-same (λ (k : ℕ). p (f (i + k))) (λ (k : ℕ). ltb k 0 || p (f (i + k))) n (λ k h. rw (le-ltb k 0 (omega arith)))
  tail-places (suc c) f i zero = refl
  tail-places (suc c) f i (suc n) =
      tail-places c f (suc i) n
      ∙ every-same (λ (k : ℕ). ltb k c || p (f (suc i + k))) (λ (k : ℕ). ltb (suc k) (suc c) || p (f (i + suc k))) n
      (λ k h. ap (λ (b : Bool). b || p (f (suc i + k))) (ltb-suc k c)
      ∙ ap (λ (x : ℕ). ltb (suc k) (suc c) || p (f x)) (omega arith))
      ∙ ap (λ (b : Bool). b && every (λ (k : ℕ). ltb (suc k) (suc c) || p (f (i + suc k))) n)
      (ap (λ (b : Bool). b || p (f (i + 0))) (sym (lt-ltb 0 (suc c) (omega arith))))
      ∙ sym (every_front (λ (k : ℕ). ltb k (suc c) || p (f (i + k))) n)
