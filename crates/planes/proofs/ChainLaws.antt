-- Iarwennol. Chains of && over the same tests are equal, whatever their order and nesting: it is decided by their leaves. A test
-- that another implies adds nothing to it. Assume nothing.
-- Used where a walk makes the tests of one place in another order than the definition of soundness.
use Rattle.std.specs.Prelude.{ℕ, zero, suc, ◌≡◌, refl, Bool, true, false, not, ◌&&◌, ◌||◌, eqb, leb}
use Rattle.std.proofs.Common.{sym, arith, eqb-true, ne_eqb}
use Rattle.std.proofs.Math.Bool.{and-eq-true_iff}
use Rattle.std.proofs.lemmas.Bool.{lt-leb}

pub data Chain : Type 0 where
  none : Chain
  leaf : ℕ → Chain
  both : Chain → Chain → Chain

-- the chain, with its tests
abbrev pub eval : (ℕ → Bool) → Chain → Bool
eval f none = true
eval f (leaf n) = f n
eval f (both a b) = eval f a && eval f b

abbrev has : ℕ → Chain → Bool
has n none = false
has n (leaf m) = eqb n m
has n (both a b) = has n a || has n b

-- whether every leaf of the one is a leaf of the other
abbrev pub within : Chain → Chain → Bool
within none t = true
within (leaf n) t = has n t
within (both a b) t = within a t && within b t

or-by : (a b : Bool) → (a || b) ≡ true → (P : Type 0) → (a ≡ true → P) → (b ≡ true → P) → P
or-by true b e P p q = p refl
or-by false b e P p q = q e

found : (f : ℕ → Bool) (n : ℕ) (t : Chain) → has n t ≡ true → eval f t ≡ true → f n ≡ true
found f n none h e = cc
found f n (leaf m) h e = rw (eqb-true n m h) e
found f n (both a b) h e =
    let p = (and-eq-true_iff (eval f a) (eval f b)).0 e in
    or-by (has n a) (has n b) h (f n ≡ true) (λ x. found f n a x p.0) (λ x. found f n b x p.1)

pub implied : (f : ℕ → Bool) (s t : Chain) → within s t ≡ true → eval f t ≡ true → eval f s ≡ true
implied f none t h e = refl
implied f (leaf n) t h e = found f n t h e
implied f (both a b) t h e =
    let p = (and-eq-true_iff (within a t) (within b t)).0 h in
    rw (implied f a t p.0 e, implied f b t p.1 e)

-- two tests that imply each other
pub ext : (a b : Bool) → (a ≡ true → b ≡ true) → (b ≡ true → a ≡ true) → a ≡ b
ext true b p q = sym (p refl)
ext false true p q = q refl
ext false false p q = refl

pub same : (f : ℕ → Bool) (s t : Chain) → within s t ≡ true → within t s ≡ true → eval f s ≡ eval f t
same f s t h k = ext (eval f s) (eval f t) (implied f t s k) (implied f s t h)

---- A test that another implies

pub absorbed : (r z : Bool) → (z ≡ true → r ≡ true) → (r && z) ≡ z
absorbed true z h = refl
absorbed false true h = h refl
absorbed false false h = refl

pub absorbed' : (z r : Bool) → (z ≡ true → r ≡ true) → (z && r) ≡ z
absorbed' true r h = h refl
absorbed' false r h = refl

pub under : (a b c : Bool) → (a ≡ true → b ≡ c) → (a && b) ≡ (a && c)
under true b c h = h refl
under false b c h = refl

-- a number that is a bool and not true is 0
pub one-zero : (x : ℕ) → (leb x 1 && not (eqb x 1)) ≡ eqb x 0
one-zero zero = refl
one-zero (suc zero) = refl
one-zero (suc (suc x)) =
    rw (lt-leb (suc (suc x)) 1 (omega arith), ne_eqb (suc (suc x)) 0 (λ e. omega (arith, e)))
