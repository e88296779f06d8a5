-- Iarwennol. Which packets are lost, as lists of marks: what a bound and a gap say of the run of lost ones at the end, and what
-- one packet more does to the marks. Assumes nothing.
-- Used by Linked and Earlier.
use mathlib.Core.Path.{◌≡◌, refl, sym, ap, ◌∙◌}
use mathlib.Core.Bool.{Bool, true, false, cond}
use mathlib.Core.List.{List, [], ◌∷◌, ◌++◌, append_assoc, append-nil}
use Prim.Native.Nat.{ℕ, zero, suc, ◌+◌, ◌-◌, ◌≤◌, ◌<◌}
use native.Mathlib.Omega.{arith}
use native.Mathlib.Decide.{dec_le}
use lib.ListN.{length, get_or, take, drop, replicate, replicate-append-replicate}
use lib.Seq.{slice, take-suc, length-take-le, drop-append-le, take-append-le, length-slice}
use borrow.Author.Tests.{ne_eqb, eq-eqb}
use Rattle.calls.specs.Calls.{Sent, Ends, is_on, has, lost, Bounded, Gap, losses}

---- Any marks

-- the lost ones at the end, with j before the list
abbrev pub run : ℕ → List Bool → ℕ
run j [] = j
run j (true ∷ ms) = run (suc j) ms
run j (false ∷ ms) = run 0 ms

pub run_more : (j : ℕ) (ms : List Bool) (m : Bool) → run j (ms ++ (m ∷ [])) ≡ cond m (suc (run j ms)) 0
run_more j [] true = refl
run_more j [] false = refl
run_more j (true ∷ ms) m = run_more (suc j) ms m
run_more j (false ∷ ms) m = run_more 0 ms m

slide : (j : ℕ) (ms : List Bool) → replicate j true ++ (true ∷ ms) ≡ replicate (suc j) true ++ ms
slide zero ms = refl
slide (suc j) ms = ap {B = List Bool} (λ r. true ∷ r) (slide j ms)

-- the marks are some, then that run
run-last : (j : ℕ) (ms : List Bool) → (a : List Bool) × (replicate j true ++ ms ≡ a ++ replicate (run j ms) true)
run-last j [] = ([], append-nil (replicate j true))
run-last j (true ∷ ms) = ((run-last (suc j) ms).0, slide j ms ∙ (run-last (suc j) ms).1)
run-last j (false ∷ ms) =
    let e : ms ≡ (run-last 0 ms).0 ++ replicate (run 0 ms) true = (run-last 0 ms).1 in (
      replicate j true ++ (false ∷ (run-last 0 ms).0),
      ap {B = List Bool} (λ r. replicate j true ++ (false ∷ r)) e
          ∙ sym (append_assoc (replicate j true) (false ∷ (run-last 0 ms).0) (replicate (run 0 ms) true)),
    )

pub bounded-front : (n : ℕ) (xs ys : List Bool) → Bounded n (xs ++ ys) → Bounded n xs
bounded-front n xs ys h a b e = h a (b ++ ys) (rw (e, append_assoc, append_assoc))

pub bounded-run : (n : ℕ) (ms : List Bool) → Bounded n ms → run 0 ms ≤ n
bounded-run n ms h = by (dec_le (run 0 ms) n)
  where
    long : n < run 0 ms → replicate (run 0 ms) true ≡ replicate (suc n) true ++ replicate (run 0 ms - suc n) true
    long k =
        let e : run 0 ms ≡ suc n + (run 0 ms - suc n) = omega arith in
        ap {B = List Bool} (λ r. replicate r true) e ∙ sym (replicate-append-replicate (suc n) (run 0 ms - suc n) true)

    by : Dec (run 0 ms ≤ n) → run 0 ms ≤ n
    by (yes k) = k
    by (no k) = absurd (h (run-last 0 ms).0 (replicate (run 0 ms - suc n) true)
        ((run-last 0 ms).1 ∙ ap {B = List Bool} (λ r. (run-last 0 ms).0 ++ r) (long (omega arith))))

pub run-gap : (ms : List Bool) → 1 ≤ run 0 ms → Gap ms
run-gap ms h = go (run 0 ms) refl h
  where
    go : (j : ℕ) → run 0 ms ≡ j → 1 ≤ j → Gap ms
    go zero e k = absurd (omega arith)
    go (suc j) e k = (
      (run-last 0 ms).0 ++ replicate j true,
      (run-last 0 ms).1 ∙ ap {B = List Bool} (λ r. (run-last 0 ms).0 ++ replicate r true) e
          ∙ ap {B = List Bool} (λ r. (run-last 0 ms).0 ++ r) (sym (append-nil (replicate (suc j) true)) ∙ sym (slide j []))
          ∙ sym (append_assoc (run-last 0 ms).0 (replicate j true) (true ∷ [])),
    )

---- Packets from number `from` on, before number `at`

module _ {A : Type 0} where
  pub slice-more : (d : A) (from at : ℕ) (l : List A) → from ≤ at → at < length l →
      slice from (suc at) l ≡ slice from at l ++ (get_or l at d ∷ [])
  slice-more d from at l low h =
      let k : length (take at l) ≡ at = length-take-le at l (omega arith) in
      ap {B = List A} (λ r. drop from r) (take-suc l at d h) ∙ drop-append-le from (take at l) (get_or l at d ∷ []) (omega arith)

  pub slice-grow : (from at : ℕ) (l new : List A) → at ≤ length l → slice from at (l ++ new) ≡ slice from at l
  slice-grow from at l new h = ap {B = List A} (λ r. drop from r) (take-append-le at l new h)

---- The marks of packets

pub cond-front : (on m : Bool) (xs ys : List Bool) → cond on (m ∷ (xs ++ ys)) (xs ++ ys) ≡ cond on (m ∷ xs) xs ++ ys
cond-front true m xs ys = refl
cond-front false m xs ys = refl

module _ {P L B Q F C D SA Ra : Type 0} (ε : Ends P L B Q F C D SA Ra) (c : ℕ) where
  losses-append : (gone : ℕ → Bool) (i k : ℕ) (es fs : List (Sent P L)) → i + length es ≡ k →
      losses ε c gone i (es ++ fs) ≡ losses ε c gone i es ++ losses ε c gone k fs
  losses-append gone i k [] fs h = let e : i ≡ k = omega arith in ap {B = List Bool} (λ r. losses ε c gone r fs) e
  losses-append gone i k (e ∷ es) fs h =
      rw (losses-append gone (suc i) k es fs (omega arith))
      (cond-front (is_on (ε.context e.link) c) (gone i) (losses ε c gone (suc i) es) (losses ε c gone k fs))

  -- the marks of packets before number k depend on what is gone of those alone
  pub losses-same : (x y : ℕ → Bool) (k i : ℕ) (es : List (Sent P L)) → ((m : ℕ) → m < k → x m ≡ y m) → i + length es ≤ k →
      losses ε c x i es ≡ losses ε c y i es
  losses-same x y k i [] same h = refl
  losses-same x y k i (e ∷ es) same h = rw (same i (omega arith), losses-same x y k (suc i) es same (omega arith))

  -- one packet more
  pub losses-more : (gone : ℕ → Bool) (from at : ℕ) (log : List (Sent P L)) → from ≤ at → at < length log →
      losses ε c gone from (slice from (suc at) log)
      ≡ losses ε c gone from (slice from at log) ++ cond (is_on (ε.context (get_or log at ε.nothing).link) c)
      (gone at ∷ []) []
  losses-more gone from at log low h =
      let k : length (slice from at log) ≡ at - from = length-slice from at log (omega arith) in
      ap {B = List Bool} (λ r. losses ε c gone from r) (slice-more ε.nothing from at log low h)
      ∙ losses-append gone from at (slice from at log) (get_or log at ε.nothing ∷ []) (omega arith)

---- The line after an arrival of packet i, without room (short) or with it

module _ (line : List ℕ) (i : ℕ) where
  pub line_before : (short : Bool) (m : ℕ) → m < i → lost (cond short line (i ∷ line)) m ≡ lost line m
  line_before true m h = refl
  line_before false m h = rw (ne_eqb i m (omega arith))

  module _ (below : (m : ℕ) → i ≤ m → has line m ≡ false) where
    pub line_after : (short : Bool) (m : ℕ) → suc i ≤ m → has (cond short line (i ∷ line)) m ≡ false
    line_after true m h = below m (omega arith)
    line_after false m h = rw (ne_eqb i m (omega arith)) (below m (omega arith))

    pub line-here : (short : Bool) → lost (cond short line (i ∷ line)) i ≡ short
    line-here true = rw (below i (omega arith))
    line-here false = rw (eq-eqb i i refl)
