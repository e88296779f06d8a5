-- Iarwennol. The loops of the walk together are the soundness of the table, context by context. Assume nothing.
-- Used by the proofs of sound and wide_sound.
use Prim.Native.Nat.{ℕ, zero, suc, ◌+◌, ◌%◌, ◌<◌}
use mathlib.Core.Path.{◌≡◌, refl, sym, ap, ◌∙◌}
use mathlib.Core.Bool.{Bool, true, false, cond, not, ◌&&◌, ◌||◌, and_assoc, and-eq-true_iff}
use mathlib.Core.List.{List, [], ◌∷◌}
use native.Mathlib.Nat.{zero-add}
use native.Mathlib.Omega.{arith}
use borrow.Author.Tests.{eqb-true, le-leb, lt-leb}
use lib.Dec.{eqb, leb, ltb}
use lib.ListN.{length, get_or, drop}
use Rattle.codes.specs.Difference.{has_code}
use Rattle.settings.specs.Settings as settings
use Rattle.context.specs.Sound.{is_zero, zeros, sound_list, sound_link, sound_due, zero_list, used_sound, unused_sound}
use Rattle.context.specs.Sound.{sound_compressor_by, sound_compressor}
use Rattle.context.specs.declared.compressor.CompressorContext.{CompressorContext}
use Rattle.compressor.specs.Table.{is_empty, sound_of, unopened}
use Rattle.compressor.proofs.TableLaws.{unsound-unopened}
use Rattle.compressor.specs.declared.table.Table.{Table}
use Rattle.planes.specs.Planes.{Lent, cell, row, places, every, unused_at}
use Rattle.planes.proofs.EveryLaws.{every-and, every-same, every-swap}
use Rattle.planes.proofs.EveryLaws.{all-places, tail-places, every_given, passed}
use Rattle.planes.proofs.ChainLaws.{Chain, none, leaf, both, eval, implied, same, absorbed, absorbed', under, one-zero}
use Rattle.compressor_table.specs.Layout.{usage_of, context_of, context_in, plane_table, sized, typed, fits, table_of}
use Rattle.compressor_table.specs.LayoutLaws.{empty-status}
use Rattle.compressor_walk.specs.Walk.{head_test, due_test, short_test, word_test, past_at}
use Rattle.compressor_walk.specs.Walk.{used_at, even_at, coded_at}

---- One place in use: the same tests in another order

module _ (n : ℕ) (w h b : List ℕ) where
  abbrev live_tests : List Bool
  live_tests =
      leb (get_or b 3 0) 3
      ∷ leb (get_or b 4 0) 1
      ∷ leb (get_or b 5 0) 1
      ∷ leb (get_or b 6 0) 1
      ∷ leb (get_or b 7 0) 127
      ∷ leb (get_or b 8 0) 15
      ∷ leb (get_or b 9 0) 1
      ∷ leb (get_or b 17 0) (n + 1)
      ∷ leb (get_or b 10 0) n
      ∷ leb (get_or b 11 0) n
      ∷ leb (get_or b 12 0) n
      ∷ leb (get_or b 13 0) n
      ∷ leb (get_or b 14 0) n
      ∷ leb (get_or b 15 0) n
      ∷ leb (get_or b 16 0) n
      ∷ leb (get_or b 18 0) 15
      ∷ leb (get_or b 19 0) 63
      ∷ eqb (get_or h 1 0 % 2) 0
      ∷ has_code 32 (get_or w 4 0)
      ∷ zeros (drop (get_or b 8 0) (drop 6 w))
      ∷ []

  abbrev live : ℕ → Bool
  live k = get_or live_tests k true

  abbrev live_walk : Chain
  live_walk = (both (both (both (both (both (both (both (both (both (both (both (leaf 0) (leaf 1)) (leaf 2)) (leaf 3)) (leaf 4))
      (leaf 5)) (leaf 6)) none) (both (both (both (both (both (both (both (both (both (both (leaf 7) (leaf 8))
      (leaf 9))
      (leaf 10)) (leaf 11)) (leaf 12)) (leaf 13)) (leaf 14)) (leaf 15)) (leaf 16)) none)) (leaf 17)) (leaf 18)) (leaf 19))

  abbrev live_sound : Chain
  live_sound = (both (both (both (both (leaf 1) (leaf 2)) (leaf 3)) (leaf 6))
      (both (both (both (both (both (both (leaf 17) (leaf 0))
      (leaf 4)) (both (leaf 5) (leaf 19))) (leaf 18)) (both (both (both (both (both (both (both (leaf 7) (leaf 8)) (leaf 9))
      (leaf 10)) (leaf 11)) (leaf 12)) (leaf 13)) (leaf 14))) (both (leaf 15) (leaf 16))))

  live_same : eval live live_walk ≡ eval live live_sound
  live_same = same live live_walk live_sound refl refl

---- One place not in use: a number that is 0 is within its limit

module _ (t u f p x k y c e : ℕ) where
  abbrev head_zeros : Bool
  head_zeros = eqb t 0 && eqb u 0 && eqb f 0 && eqb p 0 && eqb x 0 && eqb k 0 && eqb y 0 && eqb c 0 && eqb e 0

  abbrev head_limits : Bool
  head_limits = leb f 3 && leb p 1 && leb x 1 && leb k 1 && leb y 127 && leb c 15 && leb e 1

  abbrev head_tests : ℕ → Bool
  head_tests m = get_or (eqb t 0 ∷ eqb u 0 ∷ eqb f 0 ∷ eqb p 0 ∷ eqb x 0 ∷ eqb k 0 ∷ eqb y 0 ∷ eqb c 0 ∷ eqb e 0 ∷ []) m true

  abbrev head_chain : Chain
  head_chain =
      (both (both (both (both (both (both (both (both (leaf 0) (leaf 1)) (leaf 2)) (leaf 3)) (leaf 4)) (leaf 5)) (leaf 6)) (leaf 7))
      (leaf 8))

  head-limits : head_zeros ≡ true → head_limits ≡ true
  head-limits q = rw (
    eqb-true f 0 (implied head_tests (leaf 2) head_chain refl q),
    eqb-true p 0 (implied head_tests (leaf 3) head_chain refl q),
    eqb-true x 0 (implied head_tests (leaf 4) head_chain refl q),
    eqb-true k 0 (implied head_tests (leaf 5) head_chain refl q),
    eqb-true y 0 (implied head_tests (leaf 6) head_chain refl q),
    eqb-true c 0 (implied head_tests (leaf 7) head_chain refl q),
    eqb-true e 0 (implied head_tests (leaf 8) head_chain refl q),
  )

  pub head-count : head_zeros ≡ true → c ≡ 0
  head-count q = eqb-true c 0 (implied head_tests (leaf 7) head_chain refl q)

  head-zero : (head_limits && head_zeros) ≡ head_zeros
  head-zero = absorbed head_limits head_zeros head-limits

module _ (n d0 d1 d2 d3 d4 d5 d6 d7 q g : ℕ) where
  abbrev due_zeros : Bool
  due_zeros = eqb d0 0 && eqb d1 0 && eqb d2 0 && eqb d3 0 && eqb d4 0 && eqb d5 0 && eqb d6 0 && eqb d7 0 && eqb q 0 && eqb g 0

  abbrev due_limits : Bool
  due_limits =
      leb d0 (n + 1) && leb d1 n && leb d2 n && leb d3 n && leb d4 n && leb d5 n && leb d6 n && leb d7 n && leb q 15 && leb g 63

  abbrev due_tests : ℕ → Bool
  due_tests m =
      get_or (eqb d0 0 ∷ eqb d1 0 ∷ eqb d2 0 ∷ eqb d3 0 ∷ eqb d4 0 ∷ eqb d5 0 ∷ eqb d6 0 ∷ eqb d7 0 ∷ eqb q 0 ∷ eqb g 0 ∷ []) m true

  abbrev due_chain : Chain
  due_chain =
      (both (both (both (both (both (both (both (both (both (leaf 0) (leaf 1)) (leaf 2)) (leaf 3)) (leaf 4)) (leaf 5)) (leaf 6))
      (leaf 7)) (leaf 8)) (leaf 9))

  due-limits : due_zeros ≡ true → due_limits ≡ true
  due-limits z = rw (
    eqb-true d0 0 (implied due_tests (leaf 0) due_chain refl z),
    eqb-true d1 0 (implied due_tests (leaf 1) due_chain refl z),
    eqb-true d2 0 (implied due_tests (leaf 2) due_chain refl z),
    eqb-true d3 0 (implied due_tests (leaf 3) due_chain refl z),
    eqb-true d4 0 (implied due_tests (leaf 4) due_chain refl z),
    eqb-true d5 0 (implied due_tests (leaf 5) due_chain refl z),
    eqb-true d6 0 (implied due_tests (leaf 6) due_chain refl z),
    eqb-true d7 0 (implied due_tests (leaf 7) due_chain refl z),
    eqb-true q 0 (implied due_tests (leaf 8) due_chain refl z),
    eqb-true g 0 (implied due_tests (leaf 9) due_chain refl z),
    le-leb 0 n (omega arith),
    le-leb 0 (n + 1) (omega arith),
  )

  due-zero : (due_limits && due_zeros) ≡ due_zeros
  due-zero = absorbed due_limits due_zeros due-limits

module _ (a p c d e g : ℕ) where
  abbrev six_zeros : Bool
  six_zeros = eqb a 0 && eqb p 0 && eqb c 0 && eqb d 0 && eqb e 0 && eqb g 0

  abbrev six_tests : ℕ → Bool
  six_tests m = get_or (eqb a 0 ∷ eqb p 0 ∷ eqb c 0 ∷ eqb d 0 ∷ eqb e 0 ∷ eqb g 0 ∷ []) m true

  abbrev six_chain : Chain
  six_chain = (both (both (both (both (both (leaf 0) (leaf 1)) (leaf 2)) (leaf 3)) (leaf 4)) (leaf 5))

  short-zero : (six_zeros && eqb (p % 2) 0) ≡ six_zeros
  short-zero = absorbed' six_zeros (eqb (p % 2) 0) (λ z. rw (eqb-true p 0 (implied six_tests (leaf 1) six_chain refl z)))

  word-zero : (six_zeros && has_code 32 e) ≡ six_zeros
  unfolding has_code
  word-zero = absorbed' six_zeros (has_code 32 e) (λ z. rw (eqb-true e 0 (implied six_tests (leaf 4) six_chain refl z)))

module _ (w h b : List ℕ) where
  abbrev empty_tests : List Bool
  empty_tests =
      leb (get_or b 4 0) 1
      ∷ leb (get_or b 5 0) 1
      ∷ leb (get_or b 6 0) 1
      ∷ leb (get_or b 9 0) 1
      ∷ eqb (get_or w 0 0) 0
      ∷ eqb (get_or w 1 0) 0
      ∷ eqb (get_or h 0 0) 0
      ∷ eqb (get_or h 1 0) 0
      ∷ eqb (get_or w 2 0) 0
      ∷ eqb (get_or b 1 0) 0
      ∷ eqb (get_or b 2 0) 0
      ∷ eqb (get_or b 3 0) 0
      ∷ eqb (get_or h 2 0) 0
      ∷ not (eqb (get_or b 4 0) 1)
      ∷ not (eqb (get_or b 5 0) 1)
      ∷ eqb (get_or b 7 0) 0
      ∷ eqb (get_or h 3 0) 0
      ∷ eqb (get_or w 3 0) 0
      ∷ eqb (get_or b 8 0) 0
      ∷ zeros (drop 6 w)
      ∷ not (eqb (get_or b 6 0) 1)
      ∷ eqb (get_or h 4 0) 0
      ∷ eqb (get_or w 4 0) 0
      ∷ not (eqb (get_or b 9 0) 1)
      ∷ eqb (get_or h 5 0) 0
      ∷ eqb (get_or w 5 0) 0
      ∷ eqb (get_or b 17 0) 0
      ∷ eqb (get_or b 10 0) 0
      ∷ eqb (get_or b 11 0) 0
      ∷ eqb (get_or b 12 0) 0
      ∷ eqb (get_or b 13 0) 0
      ∷ eqb (get_or b 14 0) 0
      ∷ eqb (get_or b 15 0) 0
      ∷ eqb (get_or b 16 0) 0
      ∷ eqb (get_or b 18 0) 0
      ∷ eqb (get_or b 19 0) 0
      ∷ []

  abbrev empty : ℕ → Bool
  empty k = get_or empty_tests k true

  abbrev empty_sound : Chain
  empty_sound = (both (both (both (both (leaf 0) (leaf 1)) (leaf 2)) (leaf 3)) (both (both (both (both (both (both (both (both (both
      (both (both (both (leaf 4) (leaf 5)) (leaf 6)) (leaf 7)) (leaf 8)) (both (both (both (leaf 9) (leaf 10)) (leaf 11))
      (leaf 12))) (both (both (both (both (leaf 13) (leaf 14)) (leaf 15)) (leaf 16)) (leaf 17))) (both (leaf 18) (leaf 19)))
      (leaf 20)) (both (leaf 21) (leaf 22))) (both (both (leaf 23) (leaf 24)) (leaf 25))) (both (both (both (both (both
      (both (both (leaf 26) (leaf 27)) (leaf 28)) (leaf 29)) (leaf 30)) (leaf 31)) (leaf 32)) (leaf 33))) (both (leaf 34)
      (leaf 35))))

  abbrev empty_walk : Chain
  empty_walk = (both (both (both (both (both (both (both (both (both (both (both (both (leaf 9) (leaf 10)) (leaf 11)) (both (leaf 0)
      (leaf 13))) (both (leaf 1) (leaf 14))) (both (leaf 2) (leaf 20))) (leaf 15)) (leaf 18)) (both (leaf 3) (leaf 23)))
      (both (both (both (both (both (both (both (both (both (leaf 26) (leaf 27)) (leaf 28)) (leaf 29)) (leaf 30)) (leaf 31))
      (leaf 32)) (leaf 33)) (leaf 34)) (leaf 35))) (both (both (both (both (both (leaf 6) (leaf 7)) (leaf 12)) (leaf 16))
      (leaf 21)) (leaf 24))) (both (both (both (both (both (leaf 4) (leaf 5)) (leaf 8)) (leaf 17)) (leaf 22)) (leaf 25)))
      (leaf 19))

  empty-same : eval empty empty_walk ≡ eval empty empty_sound
  empty-same = same empty empty_walk empty_sound refl refl

---- One place

-- a walk's tests of one place, by its status
module _ (n : ℕ) (w h b : List ℕ) where
  abbrev head_by : ℕ → Bool
  head_by s =
      leb s 1
      && leb (get_or b 3 0) 3
      && leb (get_or b 4 0) 1
      && leb (get_or b 5 0) 1
      && leb (get_or b 6 0) 1
      && leb (get_or b 7 0) 127
      && leb (get_or b 8 0) 15
      && leb (get_or b 9 0) 1
      && (not (eqb s 0)
      || head_zeros (get_or b 1 0) (get_or b 2 0) (get_or b 3 0) (get_or b 4 0) (get_or b 5 0) (get_or b 6 0) (get_or b 7 0)
      (get_or b 8 0)
      (get_or b 9 0))

  abbrev due_by : ℕ → Bool
  due_by s =
      due_limits n (get_or b 17 0) (get_or b 10 0) (get_or b 11 0) (get_or b 12 0) (get_or b 13 0) (get_or b 14 0) (get_or b 15 0)
      (get_or b 16 0)
      (get_or b 18 0) (get_or b 19 0)
      && (not (eqb s 0)
      || due_zeros n (get_or b 17 0) (get_or b 10 0) (get_or b 11 0) (get_or b 12 0) (get_or b 13 0) (get_or b 14 0)
      (get_or b 15 0) (get_or b 16 0)
      (get_or b 18 0) (get_or b 19 0))

  abbrev short_by : ℕ → Bool
  short_by s = (not (eqb s 0) || six_zeros (get_or h 0 0) (get_or h 1 0) (get_or h 2 0) (get_or h 3 0) (get_or h 4 0)
      (get_or h 5 0))
      && eqb (get_or h 1 0 % 2) 0

  abbrev word_by : ℕ → Bool
  word_by s = (not (eqb s 0) || six_zeros (get_or w 0 0) (get_or w 1 0) (get_or w 2 0) (get_or w 3 0) (get_or w 4 0) (get_or w 5 0))
      && has_code 32 (get_or w 4 0)

  abbrev typed_by : ℕ → Bool
  typed_by s = leb s 1 && leb (get_or b 4 0) 1 && leb (get_or b 5 0) 1 && leb (get_or b 6 0) 1 && leb (get_or b 9 0) 1

  abbrev tail : Bool
  tail = zeros (drop (get_or b 8 0) (drop 6 w))

  abbrev zh : Bool
  zh =
      head_zeros (get_or b 1 0) (get_or b 2 0) (get_or b 3 0) (get_or b 4 0) (get_or b 5 0) (get_or b 6 0) (get_or b 7 0)
      (get_or b 8 0) (get_or b 9 0)

  abbrev zd : Bool
  zd = due_zeros n (get_or b 17 0) (get_or b 10 0) (get_or b 11 0) (get_or b 12 0) (get_or b 13 0) (get_or b 14 0) (get_or b 15 0)
      (get_or b 16 0)
      (get_or b 18 0) (get_or b 19 0)

  abbrev zs : Bool
  zs = six_zeros (get_or h 0 0) (get_or h 1 0) (get_or h 2 0) (get_or h 3 0) (get_or h 4 0) (get_or h 5 0)

  abbrev zw : Bool
  zw = six_zeros (get_or w 0 0) (get_or w 1 0) (get_or w 2 0) (get_or w 3 0) (get_or w 4 0) (get_or w 5 0)

  count-zero : (zh && zd && zs && zw) ≡ true → get_or b 8 0 ≡ 0
  count-zero q =
      let p = (and-eq-true_iff (zh && zd && zs) zw).0 q in
      let r = (and-eq-true_iff (zh && zd) zs).0 p.0 in
      let t = (and-eq-true_iff zh zd).0 r.0 in
      head-count (get_or b 1 0) (get_or b 2 0) (get_or b 3 0) (get_or b 4 0) (get_or b 5 0) (get_or b 6 0) (get_or b 7 0)
      (get_or b 8 0)
      (get_or b 9 0) t.0

  -- the walk's tests of a place not in use: nothing but zeros
  empty-walk : (head_by 0 && due_by 0 && short_by 0 && word_by 0 && tail) ≡ eval (empty w h b) (empty_walk w h b)
  empty-walk = rw (
    head-zero (get_or b 1 0) (get_or b 2 0) (get_or b 3 0) (get_or b 4 0) (get_or b 5 0) (get_or b 6 0) (get_or b 7 0)
        (get_or b 8 0) (get_or b 9 0),
    due-zero n (get_or b 17 0) (get_or b 10 0) (get_or b 11 0) (get_or b 12 0) (get_or b 13 0) (get_or b 14 0) (get_or b 15 0)
        (get_or b 16 0)
        (get_or b 18 0) (get_or b 19 0),
    short-zero (get_or h 0 0) (get_or h 1 0) (get_or h 2 0) (get_or h 3 0) (get_or h 4 0) (get_or h 5 0),
    word-zero (get_or w 0 0) (get_or w 1 0) (get_or w 2 0) (get_or w 3 0) (get_or w 4 0) (get_or w 5 0),
    one-zero (get_or b 4 0),
    one-zero (get_or b 5 0),
    one-zero (get_or b 6 0),
    one-zero (get_or b 9 0),
  ) (under (zh && zd && zs && zw) tail (zeros (drop 6 w)) (λ q. ap (λ (c : ℕ). zeros (drop c (drop 6 w))) (count-zero q)))

  meets-by : (s : ℕ) → (head_by s && due_by s && short_by s && word_by s && tail)
      ≡ (typed_by s && sound_compressor_by (usage_of s) n (context_of w h b))
  unfolding sound_compressor_by used_sound unused_sound sound_list sound_link sound_due zero_list context_of
  meets-by zero = empty-walk ∙ empty-same w h b
  meets-by (suc zero) = live_same n w h b
  meets-by (suc (suc s)) = rw (lt-leb (suc (suc s)) 1 (omega arith))

-- one place of three slices
meets : (n : ℕ) (w h b : List ℕ) (i : ℕ)
    → (head_test (row b i 0 20) && due_test n (row b i 0 20) && short_test (row h i 0 6) (row b i 0 20)
    && word_test (row w i 0 21) (row b i 0 20) && every (λ (k : ℕ). past_at w b k i) 15)
    ≡ (typed b i && sound_compressor n (context_in w h b i))
unfolding sound_compressor context_of
meets n w h b i =
    ap (λ (t : Bool). head_test (row b i 0 20) && due_test n (row b i 0 20) && short_test (row h i 0 6) (row b i 0 20)
    && word_test (row w i 0 21) (row b i 0 20) && t)
    (sym (tail-places is_zero (cell b 8 i) (λ (g : ℕ). cell w g i) 6 15))
    ∙ meets-by n (row w i 0 21) (row h i 0 6) (row b i 0 20) (cell b 0 i)

---- All places

-- planes first, or places first
walk : (H D S W T C : ℕ → Bool) (P : ℕ → ℕ → Bool) (m q : ℕ)
    → ((i : ℕ) → i < m → (H i && D i && S i && W i && every (λ (k : ℕ). P k i) q) ≡ (T i && C i))
    → (every H m && every D m && (every S m && every W m) && every (λ (k : ℕ). every (P k) m) q) ≡ (every T m && every C m)
walk H D S W T C P m q h =
    let Q : ℕ → Bool = λ (i : ℕ). every (λ (k : ℕ). P k i) q in
    let two : ℕ → Bool = λ (i : ℕ). H i && D i in
    let three : ℕ → Bool = λ (i : ℕ). H i && D i && S i in
    let four : ℕ → Bool = λ (i : ℕ). H i && D i && S i && W i in
    ap (λ (x : Bool). every H m && every D m && (every S m && every W m) && x) (every-swap P q m)
    ∙ ap (λ (x : Bool). x && every Q m) (sym (and_assoc (every H m && every D m) (every S m) (every W m)))
    ∙ sym (every-and four Q m ∙ ap (λ (x : Bool). x && every Q m) (every-and three W m
    ∙ ap (λ (x : Bool). x && every W m) (every-and two S m ∙ ap (λ (x : Bool). x && every S m) (every-and H D m))))
    ∙ every-same (λ (i : ℕ). four i && Q i) (λ (i : ℕ). T i && C i) m h
    ∙ every-and T C m

-- every place in use: of the wide numbers only the ranges are left
module _ (w h b : List ℕ) where
  abbrev short_at : ℕ → Bool
  short_at i = short_test (row h i 0 6) (row b i 0 20)

  abbrev word_at : ℕ → Bool
  word_at i = word_test (row w i 0 21) (row b i 0 20)

  pub wide-used : every (used_at b) 64 ≡ true → (every (even_at h) 64 && every (coded_at w) 64)
      ≡ (every short_at 64 && every word_at 64)
  wide-used e =
      let s = every_given (used_at b) short_at (even_at h) 64 e
      (λ i a. ap (λ (x : Bool). x && even_at h i) (passed (used_at b i) _ a)) in
      let t = every_given (used_at b) word_at (coded_at w) 64 e
      (λ i a. ap (λ (x : Bool). x && coded_at w i) (passed (used_at b i) _ a)) in
      sym (λ j. s j && t j)

---- The table

sound-chosen : (f : Bool) (t : Table) → sound_of (cond f t unopened) ≡ (f && sound_of t)
sound-chosen true t = refl
sound-chosen false t = unsound-unopened

glue : (t c e s z : Bool) → s ≡ true → z ≡ true → (t && c && e) ≡ (z && t && (s && c && e))
glue t c e s z hs hz = rw (hs, hz) (and_assoc t c e)

module _ (l : Lent) where
  abbrev pub repeats : ℕ
  repeats = get_or l.bytes 1280 0

  abbrev pub contexts : ℕ
  contexts = get_or l.bytes 1281 0

  abbrev at : ℕ → CompressorContext
  at = context_in l.words l.shorts l.bytes

  abbrev pub within : Bool
  within = settings.in_range repeats contexts

  sound_of-planes : sound_of (plane_table l) ≡ (within && every (λ (i : ℕ). sound_compressor repeats (at i)) 64
      && every (λ (i : ℕ). ltb i contexts || is_empty (at i)) 64)
  unfolding sound_of plane_table
  sound_of-planes =
      let a = all-places (sound_compressor repeats) at 0 64
      ∙ every-same (λ (i : ℕ). sound_compressor repeats (at (0 + i))) (λ (i : ℕ). sound_compressor repeats (at i)) 64
      (λ i h. ap (λ (x : ℕ). sound_compressor repeats (at x)) (zero-add i)) in
      let b = tail-places is_empty contexts at 0 64
      ∙ every-same (λ (i : ℕ). ltb i contexts || is_empty (at (0 + i))) (λ (i : ℕ). ltb i contexts || is_empty (at i)) 64
      (λ i h. ap (λ (x : ℕ). ltb i contexts || is_empty (at x)) (zero-add i)) in
      λ j. within && a j && b j

  unused-places : every (unused_at l.bytes contexts) 64 ≡ every (λ (i : ℕ). ltb i contexts || is_empty (at i)) 64
  unfolding context_of
  unused-places = every-same (unused_at l.bytes contexts) (λ (i : ℕ). ltb i contexts || is_empty (at i)) 64
      (λ i h. ap (λ (x : Bool). ltb i contexts || x) (empty-status (cell l.bytes 0 i)))

  together : (every (λ (i : ℕ). head_test (row l.bytes i 0 20)) 64
      && every (λ (i : ℕ). due_test repeats (row l.bytes i 0 20)) 64
      && (every (λ (i : ℕ). short_test (row l.shorts i 0 6) (row l.bytes i 0 20)) 64
      && every (λ (i : ℕ). word_test (row l.words i 0 21) (row l.bytes i 0 20)) 64)
      && every (λ (k : ℕ). every (past_at l.words l.bytes k) 64) 15)
      ≡ (every (typed l.bytes) 64 && every (λ (i : ℕ). sound_compressor repeats (at i)) 64)
  together =
      walk (λ (i : ℕ). head_test (row l.bytes i 0 20)) (λ (i : ℕ). due_test repeats (row l.bytes i 0 20))
      (λ (i : ℕ). short_test (row l.shorts i 0 6) (row l.bytes i 0 20))
      (λ (i : ℕ). word_test (row l.words i 0 21) (row l.bytes i 0 20)) (typed l.bytes)
      (λ (i : ℕ). sound_compressor repeats (at i)) (past_at l.words l.bytes) 64 15
      (λ i h. meets repeats l.words l.shorts l.bytes i)

  -- the walk's five answers are the table's soundness
  pub sound-walk : (a b c d e : Bool) → sized l ≡ true → within ≡ true
      → a ≡ every (λ (i : ℕ). head_test (row l.bytes i 0 20)) 64
      → b ≡ every (λ (i : ℕ). due_test repeats (row l.bytes i 0 20)) 64
      → c ≡ (every (λ (i : ℕ). short_test (row l.shorts i 0 6) (row l.bytes i 0 20)) 64
      && every (λ (i : ℕ). word_test (row l.words i 0 21) (row l.bytes i 0 20)) 64)
      → d ≡ every (λ (k : ℕ). every (past_at l.words l.bytes k) 64) 15
      → e ≡ every (unused_at l.bytes contexts) 64
      → (a && b && c && d && e) ≡ sound_of (table_of l)
  unfolding table_of fits
  sound-walk a b c d e z s ha hb hc hd he =
      (λ j. ha j && hb j && hc j && hd j && he j)
      ∙ (λ j. together j && unused-places j)
      ∙ glue (every (typed l.bytes) 64) (every (λ (i : ℕ). sound_compressor repeats (at i)) 64)
      (every (λ (i : ℕ). ltb i contexts || is_empty (at i)) 64) within (sized l) s z
      ∙ ap (λ (x : Bool). fits l && x) (sym sound_of-planes)
      ∙ sym (sound-chosen (fits l) (plane_table l))

  -- slices of another length hold no sound table
  pub unsound-sized : sized l ≡ false → false ≡ sound_of (table_of l)
  unfolding table_of fits
  unsound-sized z = ap (λ (x : Bool). x && every (typed l.bytes) 64 && sound_of (plane_table l)) (sym z)
      ∙ sym (sound-chosen (fits l) (plane_table l))

  nothing : (f w a b : Bool) → w ≡ false → false ≡ (f && (w && a && b))
  nothing true w a b h = rw h
  nothing false w a b h = refl

  -- nor do those whose settings are out of range
  pub unsound-settings : within ≡ false → false ≡ sound_of (table_of l)
  unfolding table_of
  unsound-settings h = nothing (fits l) within (every (λ (i : ℕ). sound_compressor repeats (at i)) 64)
      (every (λ (i : ℕ). ltb i contexts || is_empty (at i)) 64) h
      ∙ ap (λ (x : Bool). fits l && x) (sym sound_of-planes)
      ∙ sym (sound-chosen (fits l) (plane_table l))
