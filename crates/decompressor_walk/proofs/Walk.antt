-- Iarwennol. The loops of the walk together are the soundness of the table, context by context. Assume nothing.
-- Used by the proofs of sound and wide_sound.
use Prim.Native.Nat.{ℕ, zero, suc, ◌+◌, ◌<◌}
use mathlib.Core.Path.{◌≡◌, refl, sym, ap, ◌∙◌}
use mathlib.Core.Bool.{Bool, true, false, cond, not, ◌&&◌, ◌||◌, and_assoc, and-false, and-eq-true_iff}
use mathlib.Core.List.{List, [], ◌∷◌}
use native.Mathlib.Nat.{zero-add}
use native.Mathlib.Omega.{arith}
use borrow.Author.Tests.{eqb-true, lt-leb}
use lib.Dec.{eqb, leb, ltb}
use lib.ListN.{get_or, drop}
use Rattle.codes.specs.Difference.{has_code}
use Rattle.settings.specs.Settings as settings
use Rattle.context.specs.Sound.{is_zero, zeros, sound_list, sound_link, zero_list, filled_sound, unfilled_sound}
use Rattle.context.specs.Sound.{sound_decompressor_by, sound_decompressor}
use Rattle.context.specs.declared.decompressor.Status.TheVariants.{Empty, Live, Broken}
use Rattle.context.specs.declared.decompressor.DecompressorContext.{DecompressorContext}
use Rattle.decompressor.specs.Table.{empty_by, is_empty, sound_of, unopened}
use Rattle.decompressor.proofs.TableLaws.{unsound-unopened}
use Rattle.decompressor.specs.declared.table.Table.{Table}
use Rattle.planes.specs.Planes.{Lent, cell, row, places, every, unused_at}
use Rattle.planes.proofs.EveryLaws.{every-and, every-same, every-swap, every_true}
use Rattle.planes.proofs.EveryLaws.{all-places, tail-places, every_given, passed}
use Rattle.planes.proofs.ChainLaws.{Chain, none, leaf, both, eval, implied, same, absorbed, absorbed', under, one-zero}
use Rattle.decompressor_table.specs.Layout.{status_of, flow_of, ip_of, rtp_of, list_of, deltas_of, link_of, context_of}
use Rattle.decompressor_table.specs.Layout.{context_in, plane_table, sized, typed, fits, table_of}
use Rattle.decompressor_walk.specs.Walk.{byte_test, short_test, word_test, past_at}
use Rattle.decompressor_walk.specs.Walk.{filled_at, coded_at}

---- One place that was filled: the same tests in another order

module _ (w b : List ℕ) where
  abbrev filled_tests : List Bool
  filled_tests =
      leb (get_or b 5 0) 1
      ∷ leb (get_or b 6 0) 1
      ∷ leb (get_or b 7 0) 1
      ∷ leb (get_or b 8 0) 1
      ∷ leb (get_or b 4 0) 3
      ∷ leb (get_or b 9 0) 127
      ∷ leb (get_or b 10 0) 15
      ∷ leb (get_or b 11 0) 15
      ∷ leb (get_or b 12 0) 63
      ∷ has_code 32 (get_or w 4 0)
      ∷ zeros (drop (get_or b 10 0) (drop 5 w))
      ∷ []

  abbrev filled : ℕ → Bool
  filled k = get_or filled_tests k true

  abbrev filled_walk : Chain
  filled_walk = (both (both (both (both (both (both (both (both (both (both (both (both (leaf 0) (leaf 1)) (leaf 2)) (leaf 3))
      (leaf 4)) (leaf 5)) (leaf 6)) (leaf 7)) (leaf 8)) none) none) (leaf 9)) (leaf 10))

  abbrev filled_chain : Chain
  filled_chain = (both (both (both (both (leaf 0) (leaf 1)) (leaf 2)) (leaf 3)) (both (both (both (both (leaf 4) (leaf 5))
      (both (leaf 6) (leaf 10))) (leaf 9)) (both (leaf 7) (leaf 8))))

  filled-same : eval filled filled_walk ≡ eval filled filled_chain
  filled-same = same filled filled_walk filled_chain refl refl

---- One place that was never filled: a number that is 0 is within its limit

module _ (t u f p x r m y c q g : ℕ) where
  abbrev byte_zeros : Bool
  byte_zeros = eqb t 0 && eqb u 0 && eqb f 0 && eqb p 0 && eqb x 0 && eqb r 0 && eqb m 0 && eqb y 0 && eqb c 0 && eqb q 0
      && eqb g 0

  abbrev byte_limits : Bool
  byte_limits = leb p 1 && leb x 1 && leb r 1 && leb m 1 && leb f 3 && leb y 127 && leb c 15 && leb q 15 && leb g 63

  abbrev byte_tests : ℕ → Bool
  byte_tests n = get_or (eqb t 0 ∷ eqb u 0 ∷ eqb f 0 ∷ eqb p 0 ∷ eqb x 0 ∷ eqb r 0 ∷ eqb m 0 ∷ eqb y 0 ∷ eqb c 0 ∷ eqb q 0
      ∷ eqb g 0 ∷ []) n true

  abbrev byte_chain : Chain
  byte_chain = (both (both (both (both (both (both (both (both (both (both (leaf 0) (leaf 1)) (leaf 2)) (leaf 3)) (leaf 4))
      (leaf 5)) (leaf 6)) (leaf 7)) (leaf 8)) (leaf 9)) (leaf 10))

  byte-limits : byte_zeros ≡ true → byte_limits ≡ true
  byte-limits e = rw (
    eqb-true p 0 (implied byte_tests (leaf 3) byte_chain refl e),
    eqb-true x 0 (implied byte_tests (leaf 4) byte_chain refl e),
    eqb-true r 0 (implied byte_tests (leaf 5) byte_chain refl e),
    eqb-true m 0 (implied byte_tests (leaf 6) byte_chain refl e),
    eqb-true f 0 (implied byte_tests (leaf 2) byte_chain refl e),
    eqb-true y 0 (implied byte_tests (leaf 7) byte_chain refl e),
    eqb-true c 0 (implied byte_tests (leaf 8) byte_chain refl e),
    eqb-true q 0 (implied byte_tests (leaf 9) byte_chain refl e),
    eqb-true g 0 (implied byte_tests (leaf 10) byte_chain refl e),
  )

  byte-count : byte_zeros ≡ true → c ≡ 0
  byte-count e = eqb-true c 0 (implied byte_tests (leaf 8) byte_chain refl e)

  byte-zero : (byte_limits && byte_zeros) ≡ byte_zeros
  byte-zero = absorbed byte_limits byte_zeros byte-limits

module _ (a p c d e : ℕ) where
  abbrev five_zeros : Bool
  five_zeros = eqb a 0 && eqb p 0 && eqb c 0 && eqb d 0 && eqb e 0

  abbrev five_tests : ℕ → Bool
  five_tests m = get_or (eqb a 0 ∷ eqb p 0 ∷ eqb c 0 ∷ eqb d 0 ∷ eqb e 0 ∷ []) m true

  abbrev five_chain : Chain
  five_chain = (both (both (both (both (leaf 0) (leaf 1)) (leaf 2)) (leaf 3)) (leaf 4))

  word-zero : (five_zeros && has_code 32 e) ≡ five_zeros
  unfolding has_code
  word-zero = absorbed' five_zeros (has_code 32 e) (λ z. rw (eqb-true e 0 (implied five_tests (leaf 4) five_chain refl z)))

module _ (w h b : List ℕ) where
  abbrev unfilled_tests : List Bool
  unfilled_tests =
      leb (get_or b 5 0) 1
      ∷ leb (get_or b 6 0) 1
      ∷ leb (get_or b 7 0) 1
      ∷ leb (get_or b 8 0) 1
      ∷ eqb (get_or w 0 0) 0
      ∷ eqb (get_or w 1 0) 0
      ∷ eqb (get_or h 0 0) 0
      ∷ eqb (get_or h 1 0) 0
      ∷ eqb (get_or w 2 0) 0
      ∷ eqb (get_or b 2 0) 0
      ∷ eqb (get_or b 3 0) 0
      ∷ eqb (get_or b 4 0) 0
      ∷ eqb (get_or h 2 0) 0
      ∷ not (eqb (get_or b 5 0) 1)
      ∷ not (eqb (get_or b 6 0) 1)
      ∷ eqb (get_or b 9 0) 0
      ∷ eqb (get_or h 3 0) 0
      ∷ eqb (get_or w 3 0) 0
      ∷ eqb (get_or b 10 0) 0
      ∷ zeros (drop 5 w)
      ∷ not (eqb (get_or b 7 0) 1)
      ∷ not (eqb (get_or b 8 0) 1)
      ∷ eqb (get_or h 4 0) 0
      ∷ eqb (get_or w 4 0) 0
      ∷ eqb (get_or b 11 0) 0
      ∷ eqb (get_or b 12 0) 0
      ∷ []

  abbrev unfilled : ℕ → Bool
  unfilled k = get_or unfilled_tests k true

  abbrev unfilled_chain : Chain
  unfilled_chain = (both (both (both (both (leaf 0) (leaf 1)) (leaf 2)) (leaf 3)) (both (both (both (both (both (both (both
      (both (both (both (both (leaf 4) (leaf 5)) (leaf 6)) (leaf 7)) (leaf 8)) (both (both (both (leaf 9) (leaf 10)) (leaf 11))
      (leaf 12))) (both (both (both (both (leaf 13) (leaf 14)) (leaf 15)) (leaf 16)) (leaf 17))) (both (leaf 18) (leaf 19)))
      (leaf 20)) (leaf 21)) (both (leaf 22) (leaf 23))) (both (leaf 24) (leaf 25))))

  abbrev unfilled_walk : Chain
  unfilled_walk = (both (both (both (both (both (both (both (both (both (both (both (both (both (leaf 9) (leaf 10)) (leaf 11))
      (both (leaf 0) (leaf 13))) (both (leaf 1) (leaf 14))) (both (leaf 2) (leaf 20))) (both (leaf 3) (leaf 21))) (leaf 15))
      (leaf 18)) (leaf 24)) (leaf 25)) (both (both (both (both (leaf 6) (leaf 7)) (leaf 12)) (leaf 16)) (leaf 22))) (both
      (both (both (both (leaf 4) (leaf 5)) (leaf 8)) (leaf 17)) (leaf 23))) (leaf 19))

  unfilled-same : eval unfilled unfilled_walk ≡ eval unfilled unfilled_chain
  unfilled-same = same unfilled unfilled_walk unfilled_chain refl refl

---- One place

-- the walk's tests of one place, by its status and whether it was filled
module _ (w h b : List ℕ) where
  abbrev zb : Bool
  zb = byte_zeros (get_or b 2 0) (get_or b 3 0) (get_or b 4 0) (get_or b 5 0) (get_or b 6 0) (get_or b 7 0) (get_or b 8 0)
      (get_or b 9 0)
      (get_or b 10 0) (get_or b 11 0) (get_or b 12 0)

  abbrev zs : Bool
  zs = five_zeros (get_or h 0 0) (get_or h 1 0) (get_or h 2 0) (get_or h 3 0) (get_or h 4 0)

  abbrev zw : Bool
  zw = five_zeros (get_or w 0 0) (get_or w 1 0) (get_or w 2 0) (get_or w 3 0) (get_or w 4 0)

  abbrev tail : Bool
  tail = zeros (drop (get_or b 10 0) (drop 5 w))

  abbrev byte_by : (s f : ℕ) → Bool
  byte_by s f =
      leb s 2
      && leb f 1
      && (not (eqb s 0) || eqb f 0)
      && (not (eqb s 1) || eqb f 1)
      && leb (get_or b 5 0) 1
      && leb (get_or b 6 0) 1
      && leb (get_or b 7 0) 1
      && leb (get_or b 8 0) 1
      && leb (get_or b 4 0) 3
      && leb (get_or b 9 0) 127
      && leb (get_or b 10 0) 15
      && leb (get_or b 11 0) 15
      && leb (get_or b 12 0) 63
      && (not (eqb f 0) || zb)

  abbrev short_by : ℕ → Bool
  short_by f = not (eqb f 0) || zs

  abbrev word_by : ℕ → Bool
  word_by f = (not (eqb f 0) || zw) && has_code 32 (get_or w 4 0)

  abbrev walk_by : (s f : ℕ) → Bool
  walk_by s f = byte_by s f && short_by f && word_by f && tail

  abbrev typed_by : (s f : ℕ) → Bool
  typed_by s f = leb s 2 && leb f 1 && leb (get_or b 5 0) 1 && leb (get_or b 6 0) 1 && leb (get_or b 7 0) 1 && leb (get_or b 8 0) 1

  -- the context, with its filled apart
  abbrev context_by : ℕ → DecompressorContext
  context_by f = record {
    status = status_of (get_or b 0 0);
    filled = eqb f 1;
    flow = flow_of w h;
    ip = ip_of h b;
    rtp = rtp_of w h b;
    csrc = list_of w b;
    carried = eqb (get_or b 7 0) 1;
    marker = eqb (get_or b 8 0) 1;
    deltas = deltas_of w h;
    link = link_of b;
  }

  abbrev sound_by : (s f : ℕ) → Bool
  sound_by s f = typed_by s f && sound_decompressor_by (status_of s) (context_by f)

  count-zero : (zb && zs && zw) ≡ true → get_or b 10 0 ≡ 0
  count-zero e =
      let p = (and-eq-true_iff (zb && zs) zw).0 e in
      let r = (and-eq-true_iff zb zs).0 p.0 in
      byte-count (get_or b 2 0) (get_or b 3 0) (get_or b 4 0) (get_or b 5 0) (get_or b 6 0) (get_or b 7 0) (get_or b 8 0)
      (get_or b 9 0)
      (get_or b 10 0) (get_or b 11 0) (get_or b 12 0) r.0

  -- never filled, empty or broken: nothing but zeros
  unfilled-walk : walk_by 0 0 ≡ eval (unfilled w h b) (unfilled_walk w h b)
  unfilled-walk = rw (
    byte-zero (get_or b 2 0) (get_or b 3 0) (get_or b 4 0) (get_or b 5 0) (get_or b 6 0) (get_or b 7 0) (get_or b 8 0)
        (get_or b 9 0)
        (get_or b 10 0) (get_or b 11 0) (get_or b 12 0),
    word-zero (get_or w 0 0) (get_or w 1 0) (get_or w 2 0) (get_or w 3 0) (get_or w 4 0),
    one-zero (get_or b 5 0),
    one-zero (get_or b 6 0),
    one-zero (get_or b 7 0),
    one-zero (get_or b 8 0),
  ) (under (zb && zs && zw) tail (zeros (drop 5 w)) (λ e. ap (λ (c : ℕ). zeros (drop c (drop 5 w))) (count-zero e)))

  unfilled-meets : walk_by 0 0 ≡ sound_by 0 0
  unfolding sound_decompressor_by unfilled_sound zero_list
  unfilled-meets = unfilled-walk ∙ unfilled-same w h b

  filled-meets : walk_by 1 1 ≡ sound_by 1 1
  unfolding sound_decompressor_by filled_sound sound_list sound_link
  filled-meets = filled-same w b

  -- empty and filled, or live and not
  empty-filled : walk_by 0 1 ≡ sound_by 0 1
  unfolding sound_decompressor_by
  empty-filled = rw (and-false (typed_by 0 1))

  live-unfilled : walk_by 1 0 ≡ sound_by 1 0
  unfolding sound_decompressor_by
  live-unfilled = rw (and-false (typed_by 1 0))

  -- filled that is no bool
  no_bool : (s f : ℕ) → walk_by s (suc (suc f)) ≡ sound_by s (suc (suc f))
  no_bool s f = rw (lt-leb (suc (suc f)) 1 (omega arith), and-false (leb s 2))

  no-status : (s f : ℕ) → walk_by (suc (suc (suc s))) f ≡ sound_by (suc (suc (suc s))) f
  no-status s f = rw (lt-leb (suc (suc (suc s))) 2 (omega arith))

  meets-by : (s f : ℕ) → walk_by s f ≡ sound_by s f
  unfolding sound_decompressor_by
  meets-by zero zero = unfilled-meets
  meets-by zero (suc zero) = empty-filled
  meets-by zero (suc (suc f)) = no_bool 0 f
  meets-by (suc zero) zero = live-unfilled
  meets-by (suc zero) (suc zero) = filled-meets
  meets-by (suc zero) (suc (suc f)) = no_bool 1 f
  meets-by (suc (suc zero)) zero = unfilled-meets
  meets-by (suc (suc zero)) (suc zero) = filled-meets
  meets-by (suc (suc zero)) (suc (suc f)) = no_bool 2 f
  meets-by (suc (suc (suc s))) f = no-status s f

-- one place of three slices
meets : (w h b : List ℕ) (i : ℕ)
    → (byte_test (row b i 0 13) && short_test (row h i 0 5) (row b i 0 13) && word_test (row w i 0 20) (row b i 0 13)
    && every (λ (k : ℕ). past_at w b k i) 15)
    ≡ (typed b i && sound_decompressor (context_in w h b i))
unfolding sound_decompressor context_of
meets w h b i =
    ap (λ (t : Bool). byte_test (row b i 0 13) && short_test (row h i 0 5) (row b i 0 13)
    && word_test (row w i 0 20) (row b i 0 13) && t)
    (sym (tail-places is_zero (cell b 10 i) (λ (g : ℕ). cell w g i) 5 15))
    ∙ meets-by (row w i 0 20) (row h i 0 5) (row b i 0 13) (cell b 0 i) (cell b 1 i)

---- All places

-- planes first, or places first
walk : (B S W T C : ℕ → Bool) (P : ℕ → ℕ → Bool) (m q : ℕ)
    → ((i : ℕ) → i < m → (B i && S i && W i && every (λ (k : ℕ). P k i) q) ≡ (T i && C i))
    → (every B m && (every S m && every W m) && every (λ (k : ℕ). every (P k) m) q) ≡ (every T m && every C m)
walk B S W T C P m q h =
    let Q : ℕ → Bool = λ (i : ℕ). every (λ (k : ℕ). P k i) q in
    let two : ℕ → Bool = λ (i : ℕ). B i && S i in
    let three : ℕ → Bool = λ (i : ℕ). B i && S i && W i in
    ap (λ (x : Bool). every B m && (every S m && every W m) && x) (every-swap P q m)
    ∙ ap (λ (x : Bool). x && every Q m) (sym (and_assoc (every B m) (every S m) (every W m)))
    ∙ sym (every-and three Q m
    ∙ ap (λ (x : Bool). x && every Q m) (every-and two W m ∙ ap (λ (x : Bool). x && every W m) (every-and B S m)))
    ∙ every-same (λ (i : ℕ). three i && Q i) (λ (i : ℕ). T i && C i) m h
    ∙ every-and T C m

empty-status : (s : ℕ) → eqb s 0 ≡ empty_by (status_of s)
empty-status s = by (eqb s 0) (eqb s 1)
  where
    by : (z y : Bool) → z ≡ empty_by (cond z Empty (cond y Live Broken))
    by true y = refl
    by false true = refl
    by false false = refl

-- every place filled: of the wide numbers only the deltas' range is left
module _ (w h b : List ℕ) where
  abbrev short_at : ℕ → Bool
  short_at i = short_test (row h i 0 5) (row b i 0 13)

  abbrev word_at : ℕ → Bool
  word_at i = word_test (row w i 0 20) (row b i 0 13)

  pub wide-filled : every (filled_at b) 64 ≡ true → every (coded_at w) 64 ≡ (every short_at 64 && every word_at 64)
  wide-filled e =
      let s = every_given (filled_at b) short_at (λ (i : ℕ). true) 64 e (λ i a. passed (filled_at b i) _ a) ∙ every_true 64 in
      let t = every_given (filled_at b) word_at (coded_at w) 64 e
      (λ i a. ap (λ (x : Bool). x && coded_at w i) (passed (filled_at b i) _ a)) in
      sym (λ j. s j && t j)

---- The table

sound-chosen : (f : Bool) (t : Table) → sound_of (cond f t unopened) ≡ (f && sound_of t)
sound-chosen true t = refl
sound-chosen false t = unsound-unopened

glue : (t c e s z : Bool) → s ≡ true → z ≡ true → (t && c && e) ≡ (z && t && (s && c && e))
glue t c e s z hs hz = rw (hs, hz) (and_assoc t c e)

module _ (l : Lent) where
  abbrev pub repeats : ℕ
  repeats = get_or l.bytes 832 0

  abbrev pub contexts : ℕ
  contexts = get_or l.bytes 833 0

  abbrev at : ℕ → DecompressorContext
  at = context_in l.words l.shorts l.bytes

  abbrev pub within : Bool
  within = settings.in_range repeats contexts

  sound_of-planes : sound_of (plane_table l) ≡ (within && every (λ (i : ℕ). sound_decompressor (at i)) 64
      && every (λ (i : ℕ). ltb i contexts || is_empty (at i)) 64)
  unfolding sound_of plane_table
  sound_of-planes =
      let a = all-places sound_decompressor at 0 64
      ∙ every-same (λ (i : ℕ). sound_decompressor (at (0 + i))) (λ (i : ℕ). sound_decompressor (at i)) 64
      (λ i h. ap (λ (x : ℕ). sound_decompressor (at x)) (zero-add i)) in
      let b = tail-places is_empty contexts at 0 64
      ∙ every-same (λ (i : ℕ). ltb i contexts || is_empty (at (0 + i))) (λ (i : ℕ). ltb i contexts || is_empty (at i)) 64
      (λ i h. ap (λ (x : ℕ). ltb i contexts || is_empty (at x)) (zero-add i)) in
      λ j. within && a j && b j

  unused-places : every (unused_at l.bytes contexts) 64 ≡ every (λ (i : ℕ). ltb i contexts || is_empty (at i)) 64
  unfolding context_of
  unused-places = every-same (unused_at l.bytes contexts) (λ (i : ℕ). ltb i contexts || is_empty (at i)) 64
      (λ i h. ap (λ (x : Bool). ltb i contexts || x) (empty-status (cell l.bytes 0 i)))

  together : (every (λ (i : ℕ). byte_test (row l.bytes i 0 13)) 64
      && (every (λ (i : ℕ). short_test (row l.shorts i 0 5) (row l.bytes i 0 13)) 64
      && every (λ (i : ℕ). word_test (row l.words i 0 20) (row l.bytes i 0 13)) 64)
      && every (λ (k : ℕ). every (past_at l.words l.bytes k) 64) 15)
      ≡ (every (typed l.bytes) 64 && every (λ (i : ℕ). sound_decompressor (at i)) 64)
  together =
      walk (λ (i : ℕ). byte_test (row l.bytes i 0 13)) (λ (i : ℕ). short_test (row l.shorts i 0 5) (row l.bytes i 0 13))
      (λ (i : ℕ). word_test (row l.words i 0 20) (row l.bytes i 0 13)) (typed l.bytes)
      (λ (i : ℕ). sound_decompressor (at i)) (past_at l.words l.bytes) 64 15
      (λ i h. meets l.words l.shorts l.bytes i)

  -- the walk's four answers are the table's soundness
  pub sound-walk : (a b c d : Bool) → sized l ≡ true → within ≡ true
      → a ≡ every (λ (i : ℕ). byte_test (row l.bytes i 0 13)) 64
      → b ≡ (every (λ (i : ℕ). short_test (row l.shorts i 0 5) (row l.bytes i 0 13)) 64
      && every (λ (i : ℕ). word_test (row l.words i 0 20) (row l.bytes i 0 13)) 64)
      → c ≡ every (λ (k : ℕ). every (past_at l.words l.bytes k) 64) 15
      → d ≡ every (unused_at l.bytes contexts) 64
      → (a && b && c && d) ≡ sound_of (table_of l)
  unfolding table_of fits
  sound-walk a b c d z s ha hb hc hd =
      (λ j. ha j && hb j && hc j && hd j)
      ∙ (λ j. together j && unused-places j)
      ∙ glue (every (typed l.bytes) 64) (every (λ (i : ℕ). sound_decompressor (at i)) 64)
      (every (λ (i : ℕ). ltb i contexts || is_empty (at i)) 64) within (sized l) s z
      ∙ ap (λ (x : Bool). fits l && x) (sym sound_of-planes)
      ∙ sym (sound-chosen (fits l) (plane_table l))

  -- slices of another length hold no sound table
  pub unsound-sized : sized l ≡ false → false ≡ sound_of (table_of l)
  unfolding table_of fits
  unsound-sized z = ap (λ (x : Bool). x && every (typed l.bytes) 64 && sound_of (plane_table l)) (sym z)
      ∙ sym (sound-chosen (fits l) (plane_table l))

  nothing : (f w a b : Bool) → w ≡ false → false ≡ (f && (w && a && b))
  nothing true w a b h = rw h
  nothing false w a b h = refl

  -- nor do those whose settings are out of range
  pub unsound-settings : within ≡ false → false ≡ sound_of (table_of l)
  unfolding table_of
  unsound-settings h = nothing (fits l) within (every (λ (i : ℕ). sound_decompressor (at i)) 64)
      (every (λ (i : ℕ). ltb i contexts || is_empty (at i)) 64) h
      ∙ ap (λ (x : Bool). fits l && x) (sym sound_of-planes)
      ∙ sym (sound-chosen (fits l) (plane_table l))
