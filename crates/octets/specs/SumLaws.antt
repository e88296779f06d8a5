-- Iarwennol. Laws of the ones' complement sum. Assume nothing.
-- Used by the proof of sum, by the checksums (headers), and wherever words are added in another order or folded at the end.
use Rattle.std.specs.Prelude.{ℕ, zero, suc, ◌+◌, ◌-◌, ◌*◌, ◌/◌, ◌%◌, ◌^◌, ◌≤◌, ◌<◌, ◌≡◌, refl, List, [], ◌∷◌, ◌++◌, length, take}
use Rattle.std.specs.Prelude.{drop}
use Rattle.std.proofs.Common.{sym, ap, ◌∙◌, add_assoc, add_comm, add-zero, add-one, arith, length-drop, drop_of_length-le}
use Rattle.std.proofs.Common.{take-append-drop, drop-cons, drop-drop, length-take-le}
use Rattle.codes.specs.Bytes.{AllBytes}
use Rattle.codes.specs.Bytes as bytes
use Rattle.codes.specs.Reading.{byte_at, word_at}
use Rattle.octets.specs.Sum.{plus, words_of, sum_of, total, folded, fold_once, AllWords, none, more}

---- plus

pub plus-lt : {a b : ℕ} → a < 65536 → b < 65536 → plus a b < 65536
unfolding plus
plus-lt h k = omega arith

pub plus-zero : {a : ℕ} → a < 65536 → plus a 0 ≡ a
unfolding plus
plus-zero h = omega arith

plus_comm : (a b : ℕ) → plus a b ≡ plus b a
unfolding plus
plus_comm a b = rw (add_comm a b)

-- two words from 0 on, or the second as the start value
pub plus-start : {a : ℕ} (b : ℕ) → a < 65536 → plus (plus 0 a) b ≡ plus b a
plus-start {a} b h = ap (λ (x : ℕ). plus x b) (plus_comm 0 a ∙ plus-zero h) ∙ plus_comm a b

---- folded

pub folded-word : (t : ℕ) → t < 65536 → folded t ≡ t
unfolding folded
folded-word zero h = refl
folded-word (suc t) h = omega arith

pub folded-lt : (t : ℕ) → folded t < 65536
unfolding folded
folded-lt zero = omega arith
folded-lt (suc t) = omega arith

folded-suc : (t u : ℕ) → u ≡ suc t → folded u ≡ t % 65535 + 1
unfolding folded
folded-suc t u e = rw e

-- what is folded already is folded again with the rest
pub folded-folded : (a b : ℕ) → folded (folded a + b) ≡ folded (a + b)
unfolding folded
folded-folded zero b = refl
folded-folded (suc t) b =
    rw (folded-suc (t % 65535 + b) (t % 65535 + 1 + b) (omega arith), folded-suc (t + b) (suc t + b) (omega arith)) (omega arith)

---- fold_once

-- enough for a sum of two words
fold_once-two : (t : ℕ) → t ≤ 131070 → fold_once t ≡ folded t
unfolding folded
fold_once-two zero h = refl
fold_once-two (suc t) h = omega arith

fold_once-le : (t : ℕ) → t < 2 ^ 32 → fold_once t ≤ 131070
fold_once-le t h = omega arith

folded-fold_once : (t : ℕ) → folded (fold_once t) ≡ folded t
unfolding folded
folded-fold_once zero = refl
folded-fold_once (suc t) = folded-suc (suc t % 65536 + suc t / 65536 - 1) (suc t % 65536 + suc t / 65536) (omega arith)
    ∙ omega arith

-- and twice for any sum of 32 bits
fold_once-twice : (t : ℕ) → t < 2 ^ 32 → fold_once (fold_once t) ≡ folded t
fold_once-twice t h = fold_once-two (fold_once t) (fold_once-le t h) ∙ folded-fold_once t

pub plus-folded : (a b : ℕ) → a < 65536 → b < 65536 → plus a b ≡ folded (a + b)
unfolding plus
plus-folded a b h k = fold_once-two (a + b) (omega arith)

---- total

total-le : {ws : List ℕ} → AllWords ws → total ws ≤ 65535 * length ws
total-le none = omega arith
total-le (more h a) = let k = total-le a in omega arith

pub total-append : (xs ys : List ℕ) → total (xs ++ ys) ≡ total xs + total ys
total-append [] ys = omega arith
total-append (x ∷ xs) ys = let e = total-append xs ys in omega arith

---- sum_of

pub sum_of-append : (start : ℕ) (xs ys : List ℕ) → sum_of start (xs ++ ys) ≡ sum_of (sum_of start xs) ys
sum_of-append start [] ys = refl
sum_of-append start (x ∷ xs) ys = sum_of-append (plus start x) xs ys

-- the sum stays a number of 16 bits
pub sum_of-lt : {start : ℕ} {ws : List ℕ} → start < 65536 → AllWords ws → sum_of start ws < 65536
sum_of-lt h none = h
sum_of-lt {start = start} h (more {w = w} k a) = sum_of-lt {start = plus start w} (plus-lt h k) a

-- a word of 0 adds nothing
pub sum_of-zero : (start : ℕ) {xs : List ℕ} (ys : List ℕ) → start < 65536 → AllWords xs
    → sum_of start (xs ++ (0 ∷ ys)) ≡ sum_of start (xs ++ ys)
sum_of-zero start {xs} ys h a =
    sum_of-append start xs (0 ∷ ys) ∙ rw (plus-zero (sum_of-lt h a)) (sym (sum_of-append start xs ys))

folded-step : (start w t : ℕ) → start < 65536 → w < 65536 → folded (plus start w + t) ≡ folded (start + (w + t))
folded-step start w t h k = rw (plus-folded start w h k, folded-folded, add_assoc)

-- folding after every addition is folding once at the end
pub sum_of-folded : (start : ℕ) {ws : List ℕ} → start < 65536 → AllWords ws → sum_of start ws ≡ folded (start + total ws)
sum_of-folded start h none = sym (rw (add-zero) (folded-word start h))
sum_of-folded start h (more {w} {ws} k a) = sum_of-folded (plus start w) (plus-lt h k) a ∙ folded-step start w (total ws) h k

-- The carries put back at the end: for up to 800 words this is what putting them back after every addition gives.
pub sum_of-at-end : (start : ℕ) {ws : List ℕ} → start < 65536 → AllWords ws → length ws ≤ 800
    → sum_of start ws ≡ fold_once (fold_once (start + total ws))
sum_of-at-end start {ws} h a k = sum_of-folded start h a ∙ sym (fold_once-twice (start + total ws) (omega (arith, total-le a)))

-- where once is not enough
carry-left : fold_once (total (0xFFFF ∷ 0xFFFF ∷ 0x0001 ∷ [])) ≡ 0x10000
carry-left = refl

-- the order of the words does not matter
pub sum_of-order : (start : ℕ) {xs ys : List ℕ} → start < 65536 → AllWords xs → AllWords ys → total xs ≡ total ys
    → sum_of start xs ≡ sum_of start ys
sum_of-order start h a b e = sum_of-folded start h a ∙ rw e (sym (sum_of-folded start h b))

---- words_of

-- a part of an even length, then the rest
pub words_of-append : (xs ys : List ℕ) → length xs % 2 ≡ 0 → words_of (xs ++ ys) ≡ words_of xs ++ words_of ys
words_of-append [] ys e = refl
words_of-append (a ∷ []) ys e = absurd (omega arith)
words_of-append (a ∷ b ∷ xs) ys e = rw (words_of-append xs ys (omega arith))

pub AllWords-append : {xs ys : List ℕ} → AllWords xs → AllWords ys → AllWords (xs ++ ys)
AllWords-append none b = b
AllWords-append (more h a) b = more h (AllWords-append a b)

pub AllWords-words_of : {s : List ℕ} → AllBytes s → AllWords (words_of s)
AllWords-words_of bytes.none = none
AllWords-words_of (bytes.more {b = a} h bytes.none) = more {w = a * 256} (omega arith) none
AllWords-words_of (bytes.more {b = a} h (bytes.more {b = b} k r)) = more {w = a * 256 + b} (omega arith) (AllWords-words_of r)

pub length-words_of : (s : List ℕ) → length (words_of s) ≡ (length s + 1) / 2
length-words_of [] = refl
length-words_of (a ∷ []) = refl
length-words_of (a ∷ b ∷ s) = let e = length-words_of s in omega arith

-- two bytes further, at an odd byte, and past the last, for the loop that adds
module _ (s : List ℕ) (i : ℕ) where
  drop-two : i + 2 ≤ length s → drop i s ≡ byte_at s i ∷ byte_at s (i + 1) ∷ drop (i + 2) s
  drop-two h =
      let two : i + 2 ≡ suc (i + 1) = omega arith in
      rw (drop-cons s i 0 (omega arith), ← add-one, drop-cons s (i + 1) 0 (omega arith), two)

  pub words_of-drop : i + 2 ≤ length s → words_of (drop i s) ≡ word_at s i ∷ words_of (drop (i + 2) s)
  words_of-drop h = rw (drop-two h)

  pub words_of-odd : (w : ℕ) → w ≡ byte_at s i * 256 → length s ≡ i + 1 → words_of (drop i s) ≡ w ∷ []
  words_of-odd w e h = rw (e, drop-cons s i 0 (omega arith), drop_of_length-le s {i = suc i} (omega arith))

  pub words_of-end : length s ≤ i → words_of (drop i s) ≡ []
  words_of-end h = rw (drop_of_length-le s h)

  -- the first word of a part, for sums over parts of a packet
  pub words_of-part : (n : ℕ) → i + 2 ≤ length s
      → words_of (take (suc (suc n)) (drop i s)) ≡ word_at s i ∷ words_of (take n (drop (i + 2) s))
  words_of-part n h = rw (drop-two h)

  -- a part of an even length up to a place, then the rest
  pub sum_of-split : (start to : ℕ) → i ≤ to → to ≤ length s → (to - i) % 2 ≡ 0
      → sum_of start (words_of (drop i s)) ≡ sum_of (sum_of start (words_of (take (to - i) (drop i s)))) (words_of (drop to s))
  sum_of-split start to h k e =
      let size = length-take-le (to - i) (drop i s) (omega (arith, length-drop i s)) in
      let back : i + (to - i) ≡ to = omega arith in
      ap (λ (l : List ℕ). sum_of start (words_of l)) (sym (take-append-drop (to - i) (drop i s)))
      ∙ rw (words_of-append (take (to - i) (drop i s)) (drop (to - i) (drop i s)) (omega arith), sum_of-append, drop-drop, back)
