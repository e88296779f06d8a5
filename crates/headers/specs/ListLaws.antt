-- Iarwennol. Laws of the CSRC list and its bytes. Assume nothing.
-- Used by the laws of the header, by the loop that reads a list, and by readers of a list elsewhere (links).
use Rattle.std.specs.Prelude.{ℕ, zero, suc, ◌+◌, ◌-◌, ◌*◌, ◌^◌, ◌≤◌, ◌<◌, ◌≡◌, refl, List, [], ◌∷◌, ◌++◌, length, get_or, set, take}
use Rattle.std.specs.Prelude.{drop, replicate}
use Rattle.std.proofs.Common.{sym, ap, ◌∙◌, add_assoc, add-one, arith, take-append-drop, length-append, length-drop, length-take-le}
use Rattle.std.proofs.Common.{get_or-drop, drop-drop, take_at, drop_at}
use Rattle.std.proofs.lemmas.List.{length-replicate, set_at}
use Rattle.std.proofs.Math.Seq.{append_snoc}
use Rattle.codes.specs.Bytes.{AllBytes, big_endian}
use Rattle.codes.specs.Reading.{byte_at, long_at}
use Rattle.codes.proofs.BytesRead.{AllBytes-drop, long_at-lt, long_at-big_endian, big_endian-long_at, places-drop}
use Rattle.packet.specs.Ranges.{ListInRange}
use Rattle.packet.specs.RangesLaws.{zero-words}
use Rattle.packet.specs.declared.csrc.Csrc.{Csrc}
use Rattle.octets.specs.Put.{words, list_bytes}
use Rattle.octets.specs.PutLaws.{length-words}
use Rattle.headers.specs.Header.{longs, list_at}

---- longs

pub length-longs : (n : ℕ) (s : List ℕ) → length (longs n s) ≡ n
length-longs zero s = refl
length-longs (suc n) s = ap suc (length-longs n (drop 4 s))

long_at-drop : (s : List ℕ) (at i : ℕ) → long_at (drop at s) i ≡ long_at s (at + i)
long_at-drop s at i = simp (get_or-drop, add_assoc)

-- one word more
longs-last : (n : ℕ) (s : List ℕ) → longs (suc n) s ≡ longs n s ++ (long_at s (4 * n) ∷ [])
longs-last zero s = refl
longs-last (suc n) s =
    let e : 4 * suc n ≡ 4 + 4 * n = omega arith in
    ap {B = List ℕ} (λ r. long_at s 0 ∷ r) (longs-last n (drop 4 s) ∙ rw (long_at-drop s 4 (4 * n), e))

-- words that were written are read back
pub longs-words : (ws rest : List ℕ) → ((i : ℕ) → get_or ws i 0 < 2 ^ 32) → longs (length ws) (words ws ++ rest) ≡ ws
longs-words [] rest h = refl
longs-words (w ∷ ws) rest h = λ i. long_at-big_endian w (h 0) (words ws ++ rest) i ∷ longs-words ws rest (λ j. h (suc j)) i

words_step : {s : List ℕ} → AllBytes s → 4 ≤ length s → (x r : List ℕ) → x ++ r ≡ drop 4 s
    → (big_endian 4 (long_at s 0) ++ x) ++ r ≡ s
words_step {s} a h x r e =
    ap (λ (b : List ℕ). (b ++ x) ++ r) (big_endian-long_at a 0)
    ∙ ap {B = List ℕ} (λ l. byte_at s 0 ∷ byte_at s 1 ∷ byte_at s 2 ∷ byte_at s 3 ∷ l) e
    ∙ places-drop 4 s h

-- words that were read are written back
pub words-longs : (n : ℕ) {s : List ℕ} → AllBytes s → 4 * n ≤ length s → words (longs n s) ++ drop (4 * n) s ≡ s
words-longs zero a h = refl
words-longs (suc n) {s} a h =
    let e : 4 * suc n ≡ 4 + 4 * n = omega arith in
    let k : 4 * n ≤ length (drop 4 s) = simp length-drop (omega arith) in
    words_step a (omega arith) (words (longs n (drop 4 s))) (drop (4 * suc n) s)
    (rw (e, ← drop-drop (4 * n) 4 s) (words-longs n (AllBytes-drop 4 a) k))

---- list_at

length-list_at : (n : ℕ) (s : List ℕ) → n ≤ 15 → length (longs n s ++ replicate (15 - n) 0) ≡ 15
length-list_at n s h = rw (length-append, length-longs n s, length-replicate) (omega arith)

longs-more : (s : List ℕ) (at i : ℕ) (z : List ℕ)
    → longs (i + 1) (drop at s) ++ z ≡ longs i (drop at s) ++ long_at s (at + 4 * i) ∷ z
longs-more s at i z =
    ap (λ n. longs n (drop at s) ++ z) (add-one i)
    ∙ ap (λ l. l ++ z) (longs-last i (drop at s))
    ∙ append_snoc (longs i (drop at s)) (long_at (drop at s) (4 * i)) z
    ∙ ap (λ v. longs i (drop at s) ++ v ∷ z) (long_at-drop s at (4 * i))

-- one word more, for the loop that reads a list
pub set-list_at : (s : List ℕ) (at i : ℕ) → i < 15
    → set (longs i (drop at s) ++ replicate (15 - i) 0) i (long_at s (at + 4 * i)) ≡ longs (i + 1) (drop at s)
    ++ replicate (15 - (i + 1)) 0
set-list_at s at i h =
    let e : 15 - i ≡ suc (15 - (i + 1)) = omega arith in
    ap (λ n. set (longs i (drop at s) ++ replicate n 0) i (long_at s (at + 4 * i))) e
    ∙ set_at (longs i (drop at s)) 0 (replicate (15 - (i + 1)) 0) (long_at s (at + 4 * i)) i (length-longs i (drop at s))
    ∙ sym (longs-more s at i (replicate (15 - (i + 1)) 0))

longs-lt : (n k : ℕ) {s : List ℕ} → AllBytes s → (i : ℕ) → get_or (longs n s ++ replicate k 0) i 0 < 2 ^ 32
longs-lt zero k a i = zero-words k i
longs-lt (suc n) k a zero = long_at-lt a 0
longs-lt (suc n) k a (suc i) = longs-lt n k (AllBytes-drop 4 a) i

pub list_at-range : {s : List ℕ} → AllBytes s → (at n : ℕ) → n ≤ 15 → ListInRange (list_at s at n)
list_at-range {s} a at n h = record {
  count = h;
  size = length-list_at n (drop at s) h;
  each = longs-lt n (15 - n) (AllBytes-drop at a);
  blank = drop_at (longs n (drop at s)) (replicate (15 - n) 0) n (length-longs n (drop at s));
}

---- list_bytes

take-lt : (n : ℕ) (l : List ℕ) → ((i : ℕ) → get_or l i 0 < 2 ^ 32) → (i : ℕ) → get_or (take n l) i 0 < 2 ^ 32
take-lt zero l h i = omega arith
take-lt (suc n) [] h i = omega arith
take-lt (suc n) (x ∷ l) h zero = h 0
take-lt (suc n) (x ∷ l) h (suc i) = take-lt n l (λ j. h (suc j)) i

-- a list that was written is read back
pub longs-list_bytes : (l : Csrc) (rest : List ℕ) → ListInRange l
    → longs l.count (list_bytes l ++ rest) ++ replicate (15 - l.count) 0 ≡ l.words
longs-list_bytes l rest r =
    let m = l.count in
    let e : length (take m l.words) ≡ m = length-take-le m l.words (omega arith) in
    let f : longs m (list_bytes l ++ rest) ≡ take m l.words = rw e
    at (longs-words (take m l.words) rest (take-lt m l.words r.each)) in
    rw (f, ← r.blank) (take-append-drop m l.words)

-- a list that was read is written back
pub list_bytes-list_at : {s : List ℕ} → AllBytes s → (at n : ℕ) → at + 4 * n ≤ length s
    → list_bytes (list_at s at n) ++ drop (at + 4 * n) s ≡ drop at s
list_bytes-list_at {s} a at n h =
    rw (take_at (longs n (drop at s)) (replicate (15 - n) 0) n (length-longs n (drop at s)), ← drop-drop (4 * n) at s)
    (words-longs n (AllBytes-drop at a) (simp length-drop (omega arith)))

pub length-list_bytes : (l : Csrc) → l.count ≤ length l.words → length (list_bytes l) ≡ 4 * l.count
length-list_bytes l h = rw (length-words, length-take-le l.count l.words h)
