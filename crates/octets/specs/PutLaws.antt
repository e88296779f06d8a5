-- Iarwennol. Laws of bytes that are put one after another. Assume nothing.
-- A function of several puts is proved by one `wrote_then` per put and one `wrote-front` where it began at the front.
use Rattle.std.specs.Prelude.{ℕ, suc, ◌+◌, ◌*◌, ◌≤◌, ◌<◌, ◌≡◌, refl, Bool, true, false, List, [], ◌∷◌, ◌++◌, length, get_or, take}
use Rattle.std.specs.Prelude.{drop}
use Rattle.std.proofs.Common.{sym, ◌∙◌, append-nil, add-zero, zero-add, add-one, arith, length-append, drop_of_length-le, take-suc}
use Rattle.std.proofs.lemmas.List.Edits.{sets, sets-eq}
use Rattle.std.proofs.Math.Seq.{length-sets, take-append_seam}
use Rattle.codes.specs.Bytes.{AllBytes, none, big_endian}
use Rattle.codes.specs.BytesLaws.{AllBytes-append, AllBytes-big_endian}
use Rattle.octets.specs.Put.{Wrote, fronted, optional, words}

---- sets

-- two runs, the second where the first ends, are one
pub sets_then : (xs ys l : List ℕ) (i j : ℕ) → j ≡ i + length xs → sets (sets l i xs) j ys ≡ sets l i (xs ++ ys)
sets_then [] ys l i j e = rw (e, add-zero)
sets_then (x ∷ xs) ys l i j e = sets_then xs ys _ (suc i) j (omega arith)

sets-front : (bs l : List ℕ) → length bs ≤ length l → sets l 0 bs ≡ fronted l bs
sets-front bs l h = sets-eq bs l 0 (omega arith) ∙ rw zero-add

---- Wrote

-- one run after another
pub wrote_then : {l₀ l₁ l₂ : List ℕ} {at r₁ r₂ : ℕ} {xs ys : List ℕ} → Wrote l₀ l₁ at r₁ xs → Wrote l₁ l₂ r₁ r₂ ys
    → Wrote l₀ l₂ at r₂ (xs ++ ys)
wrote_then {l₀} {l₁} {l₂} {at} {r₁} {r₂} {xs} {ys} a b = record {
  ends = omega (arith, a.ends, b.ends, length-append xs ys);
  holds = b.holds ∙ rw a.holds (sets_then xs ys l₀ at r₁ a.ends);
}

-- a run from the front
pub wrote-front : {l₀ l₁ : List ℕ} {r : ℕ} {bs : List ℕ} → Wrote l₀ l₁ 0 r bs → length bs ≤ length l₀ → l₁ ≡ fronted l₀ bs
wrote-front {l₀} {l₁} {r} {bs} w h = w.holds ∙ sets-front bs l₀ h

-- a run that fills the output
pub wrote-whole : {l₀ l₁ : List ℕ} {r : ℕ} {bs : List ℕ} → Wrote l₀ l₁ 0 r bs → length bs ≡ length l₀ → l₁ ≡ bs
wrote-whole {l₀} {l₁} {r} {bs} w e =
    wrote-front w (omega arith) ∙ rw (drop_of_length-le l₀ {i = length bs} (omega arith), append-nil)

-- a run from the front, taken out again
pub wrote-taken : {l₀ l₁ : List ℕ} {r : ℕ} {bs : List ℕ} → Wrote l₀ l₁ 0 r bs → length bs ≤ length l₀ → take r l₁ ≡ bs
wrote-taken {l₀} {l₁} {r} {bs} w h =
    let e : r ≡ length bs = omega (arith, w.ends) in
    rw (e, wrote-front w h) (take-append_seam bs (drop (length bs) l₀))

pub wrote_nothing : {l : List ℕ} {at : ℕ} → Wrote l l at at []
wrote_nothing {l} {at} = record { ends = sym (add-zero at); holds = refl }

pub wrote-length : {l₀ l₁ : List ℕ} {at r : ℕ} {bs : List ℕ} → Wrote l₀ l₁ at r bs → length l₁ ≡ length l₀
wrote-length {l₀} {l₁} {at} {r} {bs} w = rw w.holds (length-sets l₀ at bs)

---- optional

pub length-optional-le : (w : Bool) (bs : List ℕ) → length (optional w bs) ≤ length bs
length-optional-le true bs = omega arith
length-optional-le false bs = omega arith

pub AllBytes-optional : (w : Bool) {bs : List ℕ} → AllBytes bs → AllBytes (optional w bs)
AllBytes-optional true a = a
AllBytes-optional false a = none

---- take

-- one element more
pub take-one : (l : List ℕ) (i : ℕ) → i < length l → take (i + 1) l ≡ take i l ++ (get_or l i 0 ∷ [])
take-one l i h = rw add-one (take-suc l i 0 h)

---- words

words_append : (a b : List ℕ) → words (a ++ b) ≡ words a ++ words b
words_append [] b = refl
words_append (x ∷ a) b = rw (words_append a b)

-- one word more
pub words_take : (l : List ℕ) (i : ℕ) → i < length l → words (take (i + 1) l) ≡ words (take i l) ++ big_endian 4 (get_or l i 0)
words_take l i h = rw (take-one l i h, words_append)

pub length-words : (l : List ℕ) → length (words l) ≡ 4 * length l
length-words [] = refl
length-words (x ∷ l) = let e = length-words l in omega arith

pub AllBytes-words : (l : List ℕ) → AllBytes (words l)
AllBytes-words [] = none
AllBytes-words (w ∷ ws) = AllBytes-append (AllBytes-big_endian 4 w) (AllBytes-words ws)
