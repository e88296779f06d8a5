-- Iarwennol. Planes of 64 numbers, one for each field of a context: field f of the context at place i stands at 64 f + i.
-- Used by the layouts of both tables.
use Rattle.std.specs.Prelude.{ℕ, zero, suc, ◌+◌, ◌*◌, Bool, true, ◌&&◌, ◌||◌, List, [], ◌∷◌, get_or, set, eqb, ltb}

-- the three slices that a table is lent in: numbers of 32, of 16 and of 8 bits
pub record Lent : Type 0 where
  pub words : List ℕ
  pub shorts : List ℕ
  pub bytes : List ℕ

abbrev pub lent : (w h b : List ℕ) → Lent
lent w h b = record { words = w; shorts = h; bytes = b }

-- the number of plane f at place i
abbrev pub cell : List ℕ → (f i : ℕ) → ℕ
cell l f i = get_or l (64 * f + i) 0

-- what a function gives at n places, from i on
abbrev pub places : {A : Type 0} → (ℕ → A) → (i n : ℕ) → List A
places f i zero = []
places f i (suc n) = f i ∷ places f (suc i) n

-- the row of place i: n numbers, from plane f on
abbrev pub row : List ℕ → (i f n : ℕ) → List ℕ
row l i f n = places (λ (g : ℕ). cell l g i) f n

-- the same of a plane of anything: d stands for what lies past its end
abbrev pub row_or : {A : Type 0} → List A → (d : A) → (i f n : ℕ) → List A
row_or l d i f n = places (λ (g : ℕ). get_or l (64 * g + i) d) f n

-- the row of place i replaced, from plane f on
abbrev pub replaced : {A : Type 0} → List A → (i f : ℕ) → List A → List A
replaced l i f [] = l
replaced l i f (v ∷ vs) = replaced (set l (64 * f + i) v) i (suc f) vs

-- a test that every place below n passes
abbrev pub every : (ℕ → Bool) → (n : ℕ) → Bool
every f zero = true
every f (suc n) = every f n && f n

-- Lists of words, word k of each in plane f + k, and how many words each has in plane c: word k of the list of place i is 0 unless
-- the count reaches past it
abbrev pub past_at : (f c : ℕ) → (w b : List ℕ) → (k i : ℕ) → Bool
past_at f c w b k i = ltb k (cell b c i) || eqb (cell w (f + k) i) 0

-- a place from k on is not in use: its status, in plane 0, is 0 (rule 2.2)
abbrev pub unused_at : (b : List ℕ) → (k i : ℕ) → Bool
unused_at b k i = ltb i k || eqb (cell b 0 i) 0
