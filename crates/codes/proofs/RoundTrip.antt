-- Iarwennol. What was written is read back: numbers, and codes in all five rows, once over the width. Assumes nothing.
-- A reading is about what is left from a place on: `drop at s ≡ written ++ rest`. Used by the round trips of the layouts (links).
use Rattle.std.specs.Prelude.{◌≡◌, ℕ, ◌+◌, ◌-◌, ◌*◌, ◌^◌, ◌<◌, ◌≤◌, Bool, true, false, ◌||◌, List, ◌∷◌, ◌++◌, length, drop, nat_le}
use Rattle.std.specs.Prelude.{nat_lt, slice_index}
use Rattle.std.proofs.Math.Path.{refl}
use Rattle.std.proofs.Common.{sym, ap, ◌∙◌, add-zero, mod-eq_of_lt, lt-ltb, ltb-true, ltb-false, leb-true, leb-false, length-drop}
use Rattle.std.proofs.Common.{get_or-drop, drop-drop}
use native.Mathlib.Omega.{arith}
use Rattle.codes.specs.Bytes.{big_endian}
use Rattle.codes.specs.Difference.{has_code}
use Rattle.codes.specs.Code.{rows, code_in, code_of}
use Rattle.codes.specs.CodeLaws.{code_in-low, code_in-near, code_in-middle, code_in-far, code_in-high}
use Rattle.codes.specs.Reading.{accepted, byte_at, word_at, value_in, read_byte, read_word, read_long, read_by, read_delta}
use Rattle.codes.proofs.ReadingLaws.{field_at-there, value_in-near, value_in-middle, value_in-far}
use Rattle.codes.proofs.ReadingLaws.{value_in-high, read_by-one, read_by-two, read_by-three}

---- what is left from a place on

module _ (s : List ℕ) (at : ℕ) (l : List ℕ) (e : drop at s ≡ l) where
  pub left-length : 0 < length l → at + length l ≡ length s
  left-length h = let n : length l ≡ length s - at = sym (ap length e) ∙ length-drop at s in omega arith

  pub left-byte : (k : ℕ) → byte_at s (at + k) ≡ slice_index l k
  left-byte k = sym (get_or-drop at s k 0) ∙ ap (λ (x : List ℕ). slice_index x k) e

  pub left-first : byte_at s at ≡ slice_index l 0
  left-first = rw add-zero at (left-byte 0)

  pub left_after : (k : ℕ) → drop (at + k) s ≡ drop k l
  left_after k = sym (drop-drop k at s) ∙ ap (λ (x : List ℕ). drop k x) e

---- numbers

module _ (s : List ℕ) (at v : ℕ) (rest : List ℕ) where
  pub read_byte-written : drop at s ≡ v ∷ rest → read_byte s at ≡ accepted v (at + 1)
  unfolding read_byte
  read_byte-written e =
      let n = left-length s at _ e (omega arith) in
      rw (left-first s at _ e) (field_at-there s at 1 v (omega arith))

  pub read_word-written : v < 2 ^ 16 → drop at s ≡ big_endian 2 v ++ rest → read_word s at ≡ accepted v (at + 2)
  unfolding read_word
  read_word-written h e =
      let n = left-length s at _ e (omega arith) in
      let f = left-first s at _ e in
      let g = left-byte s at _ e 1 in
      let q : word_at s at ≡ v = omega arith in
      rw q (field_at-there s at 2 v (omega arith))

  pub read_long-written : v < 2 ^ 32 → drop at s ≡ big_endian 4 v ++ rest → read_long s at ≡ accepted v (at + 4)
  unfolding read_long
  read_long-written h e =
      let n = left-length s at _ e (omega arith) in
      let f = left-first s at _ e in
      let g = left-byte s at _ e 1 in
      let i = left-byte s at _ e 2 in
      let j = left-byte s at _ e 3 in
      let q : word_at s at * 65536 + (byte_at s (at + 2) * 256 + byte_at s (at + 3)) ≡ v = omega arith in
      rw q (field_at-there s at 4 v (omega arith))

---- codes

-- a code's bytes are read as the number that they are
module _ (m : ℕ) (s : List ℕ) (at c : ℕ) (rest : List ℕ) where
  read_by-two-written : 0x8000 ≤ c → c < 0xC000 → drop at s ≡ big_endian 2 c ++ rest → read_by m s at
      ≡ value_in (rows m) m 2 c (at + 2)
  read_by-two-written h k e =
      let n = left-length s at _ e (omega arith) in
      let f = left-first s at _ e in
      let g = left-byte s at _ e 1 in
      read_by-two m s at c (omega arith) (omega arith) (omega arith) (omega arith)

  read_by-three-written : 0xC00000 ≤ c → c < 0x1000000 → drop at s ≡ big_endian 3 c ++ rest
      → read_by m s at ≡ value_in (rows m) m 3 c (at + 3)
  read_by-three-written h k e =
      let n = left-length s at _ e (omega arith) in
      let f = left-first s at _ e in
      let g = left-byte s at _ e 1 in
      let i = left-byte s at _ e 2 in
      read_by-three m s at c (omega arith) (omega arith) (omega arith)

-- the bytes c, written where the reader stands, are read as d
abbrev pub Back : (m : ℕ) → List ℕ → (at d : ℕ) → (rest c : List ℕ) → Type 0
Back m s at d rest c = drop at s ≡ c ++ rest → read_by m s at ≡ accepted d (at + length c)

-- the five rows
module _ (m : ℕ) (s : List ℕ) (at d : ℕ) (rest : List ℕ) (wide : 32768 ≤ m) (fits : d < m) where
  row_low : d < 128 → Back m s at d rest (big_endian 1 d)
  row_low h e =
      let n = left-length s at _ e (omega arith) in
      let f = left-first s at _ e in
      let q : byte_at s at ≡ d = omega arith in
      read_by-one m s at (omega arith) (omega arith) ∙ rw (q, mod-eq_of_lt fits)

  row_near : (c : ℕ) → c ≡ 0x8000 + (d - (m - 128)) → m - 128 ≤ d → Back m s at d rest (big_endian 2 c)
  row_near c v h e =
      let q : m - 128 + (c - 0x8000) ≡ d = omega arith in
      read_by-two-written m s at c rest (omega arith) (omega arith) e
      ∙ value_in-near m c (at + 2) (omega arith) (omega arith) ∙ rw (q, mod-eq_of_lt fits)

  row-middle : 128 ≤ d → d < 16384 → Back m s at d rest (big_endian 2 (0x8080 + (d - 128)))
  row-middle h k e =
      let q : 128 + (0x8080 + (d - 128) - 0x8080) ≡ d = omega arith in
      read_by-two-written m s at (0x8080 + (d - 128)) rest (omega arith) (omega arith) e
      ∙ value_in-middle m (0x8080 + (d - 128)) (at + 2) (omega arith) (omega arith) ∙ rw (q, mod-eq_of_lt fits)

  row-far : (c : ℕ) → c ≡ 0xC00000 + (d - (m - 16384)) → m - 16384 ≤ d → d < m - 128 → Back m s at d rest (big_endian 3 c)
  row-far c v h k e =
      let q : m - 16384 + (c - 0xC00000) ≡ d = omega arith in
      read_by-three-written m s at c rest (omega arith) (omega arith) e
      ∙ value_in-far m c (at + 3) (omega arith) (omega arith) ∙ rw (q, mod-eq_of_lt fits)

  row-high : 16384 ≤ d → d < 4194304 → Back m s at d rest (big_endian 3 (0xC04000 + (d - 16384)))
  row-high h k e =
      let q : 16384 + (0xC04000 + (d - 16384) - 0xC04000) ≡ d = omega arith in
      read_by-three-written m s at (0xC04000 + (d - 16384)) rest (omega arith) (omega arith) e
      ∙ value_in-high m (0xC04000 + (d - 16384)) (at + 3) (omega arith) (omega arith) ∙ rw (q, mod-eq_of_lt fits)

  -- the row that has d, by the tests of its bounds
  negative : m - 16384 ≤ d → Back m s at d rest (code_in (rows m) d)
  negative h = by (nat_lt d (m - 128)) refl
    where
      by : (b : Bool) → nat_lt d (m - 128) ≡ b → Back m s at d rest (code_in (rows m) d)
      by true e = rw (code_in-far m d wide _ refl h (ltb-true _ _ e)) (row-far _ refl h (ltb-true _ _ e))
      by false e = rw (code_in-near m d wide _ refl (ltb-false _ _ e) fits) (row_near _ refl (ltb-false _ _ e))

  positive : d < m - 16384 → d < 4194304 → Back m s at d rest (code_in (rows m) d)
  positive h k = by (nat_lt d 128) (nat_lt d 16384) refl refl
    where
      by : (a b : Bool) → nat_lt d 128 ≡ a → nat_lt d 16384 ≡ b → Back m s at d rest (code_in (rows m) d)
      by true b e f = rw (code_in-low m d wide (ltb-true _ _ e)) (row_low (ltb-true _ _ e))
      by false true e f =
          rw (code_in-middle m d wide (ltb-false _ _ e) (ltb-true _ _ f)) (row-middle (ltb-false _ _ e) (ltb-true _ _ f))
      by false false e f = rw (code_in-high m d wide (ltb-false _ _ f) h k) (row-high (ltb-false _ _ f) k)

-- the code of a difference, then anything, is read as the difference, and the reader stands past the code
module _ (w : ℕ) (s : List ℕ) (at d : ℕ) (rest : List ℕ) (wide : 32768 ≤ 2 ^ w) (fits : d < 2 ^ w) where
  pub read_delta-code_of : has_code w d ≡ true → drop at s ≡ code_of w d ++ rest
      → read_delta w s at ≡ accepted d (at + length (code_of w d))
  unfolding has_code code_of
  read_delta-code_of c = by (nat_le (2 ^ w - 16384) d) (nat_lt d 4194304) refl refl c
    where
      by : (a b : Bool) → nat_le (2 ^ w - 16384) d ≡ a → nat_lt d 4194304 ≡ b → (b || a) ≡ true
          → Back (2 ^ w) s at d rest (code_in (rows (2 ^ w)) d)
      by true b e f c = negative (2 ^ w) s at d rest wide fits (leb-true _ _ e)
      by false true e f c = positive (2 ^ w) s at d rest wide fits (leb-false _ _ e) (ltb-true _ _ f)
      by false false e f c = λ p. cc

---- at the two widths

-- a difference of 16 bits always has a code
pub has_code-16 : (d : ℕ) → d < 2 ^ 16 → has_code 16 d ≡ true
unfolding has_code
has_code-16 d h = rw (lt-ltb d 4194304 (omega arith))

module _ (s : List ℕ) (at d : ℕ) (rest : List ℕ) where
  pub read_delta-16 : d < 2 ^ 16 → drop at s ≡ code_of 16 d ++ rest → read_delta 16 s at ≡ accepted d (at + length (code_of 16 d))
  read_delta-16 h = read_delta-code_of 16 s at d rest (omega arith) h (has_code-16 d h)

  pub read_delta-32 : d < 2 ^ 32 → has_code 32 d ≡ true → drop at s ≡ code_of 32 d ++ rest
      → read_delta 32 s at ≡ accepted d (at + length (code_of 32 d))
  read_delta-32 h = read_delta-code_of 32 s at d rest (omega arith) h
