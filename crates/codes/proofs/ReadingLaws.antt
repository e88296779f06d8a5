-- Iarwennol. Laws of the cursor's answers: a law for each size and row of a code, once over the modulus m. Assume nothing.
-- Used by the proofs of the cursor (by tests on the bytes) and by the round trips (by what is left from a place on).
use Rattle.std.specs.Prelude.{◌≡◌, ℕ, ◌+◌, ◌-◌, ◌%◌, ◌<◌, ◌≤◌, Bool, true, false, cond, not, List, length, nat_lt, Err, refl}
use Rattle.std.proofs.Common.{sym, ap, ◌∙◌, arith}
use borrow.Author.Tests.{lt-ltb, le-ltb, lt-leb, le-leb, ltb-true, ltb-false, leb-true, leb-false, not-true, not-false}
use Rattle.std.proofs.Math.ListN.{get_or-eq_default}
use Rattle.codes.specs.Code.{rows}
use Rattle.codes.specs.CodeLaws.{among_in, among_below, among-above}
use Rattle.codes.specs.Reading.{Reading, accepted, refused, said, has, byte_at, word_at, triple_at, read_byte}
use Rattle.codes.specs.declared.cursor.Unreadable.{Unreadable}
use Rattle.codes.specs.declared.cursor.Unreadable.TheVariants.{Cut, UnusedCode}
use Rattle.codes.specs.Reading.{field_at, value_in, code_at, read_by}

---- has: what a test of it tells

module _ (s : List ℕ) (at n : ℕ) (r : Bool) (e : r ≡ has s at n) where
  pub has_there : not r ≡ false → at + n ≤ length s
  has_there f = leb-true (at + n) (length s) (sym e ∙ not-false r f)

  pub has-cut : not r ≡ true → length s < at + n
  has-cut f = leb-false (at + n) (length s) (sym e ∙ not-true r f)

---- field_at

module _ (s : List ℕ) (at n v : ℕ) where
  pub field_at-there : at + n ≤ length s → field_at s at n v ≡ accepted v (at + n)
  field_at-there h = rw (le-leb (at + n) (length s) h)

  pub field_at-cut : length s < at + n → field_at s at n v ≡ refused 4
  field_at-cut h = rw (lt-leb (at + n) (length s) h)

---- read_byte: what an answer tells of the bytes

-- an accepted reading has the number 0, a refused one its own
accepted-number : (v past n : ℕ) → accepted v past ≡ refused n → n ≡ 0
accepted-number v past n e = sym (ap (λ (r : Reading). r.number) e)

refused-number : (m n : ℕ) → refused m ≡ refused n → m ≡ n
refused-number m n e = ap (λ (r : Reading). r.number) e

module _ (s : List ℕ) (at : ℕ) where
  pub byte-there : (v past : ℕ) → accepted v past ≡ read_byte s at → (at + 1 ≤ length s) × (v ≡ byte_at s at) × (past ≡ at + 1)
  unfolding read_byte
  byte-there v past e = by (has s at 1) refl e
    where
      by : (b : Bool) → has s at 1 ≡ b → accepted v past ≡ cond b (accepted (byte_at s at) (at + 1)) (refused 4)
          → (at + 1 ≤ length s) × (v ≡ byte_at s at) × (past ≡ at + 1)
      by true h e = (leb-true (at + 1) (length s) h, ap (λ (r : Reading). r.value) e, ap (λ (r : Reading). r.at) e)
      by false h e = absurd (omega (arith, accepted-number v past 4 e))

  pub byte-cut : (e : Unreadable) → said (λ (v : ℕ). v) (Err e) ≡ read_byte s at → (length s ≤ at) × (e ≡ Cut)
  unfolding read_byte
  byte-cut e h = by (has s at 1) refl e h
    where
      by : (b : Bool) → has s at 1 ≡ b → (e : Unreadable)
          → said (λ (v : ℕ). v) (Err e) ≡ cond b (accepted (byte_at s at) (at + 1)) (refused 4) → (length s ≤ at) × (e ≡ Cut)
      by false h Cut e = (omega (arith, leb-false (at + 1) (length s) h), refl)
      by true h Cut e = absurd (omega (arith, accepted-number (byte_at s at) (at + 1) 4 (sym e)))
      by true h UnusedCode e = absurd (omega (arith, accepted-number (byte_at s at) (at + 1) 7 (sym e)))
      by false h UnusedCode e = absurd (omega (arith, refused-number 7 4 e))

---- value_in: which row has the code c

module _ (m c past : ℕ) where
  pub value_in-one : c < 0x80 → value_in (rows m) m 1 c past ≡ accepted (c % m) past
  value_in-one h =
      let e : 0 + (c - 0) ≡ c = omega arith in
      rw (among_in 0x00 128 c (omega arith) h, e)

  pub value_in-near : 0x8000 ≤ c → c < 0x8080 → value_in (rows m) m 2 c past ≡ accepted ((m - 128 + (c - 0x8000)) % m) past
  value_in-near h k = rw (among_in 0x8000 128 c h k)

  pub value_in-middle : 0x8080 ≤ c → c < 0xC000 → value_in (rows m) m 2 c past ≡ accepted ((128 + (c - 0x8080)) % m) past
  value_in-middle h k = rw (among-above 0x8000 128 c h (omega arith), among_in 0x8080 16256 c h k)

  pub value_in-far : 0xC00000 ≤ c → c < 0xC03F80 → value_in (rows m) m 3 c past ≡ accepted ((m - 16384 + (c - 0xC00000)) % m) past
  value_in-far h k = rw (among_in 0xC00000 16256 c h k)

  pub value_in-unused : 0xC03F80 ≤ c → c < 0xC04000 → value_in (rows m) m 3 c past ≡ refused 7
  value_in-unused h k = rw (among-above 0xC00000 16256 c h (omega arith), among_below 0xC04000 4177920 c k)

  pub value_in-high : 0xC04000 ≤ c → c < 0x1000000 → value_in (rows m) m 3 c past ≡ accepted ((16384 + (c - 0xC04000)) % m) past
  value_in-high h k = rw (among-above 0xC00000 16256 c (omega arith) (omega arith), among_in 0xC04000 4177920 c h k)

---- read_by: how many bytes the code at a place has

module _ (m : ℕ) (s : List ℕ) (at : ℕ) where
  by_one : byte_at s at < 0x80 → read_by m s at ≡ code_at m s at 1 (byte_at s at)
  unfolding read_by
  by_one h = rw (lt-ltb (byte_at s at) 0x80 h)

  by_two : 0x80 ≤ byte_at s at → byte_at s at < 0xC0 → read_by m s at ≡ code_at m s at 2 (word_at s at)
  unfolding read_by
  by_two h k = rw (le-ltb (byte_at s at) 0x80 h, lt-ltb (byte_at s at) 0xC0 k)

  by_three : 0xC0 ≤ byte_at s at → read_by m s at ≡ code_at m s at 3 (triple_at s at)
  unfolding read_by
  by_three h = rw (le-ltb (byte_at s at) 0x80 (omega arith), le-ltb (byte_at s at) 0xC0 h)

  pub read_by-one : at + 1 ≤ length s → byte_at s at < 0x80 → read_by m s at ≡ accepted (byte_at s at % m) (at + 1)
  read_by-one h k = by_one k ∙ rw (le-leb (at + 1) (length s) h) (value_in-one m (byte_at s at) (at + 1) k)

  pub read_by-two : (c : ℕ) → c ≡ word_at s at → at + 2 ≤ length s → 0x80 ≤ byte_at s at → byte_at s at < 0xC0
      → read_by m s at ≡ value_in (rows m) m 2 c (at + 2)
  read_by-two c e h k n = by_two k n ∙ rw (le-leb (at + 2) (length s) h, ← e)

  pub read_by-three : (c : ℕ) → c ≡ triple_at s at → at + 3 ≤ length s
      → 0xC0 ≤ byte_at s at → read_by m s at ≡ value_in (rows m) m 3 c (at + 3)
  read_by-three c e h k = by_three k ∙ rw (le-leb (at + 3) (length s) h, ← e)

  -- the bytes end before the code does: with no byte at all, past its first, past its second
  pub read_by-none : length s ≤ at → read_by m s at ≡ refused 4
  read_by-none h =
      let z : byte_at s at ≡ 0 = get_or-eq_default s 0 h in
      by_one (omega arith) ∙ rw (lt-leb (at + 1) (length s) (omega arith))

  cut-two : 0x80 ≤ byte_at s at → byte_at s at < 0xC0 → length s < at + 2 → read_by m s at ≡ refused 4
  cut-two k n h = by_two k n ∙ rw (lt-leb (at + 2) (length s) h)

  pub read_by-cut-three : 0xC0 ≤ byte_at s at → length s < at + 3 → read_by m s at ≡ refused 4
  read_by-cut-three k h = by_three k ∙ rw (lt-leb (at + 3) (length s) h)

  pub read_by-cut : 0x80 ≤ byte_at s at → length s < at + 2 → read_by m s at ≡ refused 4
  read_by-cut k h = by (nat_lt (byte_at s at) 0xC0) refl
    where
      by : (b : Bool) → nat_lt (byte_at s at) 0xC0 ≡ b → read_by m s at ≡ refused 4
      by true e = cut-two k (omega (arith, ltb-true)) h
      by false e = read_by-cut-three (omega (arith, ltb-false)) (omega arith)
