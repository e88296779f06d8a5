-- Iarwennol. What stands at a place of a packet, and what the cursor answers (rules 3.4, 4.4).
-- Used by every reader of a link packet.
use Rattle.std.specs.Prelude.{ℕ, ◌+◌, ◌-◌, ◌*◌, ◌%◌, ◌^◌, Bool, cond, ◌&&◌, List, [], ◌∷◌, length, ◌==◌, nat_le, nat_lt}
use Rattle.std.specs.Prelude.{slice_index, Result, Ok, Err}
use Rattle.codes.specs.Numbers.{cut, unused_code}
use Rattle.codes.specs.Code.{Row, rows, among}
use Rattle.codes.specs.declared.cursor.Cursor.{Cursor}
use Rattle.codes.specs.declared.cursor.Signed.{Signed}
use Rattle.codes.specs.declared.cursor.Signed.TheVariants.{Up, Down}
use Rattle.codes.specs.declared.cursor.Unreadable.{Unreadable}
use Rattle.codes.specs.declared.cursor.Unreadable.TheVariants.{Cut, UnusedCode}

-- a reader's answer: its number (rule 3.1), 0 where it is accepted; the value read; the place past it
pub record Reading : Type 0 where
  pub number : ℕ
  pub value : ℕ
  pub at : ℕ

abbrev pub accepted : (value at : ℕ) → Reading
accepted v at = record { number = 0; value = v; at = at }

abbrev pub refused : ℕ → Reading
refused n = record { number = n; value = 0; at = 0 }

---- what stands at a place

-- n bytes stand at a place
abbrev pub has : List ℕ → ℕ → ℕ → Bool
has s at n = nat_le (at + n) (length s)

-- the byte at a place, 0 past the end, and the numbers of two, three and four bytes (rule 6.7)
abbrev pub byte_at : List ℕ → ℕ → ℕ
byte_at s at = slice_index s at

abbrev pub word_at : List ℕ → ℕ → ℕ
word_at s at = byte_at s at * 256 + byte_at s (at + 1)

abbrev pub triple_at : List ℕ → ℕ → ℕ
triple_at s at = word_at s at * 256 + byte_at s (at + 2)

abbrev pub long_at : List ℕ → ℕ → ℕ
long_at s at = word_at s at * 65536 + (byte_at s (at + 2) * 256 + byte_at s (at + 3))

---- numbers

-- rule 3.4: a field of n bytes with the value v: 4 where it is cut short
abbrev pub field_at : List ℕ → (at n v : ℕ) → Reading
field_at s at n v = cond (has s at n) (accepted v (at + n)) (refused cut)

unfoldable pub read_byte : List ℕ → ℕ → Reading
read_byte s at = field_at s at 1 (byte_at s at)

unfoldable pub read_word : List ℕ → ℕ → Reading
read_word s at = field_at s at 2 (word_at s at)

unfoldable pub read_long : List ℕ → ℕ → Reading
read_long s at = field_at s at 4 (long_at s at)

---- differences

-- rules 4.1, 4.4: the difference, reduced modulo m, whose code is the number c of so many bytes; 7 where no row has that code
abbrev pub value_in : List Row → (m size c past : ℕ) → Reading
value_in [] m size c past = refused unused_code
value_in (r ∷ rs) m size c past =
    cond (r.size == size && among r.code r.count c) (accepted ((r.first + (c - r.code)) % m) past)
    (value_in rs m size c past)

-- rule 3.4: a code of so many bytes: 4 where it is cut short
abbrev pub code_at : (m : ℕ) → List ℕ → (at size c : ℕ) → Reading
code_at m s at size c = cond (has s at size) (value_in (rows m) m size c (at + size)) (refused cut)

-- rule 4.1: a code has one byte where its first is below 80, two where it is below C0, else three
unfoldable pub read_by : (m : ℕ) → List ℕ → ℕ → Reading
read_by m s at =
    cond (nat_lt (byte_at s at) 0x80) (code_at m s at 1 (byte_at s at))
    (cond (nat_lt (byte_at s at) 0xC0) (code_at m s at 2 (word_at s at)) (code_at m s at 3 (triple_at s at)))

-- rule 4.4: a difference of a field of w bits
abbrev pub read_delta : (w : ℕ) → List ℕ → ℕ → Reading
read_delta w s at = read_by (2 ^ w) s at

---- number and values of each answer of the cursor

-- rule 3.1: 4 for what is cut short, 7 for an unused code; value is the number that a field is
abbrev pub said : {A : Type 0} → (A → ℕ) → Result (A × Cursor) Unreadable → Reading
said value (Ok r) = accepted (value r.0) r.1.at
said value (Err Cut) = refused cut
said value (Err UnusedCode) = refused unused_code

-- a code not yet reduced, at a field of modulus m: so much up or down
abbrev pub reduced : (m : ℕ) → Signed → ℕ
reduced m (Up v) = v % m
reduced m (Down v) = (m - v) % m
