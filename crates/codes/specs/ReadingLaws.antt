-- Iarwennol. The readers of numbers as the one field that each of them reads. Assumes nothing.
-- Used by the trait of fields, whose instances they are.
use Rattle.std.specs.Prelude.{◌≡◌, ℕ, List, refl}
use Rattle.codes.specs.Reading.{byte_at, word_at, long_at, field_at, read_byte, read_word, read_long}

pub read_byte-at : (s : List ℕ) (at : ℕ) → read_byte s at ≡ field_at s at 1 (byte_at s at)
unfolding read_byte
read_byte-at s at = refl

pub read_word-at : (s : List ℕ) (at : ℕ) → read_word s at ≡ field_at s at 2 (word_at s at)
unfolding read_word
read_word-at s at = refl

pub read_long-at : (s : List ℕ) (at : ℕ) → read_long s at ≡ field_at s at 4 (long_at s at)
unfolding read_long
read_long-at s at = refl
