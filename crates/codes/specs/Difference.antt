-- Iarwennol. Differences modulo 2 ^ w, w the width of their field (rule 4.2).
-- Used at both widths by codes, context, compress and decompress.
use Rattle.std.specs.Prelude.{ℕ, ◌+◌, ◌-◌, ◌%◌, ◌^◌, Bool, ◌||◌, nat_le, nat_lt}

-- rule 4.2: the difference from a to b
unfoldable pub difference : (w a b : ℕ) → ℕ
difference w a b = (b + (2 ^ w - a)) % 2 ^ w

-- rule 4.2: a with the difference d added
unfoldable pub sum : (w a d : ℕ) → ℕ
sum w a d = (a + d) % 2 ^ w

-- rule 4.3: a difference has a code: it is from -16384 to 4194303, modulo 2 ^ w
unfoldable pub has_code : (w d : ℕ) → Bool
has_code w d = nat_lt d 4194304 || nat_le (2 ^ w - 16384) d
