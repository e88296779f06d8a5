-- Iarwennol. The table of difference codes (rules 4.1 to 4.4), once over the width of the field.
-- Both directions follow the one table `rows`: code_of writes by it, read_delta (Reading) reads by it.
use Rattle.std.specs.Prelude.{ℕ, ◌+◌, ◌-◌, ◌^◌, Bool, cond, ◌&&◌, List, [], ◌∷◌, nat_le, nat_lt, Option, Some, None}
use Rattle.codes.specs.Bytes.{big_endian}
use Rattle.codes.specs.declared.code.Code.{Code}
use Rattle.codes.specs.declared.code.Code.TheVariants.{One, Two, Three}

-- a row: its lowest difference and how many it has; the code of the lowest, as one number, and the bytes of each code
pub record Row : Type 0 where
  pub first : ℕ
  pub count : ℕ
  pub code : ℕ
  pub size : ℕ

abbrev pub row : (first count code size : ℕ) → Row
row f n c s = record { first = f; count = n; code = c; size = s }

-- rule 4.1, for differences modulo m: -128 is m - 128
abbrev pub rows : (m : ℕ) → List Row
rows m =
    row 0 128 0x00 1
    ∷ row (m - 128) 128 0x8000 2
    ∷ row 128 16256 0x8080 2
    ∷ row (m - 16384) 16256 0xC00000 3
    ∷ row 16384 4177920 0xC04000 3
    ∷ []

-- x is one of count numbers from first on
abbrev pub among : (first count x : ℕ) → Bool
among first count x = nat_le first x && nat_lt x (first + count)

-- rule 4.1: the bytes of the first row that has d: within a row, codes rise with the differences; none where no row has it
abbrev pub code_in : List Row → ℕ → List ℕ
code_in [] d = []
code_in (r ∷ rs) d = cond (among r.first r.count d) (big_endian r.size (r.code + (d - r.first))) (code_in rs d)

-- rule 4.3: the code of a difference d of a field of w bits. The rows overlap only for 16 bits, where a difference from 49152 on
-- is found among the negative ones first
unfoldable pub code_of : (w d : ℕ) → List ℕ
code_of w d = code_in (rows (2 ^ w)) d

-- the values of each answer of the writer: the code's bytes, none where there is no code
abbrev pub bytes_of : Option Code → List ℕ
bytes_of (Some (One a)) = a ∷ []
bytes_of (Some (Two a b)) = a ∷ b ∷ []
bytes_of (Some (Three a b c)) = a ∷ b ∷ c ∷ []
bytes_of None = []
