-- Iarwennol. The worked cases of differences and their codes (rule 11.1): one table under one statement. Assumes nothing.
-- Each case is held against the definitions that the contracts cite, in both directions.
use Rattle.std.specs.Prelude.{◌≡◌, ℕ, ◌-◌, ◌^◌, List, [], ◌∷◌, map, refl}
use Rattle.codes.specs.Difference.{difference}
use Rattle.codes.specs.Code.{code_of}
use Rattle.codes.specs.Reading.{read_delta, read_by}

-- a difference of a field of so many bits and its code; one that has no code; bytes that are refused with a number;
-- two numbers of so many bits and the difference from the first to the second
pub data Case : Type 0 where
  code : ℕ → ℕ → List ℕ → Case
  no_code : ℕ → ℕ → Case
  refusal : List ℕ → ℕ → Case
  between : ℕ → ℕ → ℕ → ℕ → Case

abbrev pub cases : List Case
cases =
    code 16 (2 ^ 16 - 1) (0x80 ∷ 0x7F ∷ [])
    ∷ code 32 (2 ^ 32 - 1) (0x80 ∷ 0x7F ∷ [])
    ∷ code 16 160 (0x80 ∷ 0xA0 ∷ [])
    ∷ code 32 160 (0x80 ∷ 0xA0 ∷ [])
    ∷ code 16 2010 (0x87 ∷ 0xDA ∷ [])
    ∷ code 32 2010 (0x87 ∷ 0xDA ∷ [])
    ∷ code 16 (2 ^ 16 - 129) (0xC0 ∷ 0x3F ∷ 0x7F ∷ [])
    ∷ code 32 (2 ^ 32 - 129) (0xC0 ∷ 0x3F ∷ 0x7F ∷ [])
    ∷ code 16 16383 (0xBF ∷ 0xFF ∷ [])
    ∷ code 32 16383 (0xBF ∷ 0xFF ∷ [])
    ∷ code 16 16384 (0xC0 ∷ 0x40 ∷ 0x00 ∷ [])
    ∷ code 32 16384 (0xC0 ∷ 0x40 ∷ 0x00 ∷ [])
    ∷ no_code 32 4194304
    ∷ refusal (0xC0 ∷ 0x3F ∷ 0x80 ∷ []) 7
    ∷ between 32 4294967286 4 14
    ∷ []

-- the bytes written, then number and value read: what a case says, and what the definitions give
pub record Shown : Type 0 where
  pub bytes : List ℕ
  pub number : ℕ
  pub value : ℕ

abbrev shown : List ℕ → ℕ → ℕ → Shown
shown b n v = record { bytes = b; number = n; value = v }

abbrev pub said : Case → Shown
said (code w d b) = shown b 0 d
said (no_code w d) = shown [] 0 0
said (refusal b n) = shown b n 0
said (between w a b d) = shown [] 0 d

abbrev pub given : Case → Shown
given (code w d b) = shown (code_of w d) (read_delta w b 0).number (read_delta w b 0).value
given (no_code w d) = shown (code_of w d) 0 0
given (refusal b n) = shown b (read_delta 32 b 0).number (read_delta 32 b 0).value
given (between w a b d) = shown [] 0 (difference w a b)

pub cases-hold : map given cases ≡ map said cases
unfolding code_of read_by difference
cases-hold = refl
