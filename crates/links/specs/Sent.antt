-- Iarwennol. The bytes of fields that a link packet may carry, whole or as a difference (rules 6.2, 6.3).
-- Used by the layouts of CU and CR.
use Rattle.std.specs.Prelude.{ℕ, List, [], ◌∷◌, Option, Some, None}
use Rattle.codes.specs.Bytes.{big_endian}
use Rattle.codes.specs.Code.{code_of}

-- a field where one is sent; bytes: those of a field
abbrev pub whole_as : {A : Type 0} → (A → List ℕ) → Option A → List ℕ
whole_as bytes (Some v) = bytes v
whole_as bytes None = []

-- rule 6.3: a field of n bytes where it is sent whole
abbrev pub whole : (n : ℕ) → Option ℕ → List ℕ
whole n o = whole_as (big_endian n) o

-- rule 6.3: the same for a byte
abbrev pub whole_byte : Option ℕ → List ℕ
whole_byte o = whole_as (λ v. v ∷ []) o

-- rules 4.1, 6.2, 6.3: the code of a difference of w bits where one is sent; value: its number
abbrev pub delta_as : {A : Type 0} → (A → ℕ) → (w : ℕ) → Option A → List ℕ
delta_as value w (Some d) = code_of w (value d)
delta_as value w None = []

abbrev pub delta : (w : ℕ) → Option ℕ → List ℕ
delta w d = delta_as (λ v. v) w d
