-- Iarwennol. Bytes, and numbers as bytes, big-endian.
-- Used by every definition of a layout; AllBytes by the theorem on lists of calls (crtp).
use Rattle.std.specs.Prelude.{ℕ, zero, suc, ◌/◌, ◌%◌, ◌<◌, Bool, true, ◌&&◌, List, [], ◌∷◌, ◌++◌, nat_lt}

-- every number of the list is a byte
pub data AllBytes : List ℕ → Type 0 where
  none : AllBytes []
  more : {b : ℕ} {bs : List ℕ} → b < 256 → AllBytes bs → AllBytes (b ∷ bs)

-- the same as a test, for bytes that are written out
abbrev pub are_bytes : List ℕ → Bool
are_bytes [] = true
are_bytes (b ∷ bs) = nat_lt b 256 && are_bytes bs

-- rule 6.7: v as n bytes, the highest first
abbrev pub big_endian : (n v : ℕ) → List ℕ
big_endian zero v = []
big_endian (suc n) v = big_endian n (v / 256) ++ (v % 256 ∷ [])
