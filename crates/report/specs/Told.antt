-- Iarwennol. What a report needs of a table that is lent: status, link sequence and generation, three planes of its bytes.
-- Used by the contracts of report's loops; what they come to is `report_of` of the table (ToldLaws).
use Rattle.std.specs.Prelude.{ℕ, Bool, cond, List, [], ◌∷◌, leb, ltb}
use Rattle.links.specs.Cs.{State}
use Rattle.context.specs.declared.decompressor.DecompressorContext.{DecompressorContext}
use Rattle.planes.specs.Planes.{cell, row, places}
use Rattle.decompressor_table.specs.Layout.{context_of}

-- a status past 1 is broken
abbrev pub broken_at : List ℕ → (i : ℕ) → Bool
broken_at b i = ltb 1 (cell b 0 i)

abbrev pub states_at : List ℕ → (i : ℕ) → List State
states_at b i = cond (broken_at b i) (record { context = i; link = cell b 11 i; generation = cell b 12 i } ∷ []) []

-- a link sequence that a record has room for
abbrev pub linked_at : List ℕ → (i : ℕ) → Bool
linked_at b i = leb (cell b 11 i) 15

-- the contexts as far as the bytes tell
unfoldable pub told : List ℕ → List DecompressorContext
told b = places (λ (i : ℕ). context_of [] [] (row b i 0 13)) 0 64
