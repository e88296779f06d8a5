-- Iarwennol. A load into slices (rules 2.2, 14.5, 14.7).
-- Used by the contract of load; what the bytes stand for is `load_of` (saves).
use Rattle.std.specs.Prelude.{ℕ, cond, List, []}
use Rattle.codes.specs.Numbers.{unsound}
use Rattle.decompressor.specs.Answer.{Result, refused}
use Rattle.planes.specs.Planes.{Lent}
use Rattle.decompressor_table.specs.Layout.{sized, table_of}
use Rattle.saves.specs.Saves.{load_of}

-- rules 2.2, 14.7: slices of other lengths hold no table: 1, before anything of the bytes; else the bytes alone are judged, never
-- what the slices hold
unfoldable pub load_lent : Lent → (s : List ℕ) → Result
load_lent l s = cond (sized l) (load_of (table_of l) s) (refused (table_of l) unsound [])
