-- Iarwennol. What a call on a decompressor's table does that is lent in three slices (rules 2.2, 3.1).
-- Used by the contract of every call of the decompressor.
use Rattle.std.specs.Prelude.{ℕ, ◌≡◌, cond, List, []}
use Rattle.codes.specs.Numbers.{unsound}
use Rattle.decompressor.specs.Answer.{Outcome}
use Rattle.decompressor.specs.Answer.{Result, refused, said}
use Rattle.decompressor.specs.Table.{open_of}
use Rattle.planes.specs.Planes.{Lent}
use Rattle.decompressor_table.specs.Layout.{sized, table_of}

-- rule 3.1: the answer, the output and the table that the slices hold afterwards are those of a definition; a refused call that
-- leaves the table (all but those that break a context: 8, 9, 12) leaves every number of the slices, whatever they hold
pub record Gives (before after : Lent) (o : Outcome) (output : List ℕ) (want : Result) : Type 0 where
  pub says : said o (table_of after) output ≡ want
  pub keeps : (want.number ≡ 0 → ⊥) → want.table ≡ table_of before → after ≡ before

-- rules 1.3, 2.2, 3.1: an opening needs slices of the right lengths, whatever they hold
unfoldable pub open_lent : Lent → (n k : ℕ) → Result
open_lent l n k = cond (sized l) (open_of (table_of l) n k) (refused (table_of l) unsound [])
