-- Iarwennol. A packet that goes out as it is leaves any table.
-- Used by the contract of send_plain, which is handed no table.
use Rattle.std.specs.Prelude.{ℕ, ◌≡◌, List}
use Rattle.compressor.specs.Answer.{Outcome}
use Rattle.compressor.specs.declared.table.Table.{Table}
use Rattle.compressor.specs.Answer.{said}
use Rattle.compressor.specs.Send.{send_plain}

abbrev pub GoesPlain : Outcome → (p before after : List ℕ) → Type 0
GoesPlain o p before after = (t : Table) → said o t after ≡ send_plain t p before
