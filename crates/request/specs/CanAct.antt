-- Iarwennol. What the records of a request rely on when they act.
-- Used by the contract of act_on_all; every request that is judged good at a sound table is so.
use Rattle.std.specs.Prelude.{ℕ, ◌≤◌, List}
use Rattle.links.specs.Cs.{RequestGood}
use Rattle.compressor.specs.declared.table.Table.{Table}

pub record CanAct (t : Table) (s : List ℕ) : Type 0 where
  pub repeats : t.settings.repeats ≤ 14
  pub most : t.settings.contexts ≤ 64
  pub good : RequestGood t.settings.contexts s
