-- Iarwennol. A reading of optional fields from left to right: what has become of it, where it stands, and what one step gives.
-- Used by the steps (Next) and by the readers of the link layouts (links).
use Rattle.std.specs.Prelude.{ℕ, Option, Some, None, unwrap_or}
use Rattle.packet.specs.Refusal.{verdict_of}
use Rattle.fields.specs.declared.place.Place.{Place}
use Rattle.fields.specs.declared.place.Got.{Got}

-- a reading that stands at a place, with the number of the refusal there (rule 3.1), and one that was not refused
abbrev pub stopped : (at number : ℕ) → Place
stopped at number = record { verdict = verdict_of number; cursor = record { at = at } }

abbrev pub good : ℕ → Place
good at = stopped at 0

-- a step that gives a field, and stands past it
abbrev pub there : {A : Type 0} → (past : ℕ) → A → Got A
there past v = record { place = good past; field = Some v }

-- a step that gives none
abbrev pub passed : {A : Type 0} → Place → Got A
passed p = record { place = p; field = None }

-- the number of a field, 0 where it is not there
abbrev pub or_zero : Option ℕ → ℕ
or_zero o = unwrap_or o 0
