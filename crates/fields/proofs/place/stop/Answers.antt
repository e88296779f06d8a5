use Prim.Native.Nat.{ℕ}
use mathlib.Core.Path.{◌≡◌, sym, ap}
use Rattle.packet.specs.declared.refusal.Refusal.{Refusal}
use Rattle.packet.specs.Refusal.{Verdict}
use Rattle.std.specs.Prelude.{Err}
use Rattle.packet.specs.Refusal.{number_of}
use Rattle.packet.specs.RefusalLaws.{verdict_of-number_of}
use Rattle.fields.specs.declared.place.Place.{Place}
use Rattle.fields.specs.Place.{stopped}
use Rattle.fields.proofs.place.stop.Goals as goal

abbrev at-verdict : ℕ → Verdict → Place
at-verdict at v = record { verdict = v; cursor = record { at = at } }

stopped-number_of : (at : ℕ) (r : Refusal) → at-verdict at (Err r) ≡ stopped at (number_of r)
stopped-number_of at r = ap (at-verdict at) (sym (verdict_of-number_of r))

pub returns : goal.returns
returns c = stopped-number_of c.args.cursor.at c.args.why
