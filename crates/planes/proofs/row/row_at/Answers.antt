use Prim.Native.Nat.{ℕ, ◌+◌, ◌*◌}
use lib.ListN.{get_or}
use borrow.Author.Rules.{rules}
use Rattle.planes.proofs.RowLaws.{made-places}
use Rattle.planes.proofs.row.row_at.Goals as goal

pub returns : goal.returns
returns g c = λ d.
    let a = c.args in
    made-places _ _ (λ (p : ℕ). get_or a.planes.now (64 * p + a.i) d) a.f (λ x y q k. search rules) _ _ c.from_fn.ensures.items
