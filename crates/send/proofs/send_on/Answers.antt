use mathlib.Core.Path.{◌≡◌, sym, ◌∙◌}
use mathlib.Core.Bool.{Bool, true, ◌&&◌, and-eq-true_iff}
use borrow.Author.Tests.{leb-true}
use lib.Dec.{leb}
use lib.ListN.{length}
use Rattle.planes.specs.Planes.{lent}
use Rattle.compressor_table.specs.LayoutLaws.{fits-sizes}
use Rattle.send.proofs.send_on.Goals as goal

both : (a b : Bool) → (a && b) ≡ true → (a ≡ true) × (b ≡ true)
both a b e = (and-eq-true_iff a b).0 e

pub list_at-list-requires : goal.list_at-list-requires
list_at-list-requires c =
    let z = fits-sizes (lent c.args.w.now c.args.h.now c.args.b.now) c.requires.0 in (z.words, z.bytes, c.requires.1.place)

pub context_with-context-requires : goal.context_with-context-requires
context_with-context-requires c =
    let z = fits-sizes (lent c.args.w.now c.args.h.now c.args.b.now) c.requires.0 in
    (z.words, z.shorts, z.bytes, c.requires.1.place, c.list_at-list.ensures)

pub send_steady-requires : goal.send_steady-requires
send_steady-requires c =
    let a = c.args in
    let t = both c.is_steady.result (leb (length a.p.now) (length a.out.now)) c.if-is_steady-p.true in
    (c.requires.0, c.requires.1, c.requires.2, c.context_with-context.ensures, sym c.is_steady.ensures ∙ t.0, leb-true _ _ t.1)

pub send_stepped-requires : goal.send_stepped-requires
send_stepped-requires c =
    (c.requires.0, c.requires.1)
