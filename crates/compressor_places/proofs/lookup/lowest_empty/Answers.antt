use mathlib.Core.Path.{sym, ◌∙◌}
use mathlib.Core.Bool.{true, false}
use native.Mathlib.Omega.{arith}
use native.Mathlib.Nat.{sub-zero}
use borrow.Author.Tests.{eq-eqb, ne_eqb}
use Rattle.planes.specs.Planes.{lent}
use Rattle.compressor.specs.Table.{is_empty}
use Rattle.compressor_table.specs.LayoutLaws.{fits-sizes}
use Rattle.compressor_places.proofs.Found.{lowest-at, is_empty-at}
use Rattle.compressor_places.proofs.lookup.lowest_empty.Goals as goal

pub loop-i-init : goal.loop-i-init
loop-i-init c = (
  c.requires.1,
  (fits-sizes (lent c.args.w.now c.args.h.now c.args.b.now) c.requires.0
      ).bytes,
  rw sub-zero,
)

pub returns-then-b-i-eq0 : goal.returns-then-b-i-eq0
returns-then-b-i-eq0 c =
    let l = c.loop-i in
    sym (l.invariant.2 ∙ lowest-at is_empty (lent c.args.w.now c.args.h.now c.args.b.now) c.args.k l.i c.requires.0 (omega arith)
    l.invariant.0 true
    (sym (eq-eqb _ _ c.if-b-i-eq0.true) ∙ is_empty-at c.args.w.now c.args.h.now c.args.b.now l.i))

pub loop-i-preserved : goal.loop-i-preserved
loop-i-preserved c =
    let l = c.loop-i in (
      l.invariant.0,
      l.invariant.1,
      l.invariant.2 ∙ lowest-at is_empty (lent c.args.w.now c.args.h.now c.args.b.now) c.args.k l.i c.requires.0 (omega arith)
          l.invariant.0 false
          (sym (ne_eqb _ _ c.if-b-i-eq0.false) ∙ is_empty-at c.args.w.now c.args.h.now c.args.b.now l.i),
    )
