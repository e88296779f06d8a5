use mathlib.Core.Path.{sym, ◌∙◌}
use native.Mathlib.Omega.{arith}
use Rattle.planes.specs.Planes.{lent}
use Rattle.compressor.specs.Lookup.{is_of}
use Rattle.compressor_table.specs.LayoutLaws.{fits-sizes}
use Rattle.compressor_places.proofs.Found.{lowest-at}
use Rattle.compressor_places.proofs.lookup.lowest_of.Goals as goal

pub is_of-requires : goal.is_of-requires
is_of-requires c =
    let z = fits-sizes (lent c.args.w.now c.args.h.now c.args.b.now) c.requires.0 in
    (z.words, z.shorts, z.bytes, omega arith)

pub returns-then-is_of : goal.returns-then-is_of
returns-then-is_of c =
    let l = c.loop-i in
    sym (l.invariant.1 ∙ lowest-at (is_of c.args.f) (lent c.args.w.now c.args.h.now c.args.b.now) c.args.k l.i c.requires.0
    (omega arith) l.invariant.0
    c.is_of.result c.is_of.ensures ∙ rw c.if-is_of.true)

pub loop-i-preserved : goal.loop-i-preserved
loop-i-preserved c =
    let l = c.loop-i in (
      l.invariant.0,
      l.invariant.1 ∙ lowest-at (is_of c.args.f) (lent c.args.w.now c.args.h.now c.args.b.now) c.args.k l.i c.requires.0
          (omega arith) l.invariant.0
          c.is_of.result c.is_of.ensures ∙ rw c.if-is_of.false,
    )
