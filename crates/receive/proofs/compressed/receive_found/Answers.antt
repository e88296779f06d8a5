use native.Mathlib.Omega.{arith}
use Rattle.planes.specs.Planes.{lent}
use Rattle.decompressor_table.specs.Layout.{table_of}
use Rattle.decompressor_table.specs.LayoutLaws.{fits-sizes}
use Rattle.receive.specs.Taken.{found_on}
use Rattle.receive.proofs.Placing.{gives-placed, head-here, taken_here}
use Rattle.receive.proofs.compressed.receive_found.Goals as goal

pub bounds-b-832 : goal.bounds-b-832
bounds-b-832 c =
    omega (arith, (fits-sizes (lent c.args.w.now c.args.h.now c.args.b.now) c.requires.fits).bytes)

pub receive_on-taken-requires : goal.receive_on-taken-requires
receive_on-taken-requires c =
    let a = c.args in
    let f = c.requires in
    head-here (lent c.args.w.now c.args.h.now c.args.b.now) a.i f.fits f.place a.c f.context a.head a.s.now f.sound f.some f.short
    f.head

pub returns : goal.returns
returns c =
    let a = c.args in
    let f = c.requires in
    let x = c.receive_on-taken in
    gives-placed (lent c.args.w.now c.args.h.now c.args.b.now) a.i f.fits f.place _ x.result _
    (found_on a.old a.kind (table_of (lent c.args.w.now c.args.h.now c.args.b.now)) a.i a.s.now a.out.now) c.put_context.ensures
    (taken_here (lent c.args.w.now c.args.h.now c.args.b.now) a.i f.fits f.place a.c f.context a.old a.kind a.head a.s.now
    a.out.now _
    x.result f.head x.ensures)
