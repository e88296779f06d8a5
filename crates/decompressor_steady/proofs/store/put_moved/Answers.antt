use mathlib.Core.Path.{◌≡◌}
use native.Mathlib.Omega.{arith}
use lib.ListN.{length-set}
use Rattle.planes.specs.Planes.{lent}
use Rattle.decompressor_table.specs.LayoutLaws.{fits-sizes}
use Rattle.decompressor_table.specs.Layout.{bit}
use borrow.Author.Rules.{rules}
use Rattle.decompressor_steady.proofs.Stored.{puts_moved}
use Rattle.decompressor_steady.proofs.store.put_moved.Goals as goal

pub bounds-w-i : goal.bounds-w-i
bounds-w-i c = omega (arith, (fits-sizes _ c.requires.0).words)

pub bounds-h-i : goal.bounds-h-i
bounds-h-i c = omega (arith, (fits-sizes _ c.requires.0).shorts)

pub bounds-h-i-2 : goal.bounds-h-i-2
bounds-h-i-2 c = simp length-set (omega (arith, (fits-sizes _ c.requires.0).shorts))

pub bounds-b-i : goal.bounds-b-i
bounds-b-i c = omega (arith, (fits-sizes _ c.requires.0).bytes)

pub bounds-b-i-2 : goal.bounds-b-i-2
bounds-b-i-2 c = simp length-set (omega (arith, (fits-sizes _ c.requires.0).bytes))

pub returns : goal.returns
returns c =
    let e : c.from.result ≡ bit c.args.c.marker = search rules in
    rw e (puts_moved (lent c.args.w.now c.args.h.now c.args.b.now) c.args.i c.args.c c.requires.0 c.requires.1 c.requires.2)
