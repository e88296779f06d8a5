use native.Mathlib.Omega.{arith}
use Rattle.std.proofs.Common.{rules, ◌≤◌, get_or}
use Rattle.planes.specs.Planes.{lent}
use Rattle.compressor.specs.Lookup.{place_of}
use Rattle.compressor_table.specs.LayoutLaws.{fits-sizes, table_of-contexts}
use Rattle.compressor_places.proofs.lookup.find.Goals as goal

pub bounds-b-1281 : goal.bounds-b-1281
bounds-b-1281 c = omega (
  arith,
  (fits-sizes (lent c.args.w.now c.args.h.now c.args.b.now) c.requires.0).bytes,
)

pub lowest_of-requires : goal.lowest_of-requires
lowest_of-requires c =
    (c.requires.0, omega (arith, c.requires.1, table_of-contexts (lent c.args.w.now c.args.h.now c.args.b.now) c.requires.0))

pub or_else-requires : goal.or_else-requires
or_else-requires c =
    let k : get_or c.args.b.now 1281 0 ≤ 64 = omega (
      arith,
      c.requires.1,
      table_of-contexts (lent c.args.w.now c.args.h.now c.args.b.now) c.requires.0,
    ) in
    search rules

pub returns : goal.returns
unfolding place_of
returns c =
    rw (table_of-contexts (lent c.args.w.now c.args.h.now c.args.b.now) c.requires.0, ← c.lowest_of.ensures) (search rules)
