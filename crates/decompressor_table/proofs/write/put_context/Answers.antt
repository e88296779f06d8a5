use mathlib.Core.Path.{◌≡◌}
use lib.ListN.{length}
use native.Mathlib.Omega.{arith}
use Rattle.planes.specs.Planes.{lent}
use Rattle.planes.proofs.PlanesLaws.{replaced_append}
use Rattle.decompressor_table.specs.LayoutLaws.{fits-sizes, puts-put}
use borrow.Author.Rules.{rules}
use Rattle.decompressor_table.proofs.write.put_context.Goals as goal

pub put_row-requires : goal.put_row-requires
put_row-requires c =
    let n : length c.words_before-before.result ≡ 5 = search rules in
    (c.requires.1, omega (arith, n, (fits-sizes _ c.requires.0).words))

pub put_row-requires-2 : goal.put_row-requires-2
put_row-requires-2 c =
    let n : length c.args.c.csrc.words ≡ 15 = search rules in
    (c.requires.1, omega (arith, n, c.put_row.auto.planes, (fits-sizes _ c.requires.0).words))

pub put_row-requires-3 : goal.put_row-requires-3
put_row-requires-3 c =
    let n : length c.shorts_of.result ≡ 5 = search rules in
    (c.requires.1, omega (arith, n, (fits-sizes _ c.requires.0).shorts))

pub put_row-requires-4 : goal.put_row-requires-4
put_row-requires-4 c =
    let n : length c.bytes_of.result ≡ 13 = search rules in
    (c.requires.1, omega (arith, n, (fits-sizes _ c.requires.0).bytes))

pub returns : goal.returns
returns c =
    let n : length c.words_before-before.result ≡ 5 = search rules in
    let many : length c.args.c.csrc.words ≡ 15 = search rules in
    rw (
      c.put_row-2.ensures,
      c.put_row.ensures,
      replaced_append c.words_before-before.result c.args.c.csrc.words c.args.w.now c.args.i 0 5 (omega (arith, n)),
      c.words_before-before.ensures,
      c.put_row-3.ensures,
      c.shorts_of.ensures,
      c.put_row-4.ensures,
      c.bytes_of.ensures,
    )
    (puts-put (lent c.args.w.now c.args.h.now c.args.b.now) c.args.i c.args.c c.requires.0 c.requires.1 many)
