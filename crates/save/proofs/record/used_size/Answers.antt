use Rattle.save.specs.SaveLaws.{length-filled, length-unfilled}
use Rattle.context.specs.Decompressor.{rebuilt}
use lib.ListN.{length}
use mathlib.Core.Path.{◌≡◌, sym}
use native.Mathlib.Omega.{arith}
use borrow.Author.Rules.{rules}
use Rattle.save.proofs.record.used_size.Goals as goal

pub returns-then-c : goal.returns-then-c
unfolding rebuilt
returns-then-c c =
    let list-size : length c.args.c.csrc.words ≡ 15 = search rules in
    let a = c.args in
    let p = c.requires in (
      rw c.size_with.ensures (sym (length-filled a.c 1 c.if-c.true (omega (arith, p.count, list-size)))),
      omega (arith, c.size_with.ensures, p.count),
    )

pub returns : goal.returns
returns c = (sym (length-unfilled c.args.c 1 c.if-c.false), omega arith)
