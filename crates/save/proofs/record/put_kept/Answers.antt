use Rattle.save.specs.SaveLaws.{header_part-filled, header_part-unfilled, length-header_part}
use Rattle.octets.specs.PutLaws.{wrote_then, wrote-length}
use Rattle.context.specs.Decompressor.{rebuilt}
use borrow.Author.Tests.{not-true, not-false}
use lib.ListN.{length}
use mathlib.Core.Path.{◌≡◌, ap}
use Prim.Native.Nat.{ℕ}
use native.Mathlib.Omega.{arith}
use borrow.Author.Rules.{rules}
use Rattle.save.proofs.record.put_kept.Goals as goal

pub put-requires : goal.put-requires
put-requires c = let a = c.args in
    omega (
      arith,
      ap (length {A = ℕ}) (header_part-unfilled a.c (not-true a.c.filled c.if-not-c.true)),
      c.requires.1,
    )

pub returns-then-not-c : goal.returns-then-not-c
returns-then-not-c c =
    let a = c.args in
    rw (header_part-unfilled a.c (not-true a.c.filled c.if-not-c.true)) c.put.ensures

pub overflow_cast-size : goal.overflow_cast-size
unfolding rebuilt
overflow_cast-size c =
    omega (arith, rw c.rebuild-header.ensures at c.header_size-size.ensures, c.requires.0.count)

pub put-at-requires : goal.put-at-requires
put-at-requires c =
    let a = c.args in
    omega (
      arith,
      ap (length {A = ℕ}) (header_part-filled a.c (not-false a.c.filled c.if-not-c.false)),
      c.requires.1,
    )

pub put_header-requires : goal.put_header-requires
unfolding rebuilt
put_header-requires c =
    let list-size : length c.args.c.csrc.words ≡ 15 = search rules in
    let a = c.args in
    let p = c.requires in
    let w = c.put-at.ensures in
    rw c.rebuild-header.ensures (
      record { flags = p.0.flags; payload = p.0.payload; count = p.0.count },
      omega (
        arith,
        length-header_part a.c (not-false a.c.filled c.if-not-c.false) (omega (arith, p.0.count, list-size)),
        p.1,
        w.ends,
        wrote-length w,
      ),
    )

pub returns : goal.returns
returns c =
    let a = c.args in
    let e = c.rebuild-header.ensures in
    rw (header_part-filled a.c (not-false a.c.filled c.if-not-c.false))
    (wrote_then (rw (c.header_size-size.ensures, e) at c.put-at.ensures) (rw e at c.put_header.ensures.1))
