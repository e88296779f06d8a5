use mathlib.Core.Path.{sym, ◌∙◌}
use native.Mathlib.Omega.{arith}
use borrow.Author.Tests.{not-true, not-false}
use Rattle.octets.specs.PutLaws.{wrote_then, wrote-length}
use Rattle.planes.specs.Planes.{lent}
use Rattle.saves.specs.Saves.{save_of}
use Rattle.save.specs.LentLaws.{sizes-lent, most-lent, lent-no_room, lent-accepted}
use Rattle.save.proofs.save.Goals as goal

pub returns-then-not-sound : goal.returns-then-not-sound
unfolding save_of
returns-then-not-sound c = rw (← c.sound.ensures, not-true c.sound.result c.if-not-sound.true-raw)

pub bounds-b-832 : goal.bounds-b-832
bounds-b-832 c =
    let x = c.sound in
    let s = sym x.ensures ∙ not-false x.result c.if-not-sound.false-raw in
    omega (arith, (sizes-lent (lent c.args.w.now c.args.h.now c.args.b.now) s).bytes)

pub bounds-b-833 : goal.bounds-b-833
bounds-b-833 c =
    let x = c.sound in
    let s = sym x.ensures ∙ not-false x.result c.if-not-sound.false-raw in
    omega (arith, (sizes-lent (lent c.args.w.now c.args.h.now c.args.b.now) s).bytes)

pub records_size-body-requires : goal.records_size-body-requires
records_size-body-requires c =
    let x = c.sound in
    let s = sym x.ensures ∙ not-false x.result c.if-not-sound.false-raw in
    (s, most-lent (lent c.args.w.now c.args.h.now c.args.b.now) s)

pub returns-then-out-body : goal.returns-then-out-body
returns-then-out-body c =
    let x = c.sound in
    let s = sym x.ensures ∙ not-false x.result c.if-not-sound.false-raw in
    let n = c.records_size-body in
    lent-no_room (lent c.args.w.now c.args.h.now c.args.b.now) s c.args.out.now n.result n.ensures.0 c.if-out-body.true

pub put_records-requires : goal.put_records-requires
put_records-requires c =
    let x = c.sound in
    let s = sym x.ensures ∙ not-false x.result c.if-not-sound.false-raw in
    let front = c.put_front-at.ensures in
    let size = c.put-at.ensures in (
      s,
      most-lent (lent c.args.w.now c.args.h.now c.args.b.now) s,
      omega (
        arith,
        c.records_size-body.ensures.0,
        c.if-out-body.false,
        front.ends,
        wrote-length front,
        size.ends,
        wrote-length size,
      ),
    )

pub returns : goal.returns
returns c =
    let x = c.sound in
    let s = sym x.ensures ∙ not-false x.result c.if-not-sound.false-raw in
    let n = c.records_size-body
    in
    lent-accepted (lent c.args.w.now c.args.h.now c.args.b.now) s c.args.out.now n.result n.ensures.0 _ _ c.if-out-body.false
    (wrote_then c.put-at.ensures (wrote_then c.put_front-at.ensures c.put_records.ensures))
