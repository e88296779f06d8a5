use mathlib.Core.Path.{ap}
use borrow.Author.Tests.{not-true, not-false}
use Rattle.packet.specs.Refusal.{is_accepted}
use Rattle.std.proofs.lemmas.Result.{err_from_is_err_and}
use Rattle.planes.specs.Planes.{lent}
use Rattle.decompressor_table.specs.Layout.{sized}
use Rattle.load.specs.LoadLaws.{front_of-most, load-unsized, lent-refused, lent-records}
use Rattle.load.proofs.load.Goals as goal

pub returns-then-not-sized : goal.returns-then-not-sized
returns-then-not-sized c = load-unsized (lent c.args.w.now c.args.h.now c.args.b.now) c.args.s.now
    (not-true (sized (lent c.args.w.now c.args.h.now c.args.b.now)) c.if-not-sized.true-raw)

pub read_records-records-requires : goal.read_records-records-requires
read_records-records-requires c =
    let front = c.read_front-front in
    rw front.ensures
    (front_of-most c.args.s.now (rw front.ensures at (ap is_accepted c.in_ok-found.was)))

pub settle-requires : goal.settle-requires
settle-requires c = not-false (sized (lent c.args.w.now c.args.h.now c.args.b.now)) c.if-not-sized.false-raw

pub returns : goal.returns
returns c =
    let front = c.read_front-front in
    let q = c.read_records-records in
    let p = c.allow-end in
    lent-records (lent c.args.w.now c.args.h.now c.args.b.now) c.args.s.now
    (not-false (sized (lent c.args.w.now c.args.h.now c.args.b.now)) c.if-not-sized.false-raw)
    front.result front.ensures
    q.result p.result _ _ c.in_ok-found.was q.ensures p.ensures c.settle.ensures

pub returns-in_err-found : goal.returns-in_err-found
returns-in_err-found c =
    let front = c.read_front-front in
    let p = err_from_is_err_and c.from_residual.result c.from_residual.ensures.1 in
    rw (p.1, p.2) (lent-refused (lent c.args.w.now c.args.h.now c.args.b.now) c.args.s.now
    (not-false (sized (lent c.args.w.now c.args.h.now c.args.b.now)) c.if-not-sized.false-raw)
    front.result front.ensures _
    c.in_err-found.was)
