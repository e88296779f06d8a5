use mathlib.Core.Bool.{true, false}
use Rattle.crtp.specs.Face.{lent, request_of, receive_of}
use Rattle.endpoint.specs.Totals.{rebuilt}
use Rattle.endpoint.specs.Calls.{requested_by, answered_by, radio_of}
use Rattle.endpoint.specs.Lent.{ends, endpoint_of}
use Rattle.endpoint.specs.LentLaws.{gives-by}
use Rattle.endpoint.proofs.Routed.{radio-asked, radio-rebuilt}
use Rattle.endpoint.proofs.from_radio.Goals as goal

pub returns-then-kind-eq-CONTEXT_STATE : goal.returns-then-kind-eq-CONTEXT_STATE
returns-then-kind-eq-CONTEXT_STATE c =
    let a = c.args in
    gives-by ((ends (lent c.args.cw.now c.args.ch.now c.args.cb.now) (lent c.args.dw.now c.args.dh.now c.args.db.now)
    c.args.t.now)) _ c.ask.result a.out.now
    (requested_by (endpoint_of ((ends (lent c.args.cw.now c.args.ch.now c.args.cb.now)
    (lent c.args.dw.now c.args.dh.now c.args.db.now) c.args.t.now))) a.out.now
    (request_of (endpoint_of ((ends (lent c.args.cw.now c.args.ch.now c.args.cb.now)
    (lent c.args.dw.now c.args.dh.now c.args.db.now) c.args.t.now))).compressor a.s.now))
    (radio_of (endpoint_of ((ends (lent c.args.cw.now c.args.ch.now c.args.cb.now) (lent c.args.dw.now c.args.dh.now c.args.db.now)
    c.args.t.now))) a.kind a.s.now a.out.now)
    (radio-asked (endpoint_of ((ends (lent c.args.cw.now c.args.ch.now c.args.cb.now)
    (lent c.args.dw.now c.args.dh.now c.args.db.now) c.args.t.now))) a.kind a.s.now a.out.now c.if-kind-eq-CONTEXT_STATE.true)
    (c.ask.ensures a.out.now (lent c.args.dw.now c.args.dh.now c.args.db.now))

pub returns : goal.returns
returns c =
    let a = c.args in
    gives-by ((ends (lent c.args.cw.now c.args.ch.now c.args.cb.now) (lent c.args.dw.now c.args.dh.now c.args.db.now)
    c.args.t.now)) _ c.rebuild.result _
    (answered_by rebuilt
    (endpoint_of ((ends (lent c.args.cw.now c.args.ch.now c.args.cb.now) (lent c.args.dw.now c.args.dh.now c.args.db.now)
    c.args.t.now)))
    (receive_of (endpoint_of ((ends (lent c.args.cw.now c.args.ch.now c.args.cb.now)
    (lent c.args.dw.now c.args.dh.now c.args.db.now) c.args.t.now))).decompressor a.kind a.s.now a.out.now))
    (radio_of (endpoint_of ((ends (lent c.args.cw.now c.args.ch.now c.args.cb.now) (lent c.args.dw.now c.args.dh.now c.args.db.now)
    c.args.t.now))) a.kind a.s.now a.out.now)
    (radio-rebuilt (endpoint_of ((ends (lent c.args.cw.now c.args.ch.now c.args.cb.now)
    (lent c.args.dw.now c.args.dh.now c.args.db.now) c.args.t.now))) a.kind a.s.now a.out.now c.if-kind-eq-CONTEXT_STATE.false)
    (c.rebuild.ensures (lent c.args.cw.now c.args.ch.now c.args.cb.now))
