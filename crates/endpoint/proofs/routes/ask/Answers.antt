use mathlib.Core.Path.{◌∙◌, ap}
use borrow.Author.Tests.{eq-eqb, ne_eqb}
use Rattle.crtp.specs.Face.{lent}
use Rattle.endpoint.specs.Answer.{Outcome}
use Rattle.endpoint.specs.Totals.{totals_of, tallied}
use Rattle.endpoint.specs.Outcomes.{event_of}
use Rattle.endpoint.proofs.Routed.{closed-ask, asked}
use Rattle.endpoint.proofs.routes.ask.Goals as goal

pub returns-then-t-ne-COUNT : goal.returns-then-t-ne-COUNT
returns-then-t-ne-COUNT c = λ output r.
    let a = c.args in
    closed-ask (lent c.args.w.now c.args.h.now c.args.b.now) r a.t.now (ne_eqb _ _ c.if-t-ne-COUNT.true) a.s.now output

pub returns : goal.returns
returns c = λ output r.
    let a = c.args in
    rw c.requested-outcome.ensures
    (asked a.t.now _ (eq-eqb _ _ c.if-t-ne-COUNT.false) c.count_in.ensures.0 (lent c.args.w.now c.args.h.now c.args.b.now) _ r
    c.request-o.result a.s.now output
    (c.count_in.ensures.1
    ∙ ap (λ (o : Outcome). tallied (totals_of a.t.now) (event_of o)) c.requested-outcome.ensures)
    c.request-o.ensures)
