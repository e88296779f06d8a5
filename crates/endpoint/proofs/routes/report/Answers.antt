use mathlib.Core.Path.{refl, ◌∙◌, ap}
use borrow.Author.Tests.{eq-eqb, ne_eqb}
use Rattle.crtp.specs.Face.{lent}
use Rattle.endpoint.specs.Answer.{Outcome}
use Rattle.endpoint.specs.Totals.{totals_of, tallied}
use Rattle.endpoint.specs.Outcomes.{event_of}
use Rattle.endpoint.proofs.Routed.{closed-report, reported-at}
use Rattle.endpoint.proofs.routes.report.Goals as goal

pub returns-then-t-ne-COUNT : goal.returns-then-t-ne-COUNT
returns-then-t-ne-COUNT c = λ x.
    let a = c.args in
    closed-report x (lent c.args.w.now c.args.h.now c.args.b.now) a.t.now (ne_eqb _ _ c.if-t-ne-COUNT.true) a.out.now

pub returns : goal.returns
returns c = λ x.
    let a = c.args in
    rw c.reported-outcome.ensures
    (reported-at a.t.now _ (eq-eqb _ _ c.if-t-ne-COUNT.false) c.count_in.ensures.0 x (lent c.args.w.now c.args.h.now c.args.b.now)
    (lent c.args.w.now c.args.h.now c.args.b.now) refl
    c.report-o.result a.out.now _
    (c.count_in.ensures.1
    ∙ ap (λ (o : Outcome). tallied (totals_of a.t.now) (event_of o)) c.reported-outcome.ensures) c.report-o.ensures)
