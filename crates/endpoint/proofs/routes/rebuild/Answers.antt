use mathlib.Core.Path.{◌∙◌, ap}
use borrow.Author.Tests.{eq-eqb, ne_eqb}
use Rattle.crtp.specs.Face.{lent}
use Rattle.endpoint.specs.Answer.{Outcome}
use Rattle.endpoint.specs.Totals.{totals_of, tallied}
use Rattle.endpoint.specs.Outcomes.{event_of}
use Rattle.endpoint.proofs.Routed.{closed-rebuild, rebuilt-at}
use Rattle.endpoint.proofs.routes.rebuild.Goals as goal

pub returns-then-t-ne-COUNT : goal.returns-then-t-ne-COUNT
returns-then-t-ne-COUNT c = λ x.
    let a = c.args in
    closed-rebuild x (lent c.args.w.now c.args.h.now c.args.b.now) a.t.now (ne_eqb _ _ c.if-t-ne-COUNT.true) a.kind a.s.now
    a.out.now

pub returns : goal.returns
returns c = λ x.
    let a = c.args in
    rw c.rebuilt-outcome.ensures
    (rebuilt-at a.t.now _ (eq-eqb _ _ c.if-t-ne-COUNT.false) c.count_in.ensures.0 x
    (lent c.args.w.now c.args.h.now c.args.b.now) _
    c.receive-o.result
    a.kind a.s.now a.out.now _
    (c.count_in.ensures.1
    ∙ ap (λ (o : Outcome). tallied (totals_of a.t.now) (event_of o)) c.rebuilt-outcome.ensures) c.receive-o.ensures)
