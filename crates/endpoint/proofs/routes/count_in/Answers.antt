use mathlib.Core.Path.{◌∙◌, ap}
use Rattle.endpoint.specs.declared.totals.Totals.{Totals}
use Rattle.endpoint.specs.Totals.{tallied}
use Rattle.endpoint.specs.Outcomes.{event_of}
use Rattle.endpoint.proofs.routes.count_in.Goals as goal

pub returns : goal.returns
returns c =
    let a = c.args in (
      c.put_totals.ensures.0,
      c.put_totals.ensures.1 ∙ c.tally-after.ensures
          ∙ ap (λ (x : Totals). tallied x (event_of a.o)) c.totals_at-before.ensures,
    )
