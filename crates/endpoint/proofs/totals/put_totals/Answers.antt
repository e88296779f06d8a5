use borrow.Author.Rules.{rules}
use Rattle.endpoint.specs.TotalsLaws.{stored-totals}
use Rattle.endpoint.proofs.totals.put_totals.Goals as goal

pub bounds-t-4 : goal.bounds-t-4
bounds-t-4 c = search rules depth 9

pub bounds-t-5 : goal.bounds-t-5
bounds-t-5 c = search rules depth 10

pub returns : goal.returns
returns c = stored-totals c.args.t.now c.args.x c.requires
