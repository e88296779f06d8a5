use Rattle.request.proofs.act_on.Goals as goal

pub returns-then-asks : goal.returns-then-asks
returns-then-asks c = rw c.if-asks.true c.request.ensures

pub returns : goal.returns
returns c = rw c.if-asks.false
