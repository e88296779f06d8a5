use lib.Dec.{ltb}
use Rattle.endpoint.specs.Totals.{last}
use native.Mathlib.Omega.{arith}
use mathlib.Core.Bool.{and-eq-true_iff}
use borrow.Author.Tests.{ltb-true}
use Rattle.endpoint.proofs.totals.count.Goals as goal

pub overflow_add-result : goal.overflow_add-result
overflow_add-result c =
    let a = c.args in
    omega (arith, ltb-true a.n last ((and-eq-true_iff a.counts (ltb a.n last)).0 c.if-counts-n.true).1)

pub returns-then-counts-n : goal.returns-then-counts-n
returns-then-counts-n c = rw c.if-counts-n.true (omega arith)

pub returns : goal.returns
returns c = rw c.if-counts-n.false
