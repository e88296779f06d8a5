use mathlib.Core.Path.{sym, ◌∙◌}
use native.Mathlib.Omega.{arith}
use Rattle.octets.specs.SumLaws.{words_of-drop, words_of-odd, words_of-end}
use Rattle.bench_sum.proofs.former.sum.Goals as goal

pub loop-i-preserved : goal.loop-i-preserved
loop-i-preserved c = let a = c.args in
    let l = c.loop-i in
    (omega arith, l.invariant.1 ∙ rw (c.add-acc.ensures, c.be16.ensures, words_of-drop a.part.now l.i (omega arith)))

pub returns-then-i-part : goal.returns-then-i-part
returns-then-i-part c =
    let a = c.args in
    let l = c.loop-i in
    rw c.add.ensures
    (sym (l.invariant.1 ∙ rw (words_of-odd a.part.now l.i c.be16-then-i-part.result (omega arith) (omega arith))))

pub returns-else-i-part : goal.returns-else-i-part
returns-else-i-part c = let a = c.args in
    let l = c.loop-i in
    sym (l.invariant.1 ∙ rw (words_of-end a.part.now l.i (omega arith)))
