use Rattle.receive.specs.TakenLaws.{takes-refused}
use Rattle.context.proofs.Arrays.{part-rest}
use Rattle.receive.proofs.settle.settle_read.Goals as goal

pub returns-in-Ok : goal.returns-in-Ok
returns-in-Ok c = let a = c.args in
    λ n. rw c.in-Ok.is
    (rw (part-rest a.s.now a.p.cursor.at) at (c.settle.ensures n))

pub returns-in-Err : goal.returns-in-Err
returns-in-Err c = let a = c.args in
    λ n. rw c.in-Err.is (takes-refused n a.before a.out.now _)
