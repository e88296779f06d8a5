use Rattle.receive.specs.TakenLaws.{not_live-either, takes-arrived, takes-not_live}
use Rattle.receive.proofs.compressed.receive_on.Goals as goal

pub returns-in-Empty : goal.returns-in-Empty
returns-in-Empty c =
    let a = c.args in
    takes-not_live a.old a.n a.kind a.c a.h a.s.now a.out.now c.refuse_not_live.result
    (c.refuse_not_live.ensures a.n a.out.now) (not_live-either a.c.status c.in-Empty.is)

pub returns-in-Live : goal.returns-in-Live
returns-in-Live c =
    let a = c.args in
    let arrived = c.arrive-arrived in
    takes-arrived a.n a.c arrived.result _ _ a.s.now a.out.now _ arrived.ensures
    c.settle_read.ensures
