use Rattle.receive.specs.TakenLaws.{takes-broken}
use mathlib.Core.Path.{ap}
use Rattle.packet.specs.Refusal.{verdict_number}
use Rattle.packet.specs.RefusalLaws.{number_of-refused}
use Rattle.receive.proofs.settle.settle.Goals as goal

pub rebuild_to-requires : goal.rebuild_to-requires
rebuild_to-requires c = let p = c.requires in
    (p.0 (ap verdict_number c.in-Ok.is), p.1)

pub returns-in-Ok : goal.returns-in-Ok
returns-in-Ok c = λ n. rw c.in-Ok.is (c.rebuild_to.ensures n)

pub returns-in-Err : goal.returns-in-Err
returns-in-Err c = let a = c.args in
    λ n. rw (c.in-Err.is, number_of-refused c.in-Err.why)
    (takes-broken n a.before a.out.now _ a.a.context)
