use mathlib.Core.Path.{refl}
use Rattle.octets.specs.PutLaws.{wrote-front}
use Rattle.decompressor.proofs.PacketLaws.{said-no_room, said-accepted}
use Rattle.receive.proofs.receive_plain.Goals as goal

pub returns-then-out-size : goal.returns-then-out-size
returns-then-out-size c = λ t. let a = c.args in said-no_room t t a.s.now a.out.now c.if-out-size.true

pub returns : goal.returns
returns c = λ t. let a = c.args in
    said-accepted t t a.s.now a.out.now _ _ c.if-out-size.false refl
    (wrote-front c.put_all.ensures c.if-out-size.false)
