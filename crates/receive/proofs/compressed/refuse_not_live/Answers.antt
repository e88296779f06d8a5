use Rattle.packet.specs.declared.refusal.Refusal.TheVariants.{NotLive}
use Rattle.context.specs.Decompressor.{broke}
use Rattle.receive.specs.TakenLaws.{takes-broken}
use Rattle.receive.proofs.compressed.refuse_not_live.Goals as goal

pub returns : goal.returns
returns c = λ n output. rw c.break_context.ensures
    (takes-broken n c.args.c output NotLive (broke c.args.c))
