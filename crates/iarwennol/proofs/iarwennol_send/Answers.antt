use Rattle.crtp.specs.Face.{lent}
use Rattle.iarwennol.specs.PackedLaws.{sent-as}
use Rattle.iarwennol.proofs.iarwennol_send.Goals as goal

pub returns : goal.returns
returns c = sent-as (lent c.args.w.now c.args.h.now c.args.b.now) _ c.send-o.result c.pack_sent.result _ _ c.pack_sent.ensures
    c.send-o.ensures
