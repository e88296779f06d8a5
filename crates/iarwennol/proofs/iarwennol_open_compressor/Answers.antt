use Rattle.crtp.specs.Face.{lent}
use Rattle.iarwennol.specs.PackedLaws.{sent-as}
use Rattle.iarwennol.proofs.iarwennol_open_compressor.Goals as goal

pub returns : goal.returns
returns c = sent-as (lent c.args.w.now c.args.h.now c.args.b.now) _ c.open_compressor-o.result c.pack_sent.result _ _
    c.pack_sent.ensures c.open_compressor-o.ensures
