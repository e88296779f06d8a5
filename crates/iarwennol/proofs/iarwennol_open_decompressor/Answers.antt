use Rattle.crtp.specs.Face.{lent}
use Rattle.iarwennol.specs.PackedLaws.{given-as}
use Rattle.iarwennol.proofs.iarwennol_open_decompressor.Goals as goal

pub returns : goal.returns
returns c = given-as (lent c.args.w.now c.args.h.now c.args.b.now) _ c.open_decompressor-o.result c.pack_given.result _ _
    c.pack_given.ensures c.open_decompressor-o.ensures
