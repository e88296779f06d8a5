use Rattle.crtp.specs.Face.{lent}
use Rattle.iarwennol.specs.PackedLaws.{given-as}
use Rattle.iarwennol.proofs.iarwennol_load.Goals as goal

pub returns : goal.returns
returns c = given-as (lent c.args.w.now c.args.h.now c.args.b.now) _ c.load-o.result c.pack_given.result _ _ c.pack_given.ensures
    c.load-o.ensures
