use Rattle.crtp.specs.Face.{lent}
use Rattle.endpoint.specs.Lent.{ends}
use Rattle.iarwennol.specs.PackedLaws.{answered-as}
use Rattle.iarwennol.proofs.iarwennol_endpoint_open.Goals as goal

pub returns : goal.returns
returns c =
    let o = c.open-o in
    answered-as ((ends (lent c.args.cw.now c.args.ch.now c.args.cb.now) (lent c.args.dw.now c.args.dh.now c.args.db.now)
    c.args.t.now)) _ o.result c.pack_answer.result _ _ c.pack_answer.ensures o.ensures
