use Rattle.crtp.specs.Face.{lent}
use Rattle.endpoint.specs.Lent.{ends}
use Rattle.iarwennol.specs.PackedLaws.{answered-as}
use Rattle.iarwennol.proofs.iarwennol_endpoint_wire.Goals as goal

pub returns : goal.returns
returns c = λ d. answered-as (ends (lent c.args.w.now c.args.h.now c.args.b.now) d c.args.t.now) (ends _ d _) c.from_wire-o.result
    c.pack_answer.result _ _
    c.pack_answer.ensures (c.from_wire-o.ensures d)
