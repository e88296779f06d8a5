use Rattle.crtp.specs.Face.{lent}
use Rattle.endpoint.specs.Lent.{ends}
use Rattle.iarwennol.specs.PackedLaws.{answered-as}
use Rattle.iarwennol.proofs.iarwennol_endpoint_report.Goals as goal

pub returns : goal.returns
returns c = λ d. answered-as (ends d (lent c.args.w.now c.args.h.now c.args.b.now) c.args.t.now) (ends d _ _) c.report-o.result
    c.pack_answer.result _ _ c.pack_answer.ensures (c.report-o.ensures d)
