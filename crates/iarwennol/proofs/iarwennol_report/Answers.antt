use Rattle.crtp.specs.Face.{lent}
use Rattle.iarwennol.specs.PackedLaws.{told-as}
use Rattle.iarwennol.proofs.iarwennol_report.Goals as goal

pub returns : goal.returns
returns c = told-as (lent c.args.w.now c.args.h.now c.args.b.now) c.report-o.result c.pack_given.result _
    _ c.pack_given.ensures c.report-o.ensures
