use mathlib.Core.Path.{refl, ap, ◌∙◌}
use native.Mathlib.Omega.{arith}
use lib.ListN.{length}
use Rattle.links.specs.Cs.{State}
use Rattle.report.specs.ReportLaws.{states-all}
use Rattle.report.specs.Told.{told}
use Rattle.report.specs.ToldLaws.{length-told, told-count}
use Rattle.report.proofs.count_records.Goals as goal

pub loop-i-init : goal.loop-i-init
loop-i-init c = (refl, omega arith)

pub loop-i-preserved : goal.loop-i-preserved
loop-i-preserved c =
    let l = c.loop-i in (
      rw (told-count c.args.b.now l.i (omega arith)) (omega (arith, l.invariant.0, c.records_at-n.ensures.0)),
      omega arith,
    )

pub returns : goal.returns
returns c =
    let b = c.args.b.now in
    let l = c.loop-i in
    (l.invariant.0 ∙ ap (length {A = State}) (states-all (told b) l.i (omega (arith, length-told b))), omega arith)
