use mathlib.Core.Bool.{true, false}
use mathlib.Core.Path.{sym}
use Rattle.links.proofs.CsLaws.{record_with-context, record_with-bits}
use Rattle.links.specs.Cs.{record_judged}
use Rattle.refresh.proofs.cs.judge_record.Goals as goal

pub returns-then-contexts-s : goal.returns-then-contexts-s
unfolding record_judged
returns-then-contexts-s c = sym (record_with-context _ _ _ _ c.if-contexts-s.true)

pub returns-then-flags-s : goal.returns-then-flags-s
unfolding record_judged
returns-then-flags-s c =
    rw (← c.split_record-flags.ensures) (sym (record_with-bits _ _ c.split_record-flags.result _ c.if-contexts-s.false true
    c.if-flags-s.true))

pub returns : goal.returns
unfolding record_judged
returns c =
    rw (← c.split_record-flags.ensures) (sym (record_with-bits _ _ c.split_record-flags.result _ c.if-contexts-s.false false
    c.if-flags-s.false))
