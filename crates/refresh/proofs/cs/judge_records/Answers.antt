use native.Mathlib.Nat.{sub-zero}
use Rattle.packet.specs.RefusalLaws.{number_of-refused}
use Rattle.links.proofs.CsLaws.{records_judged-more, records_judged-none}
use mathlib.Core.Path.{◌∙◌}
use Prim.Native.Nat.{◌-◌}
use Rattle.refresh.proofs.cs.judge_records.Goals as goal

pub loop-i-init : goal.loop-i-init
loop-i-init c = rw sub-zero

pub returns-in-Err : goal.returns-in-Err
returns-in-Err c = let l = c.loop-i in
    rw (
      l.invariant,
      records_judged-more _ _ l.i _ c.loop-i-test.true,
      ← c.judge_record.ensures,
      c.in-Err.is,
      number_of-refused c.in-Err.why,
    )

pub loop-i-preserved : goal.loop-i-preserved
loop-i-preserved c =
    let l = c.loop-i in
    l.invariant ∙ rw (
      records_judged-more _ _ l.i _ c.loop-i-test.true,
      ← c.judge_record.ensures,
      c.in-Ok.is,
    )

pub returns : goal.returns
returns c = let l = c.loop-i in
    rw (l.invariant, records_judged-none _ _ l.i _ c.loop-i-test.false)
