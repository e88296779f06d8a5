use borrow.Author.Tests.{eq-eqb, ne_eqb}
use Rattle.links.specs.Cs.{request_judged}
use borrow.Author.Tests.{lt-ltb, le-ltb}
use Rattle.refresh.proofs.cs.judge_request.Goals as goal

pub returns-then-s-lt2 : goal.returns-then-s-lt2
unfolding request_judged
returns-then-s-lt2 c = rw (lt-ltb _ _ c.if-s-lt2.true)

pub returns-then-s-count : goal.returns-then-s-count
unfolding request_judged
returns-then-s-count c = rw (le-ltb _ _ c.if-s-lt2.false, ← c.record_count-count.ensures.0, c.if-s-count.true)

pub returns-then-s-count-2 : goal.returns-then-s-count-2
unfolding request_judged
returns-then-s-count-2 c =
    rw (le-ltb _ _ c.if-s-lt2.false, ← c.record_count-count.ensures.0, c.if-s-count.false, ne_eqb _ _ c.if-s-count-2.true)

pub returns : goal.returns
unfolding request_judged
returns c =
    rw (
      le-ltb _ _ c.if-s-lt2.false,
      ← c.record_count-count.ensures.0,
      c.if-s-count.false,
      eq-eqb _ _ c.if-s-count-2.false,
    )
    c.judge_records.ensures
