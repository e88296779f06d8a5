use Rattle.std.proofs.Common.{arith, add-one, length-set}
use Rattle.fields.specs.Next.{next_long}
use Rattle.fields.proofs.list.next_list.Goals as goal

pub loop-i-preserved : goal.loop-i-preserved
unfolding next_long
loop-i-preserved c = let l = c.loop-i in
    (omega arith, simp length-set l.invariant.1, rw (add-one, ← l.invariant.2, ← c.next-word.ensures, c.unwrap_or.ensures))
