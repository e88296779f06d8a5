use native.Mathlib.Omega.{arith}
use borrow.Author.Tests.{leb-true}
use Rattle.octets.specs.PutLaws.{wrote_then, wrote_nothing, wrote-length}
use Rattle.planes.specs.Planes.{cell}
use Rattle.planes.proofs.EveryLaws.{every-at}
use Rattle.report.specs.ReportLaws.{states-all}
use Rattle.report.specs.Told.{linked_at, told}
use Rattle.report.specs.ToldLaws.{length-told, told_more, told-room}
use Rattle.report.proofs.put_states.Goals as goal

pub loop-i-init : goal.loop-i-init
loop-i-init c = wrote_nothing

pub put_state-o-requires : goal.put_state-o-requires
put_state-o-requires c =
    let b = c.args.b.now in
    let l = c.loop-i in
    let w = l.invariant in (
      c.requires.0,
      omega arith,
      leb-true (cell b 11 l.i) 15 (every-at (linked_at b) 64 l.i (omega arith) c.requires.1),
      omega (arith, w.ends, wrote-length w, c.requires.2, told-room b l.i (omega arith)),
    )

pub loop-i-preserved : goal.loop-i-preserved
loop-i-preserved c =
    let l = c.loop-i in
    rw (told_more c.args.b.now l.i (omega arith)) (wrote_then l.invariant c.put_state-o.ensures)

pub shape_of-out : goal.shape_of-out
shape_of-out c = wrote-length c.loop-i.invariant

pub returns : goal.returns
returns c =
    let b = c.args.b.now in
    let l = c.loop-i in
    rw (← states-all (told b) l.i (omega (arith, length-told b))) l.invariant
