use mathlib.Core.Path.{◌≡◌, refl}
use native.Mathlib.Omega.{arith}
use Rattle.octets.specs.PutLaws.{wrote_then, wrote_nothing, wrote-length}
use Rattle.planes.specs.Planes.{lent}
use Rattle.save.specs.LentLaws.{records-here, room-here}
use Rattle.save.proofs.put_records.Goals as goal

pub loop-i-init : goal.loop-i-init
loop-i-init c = wrote_nothing

pub put_record_at-past-requires : goal.put_record_at-past-requires
put_record_at-past-requires c =
    let l = c.loop-i in
    let w = l.invariant in (
      c.requires.0,
      omega (arith, c.requires.1),
      omega (
        arith,
        w.ends,
        wrote-length w,
        c.requires.2,
        room-here (lent c.args.w.now c.args.h.now c.args.b.now) c.requires.0 l.i (omega (arith, c.requires.1)) _ refl
            c.args.n (omega arith),
      ),
    )

pub loop-i-preserved : goal.loop-i-preserved
loop-i-preserved c =
    let l = c.loop-i in
    rw (records-here (lent c.args.w.now c.args.h.now c.args.b.now) c.requires.0 l.i (omega (arith, c.requires.1)) _ refl)
    (wrote_then l.invariant c.put_record_at-past.ensures)

pub shape_of-out : goal.shape_of-out
shape_of-out c = wrote-length c.loop-i.invariant

pub returns : goal.returns
returns c =
    let l = c.loop-i in
    let e : l.i ≡ c.args.n = omega arith in
    rw (← e) l.invariant
