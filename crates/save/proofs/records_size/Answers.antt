use mathlib.Core.Path.{◌≡◌, refl}
use native.Mathlib.Omega.{arith}
use Rattle.planes.specs.Planes.{lent}
use Rattle.decompressor_table.specs.LayoutLaws.{sound-fits, fits-sizes}
use Rattle.save.specs.LentLaws.{sound-here, length-here}
use Rattle.save.proofs.records_size.Goals as goal

pub loop-i-init : goal.loop-i-init
loop-i-init c = (refl, omega arith)

pub context_at-requires : goal.context_at-requires
context_at-requires c =
    let a = c.args in
    let z = fits-sizes (lent a.w.now a.h.now a.b.now) (sound-fits (lent a.w.now a.h.now a.b.now) c.requires.0) in
    (z.words, z.shorts, z.bytes, omega (arith, c.requires.1))

pub record_size-size-requires : goal.record_size-size-requires
record_size-size-requires c =
    sound-here (lent c.args.w.now c.args.h.now c.args.b.now) c.requires.0 c.loop-i.i (omega (arith, c.requires.1))
    c.context_at.result c.context_at.ensures

pub overflow_add-size : goal.overflow_add-size
overflow_add-size c = omega (arith, c.requires.1, c.loop-i.invariant.1, c.record_size-size.ensures.1)

pub loop-i-preserved : goal.loop-i-preserved
loop-i-preserved c =
    let l = c.loop-i in (
      omega (
        arith,
        length-here (lent c.args.w.now c.args.h.now c.args.b.now) c.requires.0 l.i (omega (arith, c.requires.1))
            c.context_at.result c.context_at.ensures,
        l.invariant.0,
        c.record_size-size.ensures.0,
      ),
      omega (arith, l.invariant.1, c.record_size-size.ensures.1),
    )

pub returns : goal.returns
returns c =
    let l = c.loop-i in
    let e : l.i ≡ c.args.n = omega arith in
    (rw (← e) l.invariant.0, omega (arith, l.invariant.1, c.requires.1))
