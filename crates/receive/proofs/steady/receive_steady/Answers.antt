use lib.ListN.{length}
use Rattle.planes.specs.Planes.{lent}
use Rattle.context.proofs.Arrays.{part-rest}
use Rattle.receive.proofs.SteadyWay.{found-moved, found-narrow, found-count, rest-allowed, rest-fits}
use Rattle.receive.proofs.steady.receive_steady.Goals as goal

pub deliver-requires : goal.deliver-requires
deliver-requires c =
    let a = c.args in
    let l = (lent c.args.w.now c.args.h.now c.args.b.now) in
    let n = length a.out.now in
    let f = c.requires.0 in
    let t = c.requires.1 in
    rw (c.step_on-after.ensures, part-rest a.s.now a.read.start) (
      f.fits,
      f.place,
      found-moved l a.i a.c a.head a.s.now n a.read f t,
      found-narrow l a.i a.c a.head a.s.now n a.read f t,
      found-count l a.i a.c a.head a.s.now n a.read f t,
      rest-allowed l a.i a.c a.head a.s.now n a.read f t,
      rest-fits l a.i a.c a.head a.s.now n a.read f t,
    )

pub returns : goal.returns
returns c =
    let a = c.args in
    rw (c.step_on-after.ensures, part-rest a.s.now a.read.start) at c.deliver.ensures
