use Rattle.planes.specs.Planes.{lent}
use lib.ListN.{length}
use Rattle.receive.proofs.SteadyWay.{rebuilt-count, rebuilt-size, gives-delivered}
use Rattle.receive.proofs.steady.deliver.Goals as goal

pub put_bare_packet-requires : goal.put_bare_packet-requires
put_bare_packet-requires c =
    let a = c.args in
    rw c.rebuild-header.ensures (
      c.requires.3,
      rebuilt-count a.c a.sent c.requires.4,
      rebuilt-size a.c a.sent c.requires.4 (length a.rest.now),
      c.requires.5,
      c.requires.6,
    )

pub returns : goal.returns
returns c =
    let a = c.args in
    gives-delivered a.c a.sent c.requires.4 (lent c.args.w.now c.args.h.now c.args.b.now) _ a.i a.rest.now a.out.now _ _
    c.rebuild-header.result c.rebuild-header.ensures c.requires.6 c.put_moved.ensures
    c.put_bare_packet.ensures
