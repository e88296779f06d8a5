use native.Mathlib.Omega.{arith}
use lib.ListN.{length}
use Rattle.compressor_steady.specs.Steady.{steadied}
use Rattle.compressor.proofs.SentLaws.{length_rest}
use Rattle.compressor.specs.CanSend.{send_with}
use Rattle.planes.specs.Planes.{lent}
use Rattle.compressor_table.specs.Layout.{table_of}
use Rattle.send.proofs.Sending.{gives-sent}
use Rattle.send.proofs.Steady.{link-steady, room-steady, past-steady, sent-steady, stored-steady}
use Rattle.send.proofs.send_steady.Goals as goal

pub put_steady-past-requires : goal.put_steady-past-requires
put_steady-past-requires c =
    let a = c.args in (
      link-steady (lent c.args.w.now c.args.h.now c.args.b.now) a.i a.p.now a.x a.c c.requires.0 c.requires.1 c.requires.2
          c.requires.3 c.requires.4,
      omega (arith, c.requires.1.whole, c.requires.5),
    )

pub slice_bounds-put_all-count : goal.slice_bounds-put_all-count
slice_bounds-put_all-count c =
    omega (arith, c.requires.1.whole, c.header_size-start.ensures)

pub slice_bounds-put_all-start : goal.slice_bounds-put_all-start
slice_bounds-put_all-start c =
    omega (arith, c.requires.1.whole, c.header_size-start.ensures)

pub put_all-length-requires : goal.put_all-length-requires
put_all-length-requires c =
    let a = c.args in
    let f = c.header_size-start in
    omega (
      arith,
      length_rest a.p.now f.result,
      c.requires.5,
      past-steady (lent c.args.w.now c.args.h.now c.args.b.now) a.i a.p.now a.x a.c c.requires.0 c.requires.1 c.requires.2
          c.requires.3 c.requires.4
          f.result f.ensures (c.put_steady-past.ensures (length a.p.now)),
      room-steady (lent c.args.w.now c.args.h.now c.args.b.now) a.i a.p.now a.x a.c c.requires.0 c.requires.1 c.requires.2
          c.requires.3 c.requires.4
          f.result f.ensures,
    )

pub returns : goal.returns
returns c =
    let a = c.args in
    let f = c.header_size-start in
    gives-sent (lent c.args.w.now c.args.h.now c.args.b.now) _ a.i 3 c.put_all-length.result (steadied a.x a.c) _
    (send_with ((table_of (lent c.args.w.now c.args.h.now c.args.b.now))) a.i a.p.now a.out.now a.x)
    (stored-steady (lent c.args.w.now c.args.h.now c.args.b.now) a.i a.p.now a.x a.c c.requires.0 c.requires.1 c.requires.2
    c.requires.3 c.requires.4
    c.store_steady.ensures)
    (sent-steady (lent c.args.w.now c.args.h.now c.args.b.now) a.i a.p.now a.x a.c c.requires.0 c.requires.1 c.requires.2
    c.requires.3 c.requires.4
    f.result f.ensures c.requires.5 (c.put_steady-past.ensures (length a.p.now)) c.put_all-length.ensures)
