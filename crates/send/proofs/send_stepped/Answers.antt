use native.Mathlib.Omega.{arith}
use Rattle.context.specs.Compressor.{stepped}
use Rattle.compressor.proofs.SentLaws.{length_rest}
use Rattle.compressor.specs.CanSend.{send_with}
use Rattle.planes.specs.Planes.{lent}
use Rattle.compressor_table.specs.Layout.{table_of}
use Rattle.compressor_table.specs.LayoutLaws.{fits-sizes, table_of-repeats}
use Rattle.compressor_table.specs.CallsLaws.{gives-kept}
use Rattle.send.proofs.Sending.{past-link, send_with-refused, send_with-written, step-here, gives-sent}
use Rattle.send.proofs.send_stepped.Goals as goal

pub list_at-list-requires : goal.list_at-list-requires
list_at-list-requires c =
    let z = fits-sizes (lent c.args.w.now c.args.h.now c.args.b.now) c.requires.0 in (z.words, z.bytes, c.requires.1.place)

pub context_with-context-requires : goal.context_with-context-requires
context_with-context-requires c =
    let z = fits-sizes (lent c.args.w.now c.args.h.now c.args.b.now) c.requires.0 in
    (z.words, z.shorts, z.bytes, c.requires.1.place, c.list_at-list.ensures)

pub bounds-b-1280 : goal.bounds-b-1280
bounds-b-1280 c =
    omega (
      arith,
      (fits-sizes (lent c.args.w.now c.args.h.now c.args.b.now) c.requires.0).bytes,
    )

pub step_on-step-requires : goal.step_on-step-requires
step_on-step-requires c =
    omega (
      arith,
      c.requires.1.repeats,
      table_of-repeats (lent c.args.w.now c.args.h.now c.args.b.now) c.requires.0,
    )

pub slice_bounds-tail-count : goal.slice_bounds-tail-count
slice_bounds-tail-count c =
    omega (
      arith,
      c.requires.1.whole,
      c.header_size-start.ensures,
    )

pub slice_bounds-tail-start : goal.slice_bounds-tail-start
slice_bounds-tail-start c =
    omega (
      arith,
      c.requires.1.whole,
      c.header_size-start.ensures,
    )

pub link_size-requires : goal.link_size-requires
link_size-requires c =
    let a = c.args in
    let x = c.step_on-step in
    (rw (step-here (lent c.args.w.now c.args.h.now c.args.b.now) a.i a.x c.context_with-context.result (stepped x.result)
    c.requires.0 c.requires.1.place
    c.context_with-context.ensures x.ensures) c.requires.1.writable)

pub overflow_add-size : goal.overflow_add-size
overflow_add-size c =
    omega (
      arith,
      c.requires.1.most,
      c.link_size.ensures.1,
    )

pub returns-then-out-size : goal.returns-then-out-size
returns-then-out-size c =
    let a = c.args in
    let x = c.step_on-step in
    let f = c.header_size-start in
    let l = c.link_size in
    gives-kept (lent c.args.w.now c.args.h.now c.args.b.now) _ a.out.now
    (send_with ((table_of (lent c.args.w.now c.args.h.now c.args.b.now))) a.i a.p.now a.out.now a.x)
    (send_with-refused ((table_of (lent c.args.w.now c.args.h.now c.args.b.now))) a.i a.p.now a.out.now a.x (stepped x.result)
    (rw (step-here (lent c.args.w.now c.args.h.now c.args.b.now) a.i a.x c.context_with-context.result (stepped x.result)
    c.requires.0 c.requires.1.place
    c.context_with-context.ensures x.ensures) c.requires.1.writable)
    l.result f.result l.ensures.0 f.ensures (step-here (lent c.args.w.now c.args.h.now c.args.b.now) a.i a.x
    c.context_with-context.result (stepped x.result) c.requires.0 c.requires.1.place
    c.context_with-context.ensures x.ensures)
    (omega (arith, length_rest a.p.now f.result, c.if-out-size.true)))

pub overflow_cast-i : goal.overflow_cast-i
overflow_cast-i c =
    omega (
      arith,
      c.requires.1.place,
    )

pub overflow_cast-p : goal.overflow_cast-p
overflow_cast-p c =
    omega (
      arith,
      c.requires.1.most,
    )

pub put_link-past-requires : goal.put_link-past-requires
put_link-past-requires c =
    let a = c.args in
    let x = c.step_on-step in (
      (rw (step-here (lent c.args.w.now c.args.h.now c.args.b.now) a.i a.x c.context_with-context.result
          (stepped x.result) c.requires.0 c.requires.1.place
          c.context_with-context.ensures x.ensures) c.requires.1.writable),
      omega (arith, c.if-out-size.false, c.link_size.ensures.0),
    )

pub put_all-length-requires : goal.put_all-length-requires
put_all-length-requires c =
    let a = c.args in
    let x = c.step_on-step in
    let f = c.header_size-start in
    let l = c.link_size in
    let w = past-link ((table_of (lent c.args.w.now c.args.h.now c.args.b.now))) a.i a.p.now a.out.now a.x (stepped x.result)
    (rw (step-here (lent c.args.w.now c.args.h.now c.args.b.now) a.i a.x c.context_with-context.result
    (stepped x.result) c.requires.0 c.requires.1.place
    c.context_with-context.ensures x.ensures)
    c.requires.1.writable)
    l.result f.result l.ensures.0 f.ensures c.put_link-past.ensures in
    omega (arith, length_rest a.p.now f.result, c.if-out-size.false, w)

pub put_context-requires : goal.put_context-requires
put_context-requires c = (
  c.requires.0,
  c.requires.1.place,
)

pub returns : goal.returns
returns c =
    let a = c.args in
    let x = c.step_on-step in
    let f = c.header_size-start in
    let l = c.link_size in
    gives-sent (lent c.args.w.now c.args.h.now c.args.b.now) _ a.i c.kind_number.result c.put_all-length.result
    (stepped x.result).context _
    (send_with ((table_of (lent c.args.w.now c.args.h.now c.args.b.now))) a.i a.p.now a.out.now a.x) c.put_context.ensures
    (send_with-written ((table_of (lent c.args.w.now c.args.h.now c.args.b.now))) a.i a.p.now a.out.now a.x (stepped x.result)
    (rw (step-here (lent c.args.w.now c.args.h.now c.args.b.now) a.i a.x c.context_with-context.result
    (stepped x.result) c.requires.0 c.requires.1.place
    c.context_with-context.ensures x.ensures) c.requires.1.writable)
    l.result f.result l.ensures.0 f.ensures (step-here (lent c.args.w.now c.args.h.now c.args.b.now) a.i a.x
    c.context_with-context.result (stepped
    x.result) c.requires.0 c.requires.1.place
    c.context_with-context.ensures x.ensures) c.kind_number.result c.kind_number.ensures
    (omega (
      arith,
      length_rest a.p.now f.result,
      c.if-out-size.false,
    ))
    c.put_link-past.ensures c.put_all-length.ensures)
