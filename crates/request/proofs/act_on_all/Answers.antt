use mathlib.Core.Path.{◌∙◌, sym}
use native.Mathlib.Omega.{arith}
use Rattle.planes.specs.Planes.{lent}
use Rattle.compressor.proofs.RequestLaws.{request_table-made}
use Rattle.compressor_table.specs.Layout.{table_of}
use Rattle.compressor_table.specs.LayoutLaws.{fits-sizes, table_of-repeats}
use Rattle.request.proofs.Acting.{acted-start, acted-more}
use Rattle.request.proofs.act_on_all.Goals as goal

pub bounds-b-1280 : goal.bounds-b-1280
bounds-b-1280 c = let a = c.args in omega (
  arith,
  (fits-sizes (lent a.w.now a.h.now a.b.now) c.requires.0).bytes,
)

pub record_count-count-requires : goal.record_count-count-requires
record_count-count-requires c = omega (arith, c.requires.1.good.exact)

pub loop-i-init : goal.loop-i-init
loop-i-init c = let a = c.args in acted-start (lent a.w.now a.h.now a.b.now) a.s.now c.requires.0

pub record_asks-asks-requires : goal.record_asks-asks-requires
record_asks-asks-requires c =
    omega (arith, c.requires.1.good.exact, c.record_count-count.ensures)

pub record_context-place-requires : goal.record_context-place-requires
record_context-place-requires c = omega (
  arith,
  c.requires.1.good.exact,
  c.record_count-count.ensures,
)

pub context_at-context-requires : goal.context_at-context-requires
context_at-context-requires c =
    let l = c.loop-i in
    let z = fits-sizes (lent l.w l.h l.b) l.invariant.fit in (
      z.words,
      z.shorts,
      z.bytes,
      omega (
        arith,
        c.requires.1.most,
        c.requires.1.good.contexts l.i (omega (
          arith,
          c.record_count-count.ensures,
        )),
        c.record_context-place.ensures,
      ),
    )

pub act_on-asked-requires : goal.act_on-asked-requires
act_on-asked-requires c =
    let a = c.args in
    omega (arith, c.requires.1.repeats, table_of-repeats (lent a.w.now a.h.now a.b.now) c.requires.0)

pub put_context-requires : goal.put_context-requires
put_context-requires c =
    let l = c.loop-i in (
      l.invariant.fit,
      omega (
        arith,
        c.requires.1.most,
        c.requires.1.good.contexts l.i (omega (
          arith,
          c.record_count-count.ensures,
        )),
        c.record_context-place.ensures,
      ),
    )

pub loop-i-preserved : goal.loop-i-preserved
loop-i-preserved c =
    let a = c.args in
    let l = c.loop-i in
    acted-more (lent a.w.now a.h.now a.b.now) (lent l.w l.h l.b) _ a.s.now l.i
    c.record_context-place.result c.record_asks-asks.result
    c.context_at-context.result c.act_on-asked.result c.requires.0 l.invariant
    (omega (
      arith,
      c.requires.1.most,
      c.requires.1.good.contexts l.i (omega (
        arith,
        c.record_count-count.ensures,
      )),
      c.record_context-place.ensures,
    ))
    c.record_asks-asks.ensures c.record_context-place.ensures
    c.context_at-context.ensures c.act_on-asked.ensures c.put_context.ensures

pub shape_of-w : goal.shape_of-w
shape_of-w c =
    let a = c.args in
    let l = c.loop-i in
    (fits-sizes (lent l.w l.h l.b) l.invariant.fit).words
    ∙ sym (fits-sizes (lent a.w.now a.h.now a.b.now) c.requires.0).words

pub shape_of-h : goal.shape_of-h
shape_of-h c =
    let a = c.args in
    let l = c.loop-i in
    (fits-sizes (lent l.w l.h l.b) l.invariant.fit).shorts
    ∙ sym (fits-sizes (lent a.w.now a.h.now a.b.now) c.requires.0).shorts

pub shape_of-b : goal.shape_of-b
shape_of-b c =
    let a = c.args in
    let l = c.loop-i in
    (fits-sizes (lent l.w l.h l.b) l.invariant.fit).bytes
    ∙ sym (fits-sizes (lent a.w.now a.h.now a.b.now) c.requires.0).bytes

pub returns : goal.returns
returns c =
    let a = c.args in
    let l = c.loop-i in
    request_table-made (table_of (lent a.w.now a.h.now a.b.now)) a.s.now (table_of (lent l.w l.h l.b))
    l.i
    (omega (arith, c.record_count-count.ensures)) l.invariant.settings l.invariant.contexts
