use mathlib.Core.Path.{◌∙◌}
use Rattle.decompressor.specs.declared.old.OldForm.TheVariants as oldform
use Rattle.decompressor.specs.Receive.{receive_full, receive_compressed, receive_kind}
use Rattle.planes.specs.Planes.{lent}
use Rattle.decompressor_table.specs.Layout.{table_of}
use Rattle.decompressor_table.specs.CallsLaws.{gives-kept, gives-by}
use Rattle.receive.proofs.Arriving.{kind-plain, kind-full, kind-compressed}
use Rattle.receive.proofs.receive_kind.Goals as goal

pub returns-then-kind-eq0 : goal.returns-then-kind-eq0
returns-then-kind-eq0 c =
    let a = c.args in
    gives-kept (lent c.args.w.now c.args.h.now c.args.b.now) c.receive_plain.result _
    (receive_kind a.old a.kind ((table_of (lent c.args.w.now c.args.h.now c.args.b.now))) a.s.now a.out.now)
    (c.receive_plain.ensures ((table_of (lent c.args.w.now c.args.h.now c.args.b.now)))
    ∙ kind-plain a.old a.kind ((table_of (lent c.args.w.now c.args.h.now c.args.b.now))) a.s.now a.out.now c.if-kind-eq0.true)

pub returns-then-kind-eq1 : goal.returns-then-kind-eq1
returns-then-kind-eq1 c =
    let a = c.args in
    gives-by (lent c.args.w.now c.args.h.now c.args.b.now) _ c.receive_full.result _ (receive_full
    ((table_of (lent c.args.w.now c.args.h.now c.args.b.now))) a.s.now a.out.now)
    (receive_kind a.old a.kind ((table_of (lent c.args.w.now c.args.h.now c.args.b.now))) a.s.now a.out.now)
    (kind-full a.old a.kind ((table_of (lent c.args.w.now c.args.h.now c.args.b.now))) a.s.now a.out.now c.if-kind-eq0.false
    c.if-kind-eq1.true)
    c.receive_full.ensures

pub returns : goal.returns
returns c =
    let a = c.args in
    gives-by (lent c.args.w.now c.args.h.now c.args.b.now) _ c.receive_compressed.result _
    (receive_compressed a.old a.kind ((table_of (lent c.args.w.now c.args.h.now c.args.b.now))) a.s.now a.out.now)
    (receive_kind a.old a.kind ((table_of (lent c.args.w.now c.args.h.now c.args.b.now))) a.s.now
    a.out.now)
    (kind-compressed a.old a.kind ((table_of (lent c.args.w.now c.args.h.now c.args.b.now))) a.s.now a.out.now c.if-kind-eq0.false
    c.if-kind-eq1.false)
    c.receive_compressed.ensures
