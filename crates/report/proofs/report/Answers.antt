use Prim.Native.Nat.{ℕ}
use mathlib.Core.Bool.{true, false}
use mathlib.Core.Path.{◌≡◌, sym, ap, ◌∙◌}
use native.Mathlib.Omega.{arith}
use borrow.Author.Tests.{not-true, not-false}
use lib.ListN.{length}
use Rattle.octets.specs.PutLaws.{wrote_then}
use Rattle.links.specs.Cs.{State, cs_bytes}
use Rattle.links.proofs.CsLaws.{length-records_bytes}
use Rattle.planes.specs.Planes.{Lent, lent}
use Rattle.decompressor.specs.Table.{sound_of}
use Rattle.decompressor.proofs.TableLaws.{sound_of-true}
use Rattle.decompressor_table.specs.Layout.{table_of}
use Rattle.decompressor_table.specs.LayoutLaws.{sound-fits, fits-sizes}
use Rattle.report.specs.Report.{states_from, report_of}
use Rattle.report.specs.ReportLaws.{report-none, report-no_room, report-accepted}
use Rattle.report.specs.Told.{told}
use Rattle.report.specs.ToldLaws.{states-lent, linked-lent}
use Rattle.report.proofs.report.Goals as goal

-- how many are broken, by the bytes and by the table
counted : (l : Lent) (n : ℕ) → sound_of (table_of l) ≡ true → n ≡ length (states_from 0 (told l.bytes))
    → n ≡ length (states_from 0 (table_of l).contexts)
counted l n s e = e ∙ ap (length {A = State}) (states-lent l (sound-fits l s))

pub returns-then-not-sound : goal.returns-then-not-sound
unfolding report_of
returns-then-not-sound c = rw (← c.sound.ensures, not-true c.sound.result c.if-not-sound.true-raw)

pub count_records-n-requires : goal.count_records-n-requires
count_records-n-requires c =
    let x = c.sound in
    let s = sym x.ensures ∙ not-false x.result c.if-not-sound.false-raw in
    (fits-sizes (lent c.args.w.now c.args.h.now c.args.b.now) (sound-fits (lent c.args.w.now c.args.h.now c.args.b.now) s)).bytes

pub returns-then-n-eq0 : goal.returns-then-n-eq0
returns-then-n-eq0 c =
    let l = (lent c.args.w.now c.args.h.now c.args.b.now) in
    let x = c.sound in
    let s = sym x.ensures ∙ not-false x.result c.if-not-sound.false-raw in
    let n = c.count_records-n in
    report-none (table_of l) c.args.out.now s n.result
    (counted l n.result s n.ensures.0) c.if-n-eq0.true

pub returns-then-out-size : goal.returns-then-out-size
returns-then-out-size c =
    let l = (lent c.args.w.now c.args.h.now c.args.b.now) in
    let x = c.sound in
    let s = sym x.ensures ∙ not-false x.result c.if-not-sound.false-raw in
    let n = c.count_records-n in
    report-no_room (table_of l) c.args.out.now s n.result (counted l n.result s n.ensures.0)
    (omega (arith, c.if-n-eq0.false)) c.if-out-size.true

pub put_states-requires : goal.put_states-requires
put_states-requires c =
    let l = (lent c.args.w.now c.args.h.now c.args.b.now) in
    let x = c.sound in
    let s = sym x.ensures ∙ not-false x.result c.if-not-sound.false-raw
    in
    let f = sound-fits l s in (
      (fits-sizes l f).bytes,
      linked-lent l f (sound_of-true (table_of l) s),
      omega (
        arith,
        c.count_records-n.ensures.0,
        length-records_bytes (states_from 0 (told l.bytes)),
        c.if-out-size.false,
        c.put_count-a.ensures.0,
      ),
    )

pub returns : goal.returns
unfolding cs_bytes
returns c =
    let l = (lent c.args.w.now c.args.h.now c.args.b.now) in
    let x = c.sound in
    let s = sym x.ensures ∙ not-false x.result c.if-not-sound.false-raw in
    let n = c.count_records-n in
    let e = counted l n.result s n.ensures.0 in
    report-accepted (table_of l) c.args.out.now s n.result e (omega (
      arith,
      c.if-n-eq0.false,
    )) _ _
    c.if-out-size.false
    (wrote_then (rw e at c.put_count-a.ensures.1)
    (rw (states-lent l (sound-fits l s)) at c.put_states.ensures))
