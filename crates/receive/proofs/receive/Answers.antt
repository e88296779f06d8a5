use mathlib.Core.Path.{◌∙◌, sym}
use borrow.Author.Tests.{not-true, not-false}
use lib.ListN.{length}
use Rattle.settings.specs.Settings.{length_allowed}
use Rattle.settings.specs.SettingsLaws.{length_allowed-true}
use Rattle.decompressor.specs.declared.old.OldForm.TheVariants as oldform
use Rattle.decompressor.proofs.TableLaws.{sound_of-true}
use Rattle.decompressor.specs.Receive.{receive_kind, receive_of}
use Rattle.planes.specs.Planes.{lent}
use Rattle.decompressor_table.specs.Layout.{table_of}
use Rattle.decompressor_table.specs.LayoutLaws.{sound-fits}
use Rattle.decompressor_table.specs.CallsLaws.{gives-kept, gives-by}
use Rattle.receive.proofs.Arriving.{by-unsound, by-type, by_length, by_kind}
use Rattle.receive.proofs.receive.Goals as goal

pub returns-then-not-sound : goal.returns-then-not-sound
returns-then-not-sound c =
    let a = c.args in
    gives-kept (lent c.args.w.now c.args.h.now c.args.b.now) _ a.out.now
    (receive_of ((table_of (lent c.args.w.now c.args.h.now c.args.b.now))) a.kind a.s.now a.out.now)
    (by-unsound oldform.Taken a.kind ((table_of (lent c.args.w.now c.args.h.now c.args.b.now))) a.s.now a.out.now
    (sym c.sound.ensures ∙ not-true _ c.if-not-sound.true-raw))

pub returns-then-kind-gt3 : goal.returns-then-kind-gt3
returns-then-kind-gt3 c =
    let a = c.args in
    gives-kept (lent c.args.w.now c.args.h.now c.args.b.now) _ a.out.now
    (receive_of ((table_of (lent c.args.w.now c.args.h.now c.args.b.now))) a.kind a.s.now a.out.now)
    (by-type oldform.Taken a.kind ((table_of (lent c.args.w.now c.args.h.now c.args.b.now))) a.s.now a.out.now
    (sym c.sound.ensures ∙ not-false _ c.if-not-sound.false-raw)
    c.if-kind-gt3.true)

pub returns-then-not-size : goal.returns-then-not-size
returns-then-not-size c =
    let a = c.args in
    gives-kept (lent c.args.w.now c.args.h.now c.args.b.now) _ a.out.now
    (receive_of ((table_of (lent c.args.w.now c.args.h.now c.args.b.now))) a.kind a.s.now a.out.now)
    (by_length oldform.Taken a.kind ((table_of (lent c.args.w.now c.args.h.now c.args.b.now))) a.s.now a.out.now
    (sym c.sound.ensures ∙
    not-false _ c.if-not-sound.false-raw) c.if-kind-gt3.false (not-true (length_allowed (length a.s.now)) c.if-not-size.true-raw))

pub receive_kind-requires : goal.receive_kind-requires
receive_kind-requires c =
    let a = c.args in
    let p = length_allowed-true (length a.s.now) (not-false (length_allowed (length a.s.now)) c.if-not-size.false-raw) in (
      sound-fits (lent c.args.w.now c.args.h.now c.args.b.now) (sym c.sound.ensures ∙ not-false _ c.if-not-sound.false-raw),
      sound_of-true ((table_of (lent c.args.w.now c.args.h.now c.args.b.now)))
          (sym c.sound.ensures ∙ not-false _ c.if-not-sound.false-raw),
      p.0,
      p.1,
    )

pub returns : goal.returns
returns c =
    let a = c.args in
    gives-by (lent c.args.w.now c.args.h.now c.args.b.now) _ c.receive_kind.result _
    (receive_kind oldform.Taken a.kind ((table_of (lent c.args.w.now c.args.h.now c.args.b.now))) a.s.now a.out.now)
    (receive_of ((table_of (lent c.args.w.now c.args.h.now c.args.b.now))) a.kind a.s.now a.out.now)
    (by_kind oldform.Taken a.kind ((table_of (lent c.args.w.now c.args.h.now c.args.b.now))) a.s.now a.out.now
    (sym c.sound.ensures ∙ not-false _ c.if-not-sound.false-raw) c.if-kind-gt3.false
    (not-false (length_allowed (length a.s.now)) c.if-not-size.false-raw)) c.receive_kind.ensures
