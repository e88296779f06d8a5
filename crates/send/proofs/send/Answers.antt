use mathlib.Core.Path.{◌∙◌, sym, ap}
use native.Mathlib.Omega.{arith}
use borrow.Author.Tests.{not-true, not-false}
use lib.ListN.{length}
use Rattle.codes.specs.BytesLaws.{AllBytes-elements}
use Rattle.headers.proofs.CompressibleLaws.{compressible-true}
use Rattle.settings.specs.Settings.{length_allowed}
use Rattle.packet.specs.declared.header.Header.{Header}
use Rattle.compressor.proofs.CanSendLaws.{sound-most, CanSend-on}
use Rattle.compressor.proofs.TableLaws.{sound_of-true}
use Rattle.compressor.specs.Send.{send_of}
use Rattle.compressor.specs.CanSend.{send_with}
use Rattle.planes.specs.Planes.{lent}
use Rattle.compressor_table.specs.Layout.{table_of}
use Rattle.compressor_table.specs.LayoutLaws.{sound-fits, length-table_of}
use Rattle.compressor_table.specs.CallsLaws.{gives-kept, gives-by}
use Rattle.compressor_steady.proofs.Unlisted.{unlisted-lent}
use Rattle.send.proofs.Ways.{way-unsound, way-length, way-plain, way-nowhere, way_at, way_on}
use Rattle.send.proofs.send.Goals as goal

pub returns-then-not-sound : goal.returns-then-not-sound
returns-then-not-sound c =
    let a = c.args in
    gives-kept (lent c.args.w.now c.args.h.now c.args.b.now) _ a.out.now
    (send_of ((table_of (lent c.args.w.now c.args.h.now c.args.b.now))) a.p.now a.out.now)
    (way-unsound ((table_of (lent c.args.w.now c.args.h.now c.args.b.now))) a.p.now a.out.now
    (sym c.sound.ensures ∙ not-true _ c.if-not-sound.true-raw))

pub returns-then-not-allowed : goal.returns-then-not-allowed
returns-then-not-allowed c =
    let a = c.args in
    gives-kept (lent c.args.w.now c.args.h.now c.args.b.now) _ a.out.now
    (send_of ((table_of (lent c.args.w.now c.args.h.now c.args.b.now))) a.p.now a.out.now)
    (way-length ((table_of (lent c.args.w.now c.args.h.now c.args.b.now))) a.p.now a.out.now
    (sym c.sound.ensures ∙ not-false _ c.if-not-sound.false-raw)
    (not-true (length_allowed (length a.p.now)) c.if-not-allowed.true-raw))

pub returns-then-not-is_compressible : goal.returns-then-not-is_compressible
returns-then-not-is_compressible c =
    let a = c.args in
    gives-kept (lent c.args.w.now c.args.h.now c.args.b.now) c.send_plain.result _
    (send_of ((table_of (lent c.args.w.now c.args.h.now c.args.b.now))) a.p.now a.out.now)
    (c.send_plain.ensures ((table_of (lent c.args.w.now c.args.h.now c.args.b.now)))
    ∙ way-plain ((table_of (lent c.args.w.now c.args.h.now c.args.b.now))) a.p.now a.out.now
    (sym c.sound.ensures ∙ not-false _ c.if-not-sound.false-raw) (not-false
    (length_allowed
    (length a.p.now)) c.if-not-allowed.false-raw)
    (sym c.is_compressible.ensures ∙ not-true _ c.if-not-is_compressible.true-raw))

pub read_rtp_list-list-requires : goal.read_rtp_list-list-requires
read_rtp_list-list-requires c =
    let k = compressible-true c.args.p.now (sym c.is_compressible.ensures
    ∙ not-false _ c.if-not-is_compressible.false-raw) in
    omega (arith, k.enough, k.list)

pub header_with-header-requires : goal.header_with-header-requires
header_with-header-requires c =
    let k = compressible-true c.args.p.now (sym c.is_compressible.ensures
    ∙ not-false _ c.if-not-is_compressible.false-raw) in
    (omega (arith, k.enough, k.list), c.read_rtp_list-list.ensures)

pub find-requires : goal.find-requires
find-requires c = (
  sound-fits (lent c.args.w.now c.args.h.now c.args.b.now) (sym c.sound.ensures ∙
      not-false _ c.if-not-sound.false-raw),
  sound-most ((table_of (lent c.args.w.now c.args.h.now c.args.b.now)))
      (sound_of-true ((table_of (lent c.args.w.now c.args.h.now c.args.b.now)))
      (sym c.sound.ensures ∙ not-false _ c.if-not-sound.false-raw)),
)

pub send_on-requires : goal.send_on-requires
send_on-requires c =
    let a = c.args in
    let sounds = sym c.sound.ensures ∙ not-false _ c.if-not-sound.false-raw in
    let k = CanSend-on ((table_of (lent c.args.w.now c.args.h.now c.args.b.now))) a.p.now c.in-Some.i
    (length-table_of (lent c.args.w.now c.args.h.now c.args.b.now)
    (sound-fits (lent c.args.w.now c.args.h.now c.args.b.now) sounds))
    (AllBytes-elements a.p.now (λ j. omega (arith, c.shared_slice_known-1.given j)))
    (way_on ((table_of (lent c.args.w.now c.args.h.now c.args.b.now))) a.p.now a.out.now sounds
    (not-false (length_allowed (length a.p.now)) c.if-not-allowed.false-raw)
    (sym c.is_compressible.ensures ∙ not-false _ c.if-not-is_compressible.false-raw)
    c.in-Some.i
    (sym (rw c.header_with-header.ensures at c.find.ensures) ∙ c.in-Some.is)) in (
      sound-fits (lent c.args.w.now c.args.h.now c.args.b.now) sounds,
      rw c.header_with-header.ensures k,
      rw c.header_with-header.ensures
          (unlisted-lent (lent c.args.w.now c.args.h.now c.args.b.now) c.in-Some.i a.p.now
          (sound-fits (lent c.args.w.now c.args.h.now c.args.b.now) sounds) k.place sounds),
    )

pub returns-in-Some : goal.returns-in-Some
returns-in-Some c =
    let a = c.args in
    gives-by (lent c.args.w.now c.args.h.now c.args.b.now) _ c.send_on.result _
    (send_with ((table_of (lent c.args.w.now c.args.h.now c.args.b.now))) c.in-Some.i a.p.now a.out.now c.header_with-header.result)
    (send_of ((table_of (lent c.args.w.now c.args.h.now c.args.b.now))) a.p.now a.out.now)
    (ap (λ (x : Header). send_with ((table_of (lent c.args.w.now c.args.h.now c.args.b.now))) c.in-Some.i a.p.now a.out.now x)
    c.header_with-header.ensures
    ∙ way_at ((table_of (lent c.args.w.now c.args.h.now c.args.b.now))) a.p.now a.out.now
    (sym c.sound.ensures ∙ not-false _ c.if-not-sound.false-raw) (not-false
    (length_allowed (length a.p.now)) c.if-not-allowed.false-raw) (sym c.is_compressible.ensures
    ∙ not-false _ c.if-not-is_compressible.false-raw)
    c.in-Some.i
    (sym (rw c.header_with-header.ensures at c.find.ensures) ∙
    c.in-Some.is))
    c.send_on.ensures

pub returns-in-None : goal.returns-in-None
returns-in-None c =
    let a = c.args in
    gives-kept (lent c.args.w.now c.args.h.now c.args.b.now) c.send_plain-in-None.result _
    (send_of ((table_of (lent c.args.w.now c.args.h.now c.args.b.now))) a.p.now a.out.now)
    (c.send_plain-in-None.ensures ((table_of (lent c.args.w.now c.args.h.now c.args.b.now)))
    ∙ way-nowhere ((table_of (lent c.args.w.now c.args.h.now c.args.b.now))) a.p.now a.out.now
    (sym c.sound.ensures ∙ not-false _ c.if-not-sound.false-raw)
    (not-false (length_allowed (length a.p.now)) c.if-not-allowed.false-raw) (sym c.is_compressible.ensures ∙ not-false _
    c.if-not-is_compressible.false-raw)
    (sym (rw c.header_with-header.ensures at
    c.find.ensures) ∙ c.in-None.is))
