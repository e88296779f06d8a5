use mathlib.Core.Path.{◌∙◌, sym, ap}
use native.Mathlib.Omega.{arith}
use borrow.Author.Tests.{not-true, not-false}
use mathlib.Core.List.{[]}
use Prim.Native.Nat.{ℕ}
use Rattle.packet.specs.Refusal.{verdict_number}
use Rattle.links.specs.Cs.{request_judged}
use Rattle.links.proofs.CsLaws.{request_judged-good}
use Rattle.compressor.specs.declared.table.Table.{Table}
use Rattle.compressor.proofs.CanSendLaws.{sound-repeats, sound-most}
use Rattle.compressor.proofs.TableLaws.{sound_of-true}
use Rattle.compressor.specs.Request.{request_of}
use Rattle.compressor.proofs.RequestLaws.{request_of-unsound, request_of-good, request_of-refused}
use Rattle.compressor.specs.Answer.{said}
use Rattle.std.specs.Prelude.{Ok}
use Rattle.planes.specs.Planes.{lent}
use Rattle.compressor_table.specs.Layout.{table_of}
use Rattle.compressor_table.specs.LayoutLaws.{fits-sizes, sound-fits, table_of-contexts}
use Rattle.compressor_table.specs.CallsLaws.{gives-kept, gives-accepted}
use Rattle.request.proofs.request.Goals as goal

pub returns-then-not-sound : goal.returns-then-not-sound
returns-then-not-sound c =
    gives-kept (lent c.args.w.now c.args.h.now c.args.b.now) _ [] (request_of
    ((table_of (lent c.args.w.now c.args.h.now c.args.b.now))) c.args.s.now)
    (request_of-unsound ((table_of (lent c.args.w.now c.args.h.now c.args.b.now))) c.args.s.now
    (sym c.sound.ensures ∙ not-true _ c.if-not-sound.true-raw))

pub bounds-b-1281 : goal.bounds-b-1281
bounds-b-1281 c =
    omega (
      arith,
      (fits-sizes (lent c.args.w.now c.args.h.now c.args.b.now)
          (sound-fits (lent c.args.w.now c.args.h.now c.args.b.now) (sym c.sound.ensures
          ∙ not-false _ c.if-not-sound.false-raw))).bytes,
    )

pub act_on_all-requires : goal.act_on_all-requires
act_on_all-requires c =
    let f = sound-fits (lent c.args.w.now c.args.h.now c.args.b.now) (sym c.sound.ensures ∙
    not-false _ c.if-not-sound.false-raw) in
    let k = sound_of-true ((table_of (lent c.args.w.now c.args.h.now c.args.b.now))) (sym c.sound.ensures ∙
    not-false _ c.if-not-sound.false-raw) in (
      f,
      record {
        repeats = sound-repeats ((table_of (lent c.args.w.now c.args.h.now c.args.b.now))) k;
        most = sound-most ((table_of (lent c.args.w.now c.args.h.now c.args.b.now))) k;
        good = request_judged-good ((table_of (lent c.args.w.now c.args.h.now c.args.b.now))).settings.contexts c.args.s.now
            (ap (λ (k : ℕ). request_judged k c.args.s.now) (table_of-contexts (lent c.args.w.now c.args.h.now c.args.b.now)
            (sound-fits (lent c.args.w.now c.args.h.now c.args.b.now)
            (sym c.sound.ensures ∙ not-false _ c.if-not-sound.false-raw))) ∙ sym c.judge_request.ensures
            ∙ ap verdict_number c.in-Ok.is);
      },
    )

pub returns-in-Ok : goal.returns-in-Ok
returns-in-Ok c =
    gives-accepted (lent c.args.w.now c.args.h.now c.args.b.now) _ 0 0 []
    (request_of ((table_of (lent c.args.w.now c.args.h.now c.args.b.now))) c.args.s.now)
    (ap (λ (t : Table). said (Ok (0, 0)) t []) c.act_on_all.ensures
    ∙ request_of-good ((table_of (lent c.args.w.now c.args.h.now c.args.b.now))) c.args.s.now
    (sym c.sound.ensures ∙ not-false _ c.if-not-sound.false-raw) (ap (λ (k : ℕ). request_judged k
    c.args.s.now) (table_of-contexts (lent c.args.w.now c.args.h.now c.args.b.now)
    (sound-fits (lent c.args.w.now c.args.h.now c.args.b.now) (sym c.sound.ensures ∙
    not-false _ c.if-not-sound.false-raw))) ∙ sym c.judge_request.ensures ∙ ap verdict_number c.in-Ok.is))

pub returns-in-Err : goal.returns-in-Err
returns-in-Err c =
    gives-kept (lent c.args.w.now c.args.h.now c.args.b.now) _ [] (request_of
    ((table_of (lent c.args.w.now c.args.h.now c.args.b.now))) c.args.s.now)
    (request_of-refused ((table_of (lent c.args.w.now c.args.h.now c.args.b.now))) c.args.s.now (sym c.sound.ensures ∙
    not-false _ c.if-not-sound.false-raw) c.in-Err.why
    (ap (λ (k : ℕ). request_judged k c.args.s.now) (table_of-contexts (lent c.args.w.now c.args.h.now c.args.b.now)
    (sound-fits (lent c.args.w.now c.args.h.now c.args.b.now) (sym c.sound.ensures ∙ not-false _ c.if-not-sound.false-raw))) ∙
    sym c.judge_request.ensures ∙ ap verdict_number c.in-Err.is))
