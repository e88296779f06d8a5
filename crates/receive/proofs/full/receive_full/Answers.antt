use Prim.Native.Nat.{ℕ}
use mathlib.Core.Path.{◌∙◌, sym, ap}
use native.Mathlib.Omega.{arith}
use Rattle.std.proofs.lemmas.Result.{err_from_is_err_and}
use Rattle.planes.specs.Planes.{lent}
use Rattle.decompressor_table.specs.Layout.{table_of}
use Rattle.packet.specs.Refusal.{verdict_number}
use Rattle.links.specs.Fh.{fh_judged}
use Rattle.decompressor.specs.Receive.{receive_full}
use Rattle.decompressor_table.specs.LayoutLaws.{fits-sizes, table_of-contexts}
use Rattle.decompressor_table.specs.CallsLaws.{gives-kept, gives-by}
use Rattle.receive.specs.Taken.{accept_full}
use Rattle.receive.proofs.Placing.{full-good, full-refused}
use Rattle.receive.proofs.full.receive_full.Goals as goal

pub bounds-b-833 : goal.bounds-b-833
bounds-b-833 c = omega (
  arith,
  (fits-sizes (lent c.args.w.now c.args.h.now c.args.b.now) c.requires.0).bytes,
)

pub accept_full-requires : goal.accept_full-requires
accept_full-requires c =
    let a = c.args in (
      c.requires.0,
      c.requires.1,
      (ap (λ (k : ℕ). fh_judged k a.s.now) (table_of-contexts (lent c.args.w.now c.args.h.now c.args.b.now) c.requires.0)
          ∙ sym c.judge_fh.ensures) ∙ ap verdict_number c.in_ok-judge_fh.was,
      c.requires.2,
    )

pub returns : goal.returns
returns c =
    let a = c.args in
    gives-by (lent c.args.w.now c.args.h.now c.args.b.now) _ c.accept_full.result _ (accept_full
    ((table_of (lent c.args.w.now c.args.h.now c.args.b.now))) a.s.now a.out.now)
    (receive_full ((table_of (lent c.args.w.now c.args.h.now c.args.b.now))) a.s.now a.out.now)
    (full-good ((table_of (lent c.args.w.now c.args.h.now c.args.b.now))) a.s.now a.out.now
    ((ap (λ (k : ℕ). fh_judged k a.s.now) (table_of-contexts (lent c.args.w.now c.args.h.now c.args.b.now) c.requires.0)
    ∙ sym c.judge_fh.ensures) ∙ ap verdict_number c.in_ok-judge_fh.was))
    c.accept_full.ensures

pub returns-in_err-judge_fh : goal.returns-in_err-judge_fh
returns-in_err-judge_fh c =
    let a = c.args in
    let p = err_from_is_err_and c.from_residual.result c.from_residual.ensures.1 in
    rw (p.1, p.2) (gives-kept (lent c.args.w.now c.args.h.now c.args.b.now) _ a.out.now
    (receive_full ((table_of (lent c.args.w.now c.args.h.now c.args.b.now))) a.s.now a.out.now)
    (full-refused ((table_of (lent c.args.w.now c.args.h.now c.args.b.now))) a.s.now a.out.now _
    ((ap (λ (k : ℕ). fh_judged k a.s.now) (table_of-contexts (lent c.args.w.now c.args.h.now c.args.b.now) c.requires.0)
    ∙ sym c.judge_fh.ensures) ∙ ap verdict_number c.in_err-judge_fh.was)))
