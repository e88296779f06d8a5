use mathlib.Core.Path.{◌≡◌, ◌∙◌, sym, ap}
use mathlib.Core.Bool.{Bool, true, false, ◌&&◌, and-eq-true_iff}
use mathlib.Core.List.{[]}
use borrow.Author.Tests.{not-true, not-false, eqb-true}
use Rattle.crtp.specs.Face.{lent, sized_compressor, sized_decompressor}
use Rattle.endpoint.specs.Outcomes.{is_accepted}
use Rattle.endpoint.specs.Calls.{open_of}
use Rattle.endpoint.specs.Lent.{ends, counted, endpoint_of, open_lent}
use Rattle.endpoint.specs.LentLaws.{gives-by, gives-kept, open_lent-sized, open_lent-not}
use Rattle.endpoint.proofs.Opening.{opened_both, opened-none}
use Rattle.endpoint.proofs.open.Goals as goal

-- what the test of the lengths told
parts : (a b c : Bool) → (a && b && c) ≡ true → (a ≡ true) × (b ≡ true) × (c ≡ true)
parts a b c e =
    let p = (and-eq-true_iff (a && b) c).0 e in
    let q = (and-eq-true_iff a b).0 p.0 in
    (q.0, q.1, p.1)

pub returns-then-not-sender-receiver : goal.returns-then-not-sender-receiver
returns-then-not-sender-receiver c =
    let a = c.args in
    gives-kept ((ends (lent c.args.cw.now c.args.ch.now c.args.cb.now) (lent c.args.dw.now c.args.dh.now c.args.db.now)
    c.args.t.now)) _ []
    (open_lent ((ends (lent c.args.cw.now c.args.ch.now c.args.cb.now) (lent c.args.dw.now c.args.dh.now c.args.db.now)
    c.args.t.now)) a.n a.k)
    (open_lent-not ((ends (lent c.args.cw.now c.args.ch.now c.args.cb.now) (lent c.args.dw.now c.args.dh.now c.args.db.now)
    c.args.t.now)) a.n a.k
    (not-true (sized_compressor (lent c.args.cw.now c.args.ch.now c.args.cb.now) && sized_decompressor
    (lent c.args.dw.now c.args.dh.now c.args.db.now) && counted a.t.now) c.if-not-sender-receiver.true-raw))

pub put_totals-requires : goal.put_totals-requires
put_totals-requires c =
    let a = c.args in
    eqb-true _ _ (parts (sized_compressor (lent c.args.cw.now c.args.ch.now c.args.cb.now))
    (sized_decompressor (lent c.args.dw.now c.args.dh.now c.args.db.now)) (counted a.t.now) (not-false
    (sized_compressor (lent c.args.cw.now c.args.ch.now c.args.cb.now) && sized_decompressor
    (lent c.args.dw.now c.args.dh.now c.args.db.now) && counted a.t.now) c.if-not-sender-receiver.false-raw)).2

pub returns-then-is_ok : goal.returns-then-is_ok
returns-then-is_ok c =
    let a = c.args in
    let z = parts (sized_compressor (lent c.args.cw.now c.args.ch.now c.args.cb.now))
    (sized_decompressor (lent c.args.dw.now c.args.dh.now c.args.db.now)) (counted a.t.now) (not-false
    (sized_compressor (lent c.args.cw.now c.args.ch.now c.args.cb.now) && sized_decompressor
    (lent c.args.dw.now c.args.dh.now c.args.db.now) && counted a.t.now) c.if-not-sender-receiver.false-raw) in
    rw c.opened-outcome.ensures
    (gives-by ((ends (lent c.args.cw.now c.args.ch.now c.args.cb.now) (lent c.args.dw.now c.args.dh.now c.args.db.now)
    c.args.t.now)) _ _ []
    (open_of (endpoint_of ((ends (lent c.args.cw.now c.args.ch.now c.args.cb.now)
    (lent c.args.dw.now c.args.dh.now c.args.db.now) c.args.t.now))) a.n a.k)
    (open_lent ((ends (lent c.args.cw.now c.args.ch.now c.args.cb.now)
    (lent c.args.dw.now c.args.dh.now c.args.db.now) c.args.t.now)) a.n a.k)
    (sym (open_lent-sized ((ends (lent c.args.cw.now c.args.ch.now c.args.cb.now) (lent c.args.dw.now c.args.dh.now c.args.db.now)
    c.args.t.now)) a.n a.k (not-false (sized_compressor (lent c.args.cw.now c.args.ch.now c.args.cb.now) && sized_decompressor
    (lent c.args.dw.now c.args.dh.now c.args.db.now) &&
    counted a.t.now) c.if-not-sender-receiver.false-raw)))
    (opened_both (lent c.args.cw.now c.args.ch.now c.args.cb.now) _ (lent c.args.dw.now c.args.dh.now c.args.db.now) _ a.t.now a.n
    a.k c.open_compressor-first.result
    c.open_decompressor-second.result z.0 z.1 z.2 c.open_compressor-first.ensures
    c.open_decompressor-second.ensures _ (sym (c.is_ok.ensures.value ∙ ap is_accepted c.opened-outcome.ensures)
    ∙ c.if-is_ok.true)
    c.put_totals.ensures.0 c.put_totals.ensures.1))

pub returns-else-is_ok : goal.returns-else-is_ok
returns-else-is_ok c =
    let a = c.args in
    let z = parts (sized_compressor (lent c.args.cw.now c.args.ch.now c.args.cb.now))
    (sized_decompressor (lent c.args.dw.now c.args.dh.now c.args.db.now)) (counted a.t.now) (not-false
    (sized_compressor (lent c.args.cw.now c.args.ch.now c.args.cb.now) && sized_decompressor
    (lent c.args.dw.now c.args.dh.now c.args.db.now) && counted a.t.now) c.if-not-sender-receiver.false-raw) in
    rw c.opened-outcome.ensures
    (gives-by ((ends (lent c.args.cw.now c.args.ch.now c.args.cb.now) (lent c.args.dw.now c.args.dh.now c.args.db.now)
    c.args.t.now)) _ _ []
    (open_of (endpoint_of ((ends (lent c.args.cw.now c.args.ch.now c.args.cb.now)
    (lent c.args.dw.now c.args.dh.now c.args.db.now) c.args.t.now))) a.n a.k)
    (open_lent ((ends (lent c.args.cw.now c.args.ch.now c.args.cb.now)
    (lent c.args.dw.now c.args.dh.now c.args.db.now) c.args.t.now)) a.n a.k)
    (sym (open_lent-sized ((ends (lent c.args.cw.now c.args.ch.now c.args.cb.now) (lent c.args.dw.now c.args.dh.now c.args.db.now)
    c.args.t.now)) a.n a.k (not-false (sized_compressor (lent c.args.cw.now c.args.ch.now c.args.cb.now) && sized_decompressor
    (lent c.args.dw.now c.args.dh.now c.args.db.now) &&
    counted a.t.now) c.if-not-sender-receiver.false-raw)))
    (opened-none (lent c.args.cw.now c.args.ch.now c.args.cb.now) _ (lent c.args.dw.now c.args.dh.now c.args.db.now) _ a.t.now a.n
    a.k c.open_compressor-first.result
    c.open_decompressor-second.result z.0 z.1 z.2 c.open_compressor-first.ensures
    c.open_decompressor-second.ensures (sym (c.is_ok.ensures.value ∙ ap is_accepted c.opened-outcome.ensures)
    ∙ c.if-is_ok.false)))
