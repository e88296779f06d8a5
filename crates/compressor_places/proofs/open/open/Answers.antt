use native.Mathlib.Omega.{arith}
use Rattle.std.proofs.Common.{Some, None}
use Rattle.std.proofs.lemmas.Result.{err_from_is_err_and}
use mathlib.Core.Path.{◌≡◌, ◌∙◌, sym, ap}
use borrow.Author.Tests.{not-true, not-false}
use Rattle.packet.specs.declared.refusal.Refusal.TheVariants.{Unsound}
use Rattle.settings.specs.Settings as settings
use Rattle.compressor_places.proofs.Opened.{open-sized, open-refused, open-accepted}
use Rattle.compressor_places.proofs.open.open.Goals as goal

pub returns-then-not-sized : goal.returns-then-not-sized
returns-then-not-sized c = open-sized _ _ _ (not-true _ c.if-not-sized.true-raw)

pub put_empty-requires : goal.put_empty-requires
put_empty-requires c = not-false _ c.if-not-sized.false-raw

pub returns-in_err-s : goal.returns-in_err-s
returns-in_err-s c =
    let p = err_from_is_err_and c.from_residual.result c.from_residual.ensures.1 in
    let n : c.«open».result ≡ None = grind arith in
    let u : c.in_err-s.field-0.0 ≡ Unsound = grind (arith, c.in_err-s.ensures.value) in
    rw (p.1, p.2, u) (open-refused _ _ _ (not-false _ c.if-not-sized.false-raw) (sym (ap settings.said n) ∙ c.«open».ensures))

pub returns : goal.returns
returns c =
    let n : c.«open».result ≡ Some c.in_ok-s.s = grind arith in
    open-accepted _ _ _ (not-false _ c.if-not-sized.false-raw) c.in_ok-s.s _
    (sym (ap settings.said n) ∙ c.«open».ensures) c.put_empty.ensures
