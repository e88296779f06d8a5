use mathlib.Core.Path.{◌∙◌, sym}
use borrow.Author.Tests.{not-true, not-false}
use Rattle.std.proofs.lemmas.Result.{err_from_is_err_and}
use Rattle.decompressor_walk.proofs.Opened.{open-sized, open-none, open-some}
use Rattle.decompressor_walk.proofs.open.open.Goals as goal

pub returns-then-not-sized : goal.returns-then-not-sized
returns-then-not-sized c = open-sized _ _ _ (not-true _ c.if-not-sized.true-raw)

pub put_empty-requires : goal.put_empty-requires
put_empty-requires c = not-false _ c.if-not-sized.false-raw

pub returns : goal.returns
returns c = open-some _ _ _ (not-false _ c.if-not-sized.false-raw) c.«open».result c.in_ok-s.s _
    (sym c.ok_or.ensures.value ∙ c.in_ok-s.was) c.«open».ensures c.put_empty.ensures.1

pub returns-in_err-s : goal.returns-in_err-s
returns-in_err-s c =
    let p = err_from_is_err_and c.from_residual.result c.from_residual.ensures.1 in
    rw (p.1, p.2) (open-none _ _ _ (not-false _ c.if-not-sized.false-raw) c.«open».result _
    (sym c.ok_or.ensures.value ∙ c.in_err-s.was) c.«open».ensures)
