use Rattle.load.specs.LoadLaws.{part-size}
use Rattle.saves.proofs.KeptLaws.{kept_form-true}
use Rattle.codes.proofs.ReadingLaws.{has_there}
use borrow.Author.Tests.{not-true, not-false}
use mathlib.Core.Path.{sym, ◌∙◌}
use native.Mathlib.Omega.{arith}
use Rattle.load.proofs.header.read_field.Goals as goal

pub returns-then-not-has : goal.returns-then-not-has
returns-then-not-has c =
    rw (c.no_header.ensures, c.stop.ensures, ← c.has.ensures, not-true c.has.result c.if-not-has.true-raw)

pub overflow_add-past : goal.overflow_add-past
overflow_add-past c =
    let a = c.args in
    omega (arith, has_there a.s.now a.cursor.at a.size c.has.result c.has.ensures c.if-not-has.false-raw)

pub slice_bounds-part-end : goal.slice_bounds-part-end
slice_bounds-part-end c =
    let a = c.args in
    omega (arith, has_there a.s.now a.cursor.at a.size c.has.result c.has.ensures c.if-not-has.false-raw)

pub returns-then-not-kept_form : goal.returns-then-not-kept_form
returns-then-not-kept_form c =
    let a = c.args in
    let form = rw (part-size a.s.now a.cursor.at a.size) at c.kept_form.ensures in
    rw (
      c.no_header-then-not-kept_form.ensures,
      c.stop-then-not-kept_form.ensures,
      ← c.has.ensures,
      not-false c.has.result c.if-not-has.false-raw,
      ← form,
      not-true c.kept_form.result c.if-not-kept_form.true-raw,
    )

pub read_header-requires : goal.read_header-requires
read_header-requires c =
    let a = c.args in
    let e = sym c.kept_form.ensures ∙ not-false c.kept_form.result c.if-not-kept_form.false-raw in
    omega (
      arith,
      (kept_form-true a.size _ e).size,
      has_there a.s.now a.cursor.at a.size c.has.result c.has.ensures c.if-not-has.false-raw,
    )

pub returns : goal.returns
returns c =
    let a = c.args in
    let part = part-size a.s.now a.cursor.at a.size in
    let form = rw part at c.kept_form.ensures in
    rw (
      ← c.has.ensures,
      not-false c.has.result c.if-not-has.false-raw,
      ← form,
      not-false c.kept_form.result c.if-not-kept_form.false-raw,
      ← part,
      c.read_header.ensures,
    )
