use Rattle.load.specs.LoadLaws.{kept_form-short}
use Rattle.saves.specs.Saves.{kept_form}
use mathlib.Core.Path.{sym}
use Rattle.load.proofs.header.kept_form.Goals as goal

pub returns-then-size-lt40 : goal.returns-then-size-lt40
returns-then-size-lt40 c = let a = c.args in
    sym (kept_form-short a.size a.p.now c.if-size-lt40.true)

pub returns : goal.returns
unfolding kept_form
returns c =
    rw (
      c.size_with.ensures,
      c.word_at-3.ensures,
      c.word_at-2.ensures,
      c.word_at.ensures,
      c.fixed_form.ensures,
      c.count_at-count.ensures.0,
      c.word_at-checksum.ensures,
    )
