use Rattle.links.specs.Fh.{fh_judged}
use borrow.Author.Tests.{lt-ltb, le-ltb, lt-leb, le-leb}
use Rattle.refresh.proofs.fh.judge_fh.Goals as goal

pub returns-then-size-lt40 : goal.returns-then-size-lt40
unfolding fh_judged
returns-then-size-lt40 c = rw (lt-ltb _ 40 c.if-size-lt40.true)

pub returns-then-contexts-s : goal.returns-then-contexts-s
unfolding fh_judged
returns-then-contexts-s c = rw (le-ltb _ 40 c.if-size-lt40.false, le-leb _ _ c.if-contexts-s.true)

pub returns-then-not-fixed_form-fields_form : goal.returns-then-not-fixed_form-fields_form
unfolding fh_judged
returns-then-not-fixed_form-fields_form c =
    rw (
      le-ltb _ 40 c.if-size-lt40.false,
      lt-leb _ _ c.if-contexts-s.false,
      ← c.fixed_form.ensures,
      ← c.fields_form.ensures,
      ← c.word_at.ensures,
      ← c.ip_checksum_of.ensures,
      c.if-not-fixed_form-fields_form.true-raw,
    )

pub returns-then-size-size_with : goal.returns-then-size-size_with
unfolding fh_judged
returns-then-size-size_with c =
    rw (
      le-ltb _ 40 c.if-size-lt40.false,
      lt-leb _ _ c.if-contexts-s.false,
      ← c.fixed_form.ensures,
      ← c.fields_form.ensures,
      ← c.word_at.ensures,
      ← c.ip_checksum_of.ensures,
      c.if-not-fixed_form-fields_form.false-raw,
      ← c.count_at.ensures.0,
      ← c.size_with.ensures,
      lt-ltb _ _ c.if-size-size_with.true,
    )

pub returns : goal.returns
unfolding fh_judged
returns c =
    rw (
      le-ltb _ 40 c.if-size-lt40.false,
      lt-leb _ _ c.if-contexts-s.false,
      ← c.fixed_form.ensures,
      ← c.fields_form.ensures,
      ← c.word_at.ensures,
      ← c.ip_checksum_of.ensures,
      c.if-not-fixed_form-fields_form.false-raw,
      ← c.count_at.ensures.0,
      ← c.size_with.ensures,
      le-ltb _ _ c.if-size-size_with.false,
    )
