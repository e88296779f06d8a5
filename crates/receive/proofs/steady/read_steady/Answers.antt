use mathlib.Core.Path.{ap, ◌∙◌}
use Rattle.fields.specs.Next.{next_word}
use Rattle.fields.proofs.NextRange.{next_word-within}
use Rattle.receive.proofs.SteadyWay.{steadily-made, if_then_some}
use Rattle.receive.proofs.steady.read_steady.Goals as goal

pub overflow_sub-size : goal.overflow_sub-size
unfolding next_word
overflow_sub-size c =
    rw c.next-word.ensures
    (next_word-within c.args.s.now c.args.h.place c.requires.0 c.reads_checksum.result)

pub returns : goal.returns
unfolding next_word
returns c =
    let a = c.args in
    let w = c.next-word in
    rw (c.then_some.ensures, c.unwrap_or.ensures)
    (if_then_some _ _ _
    (steadily-made a.kind a.c a.h a.s.now a.room c.requires.0 c.is_steady.result w.result
    c.is_ok.result c.is_steady.ensures c.if-kind-is_steady.false
    (w.ensures ∙ ap (next_word a.s.now a.h.place) c.reads_checksum.ensures) c.is_ok.ensures.value))
