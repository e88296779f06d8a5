use mathlib.Core.Path.{◌∙◌, sym}
use mathlib.Core.Bool.{◌&&◌}
use Rattle.compressor_walk.proofs.Walk.{wide-used}
use Rattle.compressor_walk.proofs.sound.wide_sound.Goals as goal

pub returns-then-all_used : goal.returns-then-all_used
returns-then-all_used c =
    let a = c.args in
    (λ j. c.ports_even-even.ensures j && c.deltas_coded-coded.ensures j)
    ∙ wide-used a.w.now a.h.now a.b.now (sym c.all_used.ensures ∙ c.if-all_used.true)

pub returns : goal.returns
returns c = λ j. c.shorts_sound-shorts.ensures j && c.words_sound-words.ensures j
