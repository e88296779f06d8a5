use mathlib.Core.Path.{◌∙◌, sym}
use mathlib.Core.Bool.{◌&&◌}
use Rattle.decompressor_walk.proofs.Walk.{wide-filled}
use Rattle.decompressor_walk.proofs.sound.wide_sound.Goals as goal

pub returns-then-all_filled : goal.returns-then-all_filled
returns-then-all_filled c =
    let a = c.args in
    c.deltas_coded.ensures
    ∙ wide-filled a.w.now a.h.now a.b.now (sym c.all_filled.ensures ∙ c.if-all_filled.true)

pub returns : goal.returns
returns c = λ j. c.shorts_sound-shorts.ensures j && c.words_sound-words.ensures j
