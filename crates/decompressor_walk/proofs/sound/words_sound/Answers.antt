use Rattle.std.proofs.Common.{ℕ, rules}
use Rattle.planes.specs.Planes.{row}
use Rattle.decompressor_walk.specs.Walk.{word_test}
use Rattle.decompressor_walk.proofs.sound.words_sound.Goals as goal

pub returns : goal.returns
returns c = c.every_below.ensures (λ (i : ℕ). word_test (row c.args.w.now i 0 20) (row c.args.b.now i 0 13))
    (search rules)
