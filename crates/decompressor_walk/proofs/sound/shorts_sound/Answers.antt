use Rattle.std.proofs.Common.{ℕ, rules}
use Rattle.planes.specs.Planes.{row}
use Rattle.decompressor_walk.specs.Walk.{short_test}
use Rattle.decompressor_walk.proofs.sound.shorts_sound.Goals as goal

pub returns : goal.returns
returns c = c.every_below.ensures (λ (i : ℕ). short_test (row c.args.h.now i 0 5) (row c.args.b.now i 0 13))
    (search rules)
