use Rattle.std.proofs.Common.{ℕ, rules}
use Rattle.planes.specs.Planes.{row}
use Rattle.compressor_walk.specs.Walk.{due_test}
use Rattle.compressor_walk.proofs.sound.dues_sound.Goals as goal

pub returns : goal.returns
returns c = c.every_below.ensures (λ (i : ℕ). due_test c.args.n (row c.args.b.now i 0 20)) (search rules)
