use Rattle.std.proofs.Common.{rules}
use Rattle.decompressor_walk.specs.Walk.{filled_at}
use Rattle.decompressor_walk.proofs.sound.all_filled.Goals as goal

pub returns : goal.returns
returns c = c.every_below.ensures (filled_at c.args.b.now) (search rules)
