use Rattle.std.proofs.Common.{rules}
use Rattle.compressor_walk.specs.Walk.{used_at}
use Rattle.compressor_walk.proofs.sound.all_used.Goals as goal

pub returns : goal.returns
returns c = c.every_below.ensures (used_at c.args.b.now) (search rules)
