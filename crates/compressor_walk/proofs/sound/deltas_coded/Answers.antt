use Rattle.std.proofs.Common.{rules}
use Rattle.compressor_walk.specs.Walk.{coded_at}
use Rattle.compressor_walk.proofs.sound.deltas_coded.Goals as goal

pub returns : goal.returns
returns c = c.every_below.ensures (coded_at c.args.w.now) (search rules)
