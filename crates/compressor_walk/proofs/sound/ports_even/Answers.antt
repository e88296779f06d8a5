use Rattle.std.proofs.Common.{rules}
use Rattle.compressor_walk.specs.Walk.{even_at}
use Rattle.compressor_walk.proofs.sound.ports_even.Goals as goal

pub returns : goal.returns
returns c = c.every_below.ensures (even_at c.args.h.now) (search rules)
