use Rattle.std.proofs.Common.{rules}
use Rattle.codes.specs.Code.{code_of}
use Rattle.codes.proofs.code.encode.Goals as goal

pub code_from-requires : goal.code_from-requires
code_from-requires g c = let d = g.met.T.DeltaField in let below = d.below in let wide = d.wide in search rules

pub returns : goal.returns
unfolding code_of
returns g c = rw (← c.widen.ensures.0, ← g.met.T.DeltaField.below, ← c.BELOW.ensures) c.code_from.ensures
