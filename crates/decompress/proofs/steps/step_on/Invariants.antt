use Rattle.std.proofs.Common.{◌≡◌}
use Rattle.context.specs.Field.{steps}
use Rattle.decompress.proofs.steps.step_on.Given as goal

abbrev pub invariant-loop : goal.invariant-loop
invariant-loop g l = l.x ≡ steps g.T.DeltaField.sum l.fn.a l.d l.counter
