use mathlib.Core.Path.{ap}
use Rattle.links.specs.Cs.{record_flags_of}
use Rattle.refresh.proofs.cs.split_record.Goals as goal

pub returns : goal.returns
returns c = ap record_flags_of c.split-flags.ensures.0
