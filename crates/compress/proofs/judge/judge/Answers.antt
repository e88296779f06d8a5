use Rattle.std.proofs.Common.{rules}
use Rattle.context.specs.Field.{off_pattern}
use Rattle.context.specs.Compressor.{judged, adopts_id, adopts_timestamp}
use Rattle.compress.proofs.judge.judge.Goals as goal

pub returns : goal.returns
unfolding judged adopts_id adopts_timestamp off_pattern
returns c = search rules
