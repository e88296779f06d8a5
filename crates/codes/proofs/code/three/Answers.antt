use Rattle.std.proofs.Common.{◌≡◌, ◌/◌, ◌%◌, arith}
use Rattle.codes.proofs.code.three.Goals as goal

pub returns : goal.returns
returns c =
    let e : c.args.code / 256 / 256 % 256 ≡ c.args.code / 65536 = omega arith in rw e
