use Rattle.std.proofs.Common.{◌≡◌, ◌/◌, ◌%◌, arith}
use Rattle.codes.proofs.code.two.Goals as goal

pub returns : goal.returns
returns c =
    let e : c.args.code / 256 % 256 ≡ c.args.code / 256 = omega arith in rw e
