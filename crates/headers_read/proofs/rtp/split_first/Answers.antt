use Prim.Native.Nat.{◌/◌}
use mathlib.Core.Path.{refl}
use native.Mathlib.Omega.{arith}
use lib.Bits.{and_mask}
use Rattle.headers_read.proofs.rtp.split_first.Goals as goal

pub returns : goal.returns
returns c = let b = c.args.byte in rw (and_mask (b / 32) 1, and_mask (b / 16) 1, and_mask b 4) (refl, omega arith)
