use Prim.Native.Nat.{◌/◌}
use lib.Bits.{and_mask}
use Rattle.headers_read.proofs.rtp.split_second.Goals as goal

pub returns : goal.returns
returns c = let b = c.args.byte in rw (and_mask (b / 128) 1, and_mask b 7)
