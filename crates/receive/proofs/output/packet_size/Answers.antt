use Prim.Native.Nat.{◌≤◌}
use Rattle.decompressor.proofs.PacketLaws.{length-packet_of}
use mathlib.Core.Path.{◌≡◌}
use lib.ListN.{length}
use native.Mathlib.Omega.{arith}
use borrow.Author.Rules.{rules}
use Rattle.receive.proofs.output.packet_size.Goals as goal

pub returns : goal.returns
returns c =
    let words-enough : c.args.h.csrc.count ≤ length c.args.h.csrc.words = let words-fifteen : length c.args.h.csrc.words
    ≡ 15 = search rules in omega (arith, c.requires.0, words-fifteen) in
    (omega arith, omega (arith, length-packet_of c.args.h c.args.rest.now (words-enough)))
