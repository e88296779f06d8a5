use mathlib.Core.Path.{◌≡◌}
use Rattle.std.specs.Slice.Iter.{chunks_rest, chunks_size}
use Rattle.octets.specs.Sum.{words_of, sum_of}
use Rattle.octets.proofs.sum.sum.Given as goal

abbrev pub invariant-loop-block : goal.invariant-loop-block
invariant-loop-block l =
    (chunks_size l.block-iterator ≡ 1600)
    × (sum_of l.start (words_of l.part) ≡ sum_of l.acc (words_of (chunks_rest l.block-iterator)))
