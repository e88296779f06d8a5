use Prim.Native.Nat.{ℕ, ◌%◌, ◌<◌}
use mathlib.Core.Path.{◌≡◌, ◌∙◌, ap}
use mathlib.Core.List.{List, [], ◌∷◌, ◌++◌}
use native.Mathlib.Omega.{arith}
use lib.ListN.{length}
use Rattle.std.proofs.Common.{append-nil, length-append}
use Rattle.octets.specs.Sum.{words_of, sum_of}
use Rattle.octets.specs.SumLaws.{words_of-append, sum_of-append}
use Rattle.octets.proofs.sum.sum.Goals as goal

-- a block of an even length, or the last one, then the rest
sum_of-then : (start : ℕ) (block rest : List ℕ) → (0 < length rest → length block % 2 ≡ 0)
    → sum_of start (words_of (block ++ rest)) ≡ sum_of (sum_of start (words_of block)) (words_of rest)
sum_of-then start block [] h = rw append-nil
sum_of-then start block (b ∷ rest) h = rw (words_of-append block (b ∷ rest) (h (omega arith)))
    (sum_of-append start (words_of block) (words_of (b ∷ rest)))

pub loop-block-preserved : goal.loop-block-preserved
loop-block-preserved c =
    let h = c.in-Some.ensures.steps in
    let l = c.loop-block in
    let size = simp length-append at (ap length h.1.0) in (
      h.0 ∙ l.invariant.0,
      l.invariant.1 ∙ rw (h.1.0, c.sum_block-acc.ensures) (sum_of-then l.acc c.in-Some.block.now _ (omega arith)),
    )
