use mathlib.Core.Path.{sym}
use native.Mathlib.Omega.{arith}
use Rattle.codes.specs.BytesLaws.{AllBytes-elements}
use Rattle.octets.specs.SumLaws.{sum_of-at-end, AllWords-words_of, length-words_of}
use Rattle.octets.proofs.sum.sum_block.Goals as goal

pub returns : goal.returns
returns c =
    let a = c.args in
    let bytes = AllBytes-elements a.block.now (λ i. (c.shared_slice_known-1.given i).fits) in
    rw (c.fold.ensures, c.add_words.ensures)
    (sym (sum_of-at-end a.start (omega arith) (AllWords-words_of bytes) (omega (arith, length-words_of a.block.now))))
