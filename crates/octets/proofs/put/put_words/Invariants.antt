use lib.ListN.{take}
use Rattle.octets.specs.Put.{Wrote, words}
use Rattle.octets.proofs.put.put_words.Given as goal

abbrev pub invariant-loop-word : goal.invariant-loop-word
invariant-loop-word l = Wrote l.initial.out l.out l.at l.past (words (take l.word-index l.word-items))
