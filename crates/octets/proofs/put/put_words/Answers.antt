use Prim.Native.Nat.{ℕ, ◌≤◌, ◌*◌}
use mathlib.Core.Path.{◌≡◌}
use mathlib.Core.List.{List}
use native.Mathlib.Omega.{arith}
use lib.ListN.{length, take}
use Rattle.std.proofs.lemmas.List.{length-take-le, take_all}
use Rattle.octets.specs.Put.{words}
use Rattle.octets.specs.PutLaws.{wrote_then, words_take, length-words}
use Rattle.octets.proofs.put.put_words.Goals as goal

length-words_take : (i : ℕ) (l : List ℕ) → i ≤ length l → length (words (take i l)) ≡ 4 * i
length-words_take i l h = omega (arith, length-words (take i l), length-take-le i l h)

pub put-past-requires : goal.put-past-requires
put-past-requires c =
    let a = c.args in
    let i = c.loop-word.word-index in
    let l = length-take-le a.n a.list (omega arith) in
    omega (arith, c.loop-word.invariant.ends, length-words_take i (take a.n a.list) (omega arith))

pub loop-word-preserved : goal.loop-word-preserved
loop-word-preserved c =
    let a = c.args in
    let l = length-take-le a.n a.list (omega arith) in
    rw (words_take (take a.n a.list) c.loop-word.word-index (omega arith)) (wrote_then c.loop-word.invariant c.put-past.ensures)

pub returns : goal.returns
returns c =
    let a = c.args in
    let l = length-take-le a.n a.list (omega arith) in
    let w = rw (take_all c.loop-word.word-index (take a.n a.list) (omega arith)) at c.loop-word.invariant in
    (omega (arith, w.ends, length-words_take a.n a.list (omega arith)), w)
