use Rattle.codes.proofs.ReadingLaws.{value_in-far, value_in-unused, value_in-high}
use Rattle.std.proofs.Common.{◌≡◌, ◌+◌, ◌-◌, arith}
use Rattle.codes.proofs.cursor.value_of_three.Goals as goal

pub returns-then-code-lt12599168 : goal.returns-then-code-lt12599168
returns-then-code-lt12599168 c = λ m wide.
    let a = c.args in
    let e : m - (0xC04000 - a.code) ≡ m - 16384 + (a.code - 0xC00000) = omega arith in
    rw (e, value_in-far m a.code a.past.at (omega arith) (omega arith))

pub returns-then-code-lt12599296 : goal.returns-then-code-lt12599296
returns-then-code-lt12599296 c = λ m wide.
    let a = c.args in
    rw (value_in-unused m a.code a.past.at (omega arith) (omega arith))

pub returns : goal.returns
returns c = λ m wide.
    let a = c.args in
    let e : a.code - 0xC00000 ≡ 16384 + (a.code - 0xC04000) = omega arith in
    rw (value_in-high m a.code a.past.at (omega arith) (omega arith), e)
