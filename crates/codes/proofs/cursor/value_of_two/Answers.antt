use Rattle.codes.proofs.ReadingLaws.{value_in-near, value_in-middle}
use Rattle.std.proofs.Common.{◌≡◌, ◌+◌, ◌-◌, arith}
use Rattle.codes.proofs.cursor.value_of_two.Goals as goal

pub returns-then-code-lt32896 : goal.returns-then-code-lt32896
returns-then-code-lt32896 c = λ m wide.
    let a = c.args in
    let e : m - (0x8080 - a.code) ≡ m - 128 + (a.code - 0x8000) = omega arith in
    rw (e, value_in-near m a.code a.past.at (omega arith) (omega arith))

pub returns : goal.returns
returns c = λ m wide.
    let a = c.args in
    let e : a.code - 0x8000 ≡ 128 + (a.code - 0x8080) = omega arith in
    rw (value_in-middle m a.code a.past.at (omega arith) (omega arith), e)
