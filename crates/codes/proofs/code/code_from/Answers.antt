use Rattle.std.proofs.Common.{◌≡◌, ◌+◌, ◌%◌, sym, ◌∙◌, arith}
use Rattle.codes.specs.CodeLaws.{code_in-low, code_in-near, code_in-middle, code_in-far, code_in-high, code_in-none}
use Rattle.codes.proofs.code.code_from.Goals as goal

pub returns-then-d-lt128 : goal.returns-then-d-lt128
returns-then-d-lt128 c =
    let a = c.args in
    let e : a.d % 256 ≡ a.d = omega arith in
    sym (code_in-low (a.base + 16384) a.d (omega arith) (omega arith) ∙ rw e)

pub returns-then-d-lt16384 : goal.returns-then-d-lt16384
returns-then-d-lt16384 c =
    let a = c.args in
    c.two.ensures ∙ sym (code_in-middle (a.base + 16384) a.d (omega arith) (omega arith) (omega arith))

pub returns-then-above-lt16256 : goal.returns-then-above-lt16256
returns-then-above-lt16256 c =
    let a = c.args in
    c.three.ensures ∙ sym (code_in-far (a.base + 16384) a.d (omega arith) _ (omega arith) (omega arith) (omega arith))

pub returns-then-base-d : goal.returns-then-base-d
returns-then-base-d c =
    let a = c.args in
    c.two-then-base-d.ensures ∙ sym (code_in-near (a.base + 16384) a.d (omega arith) _ (omega arith) (omega arith) (omega arith))

pub returns-then-d-lt4194304 : goal.returns-then-d-lt4194304
returns-then-d-lt4194304 c =
    let a = c.args in
    c.three-then-d-lt4194304.ensures ∙ sym (code_in-high (a.base + 16384) a.d (omega arith) (omega arith) (omega arith)
    (omega arith))

pub returns : goal.returns
returns c =
    let a = c.args in
    sym (code_in-none (a.base + 16384) a.d (omega arith) (omega arith) (omega arith) (omega arith))
