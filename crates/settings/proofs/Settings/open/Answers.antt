use Prim.Native.Nat.{◌≤◌}
use mathlib.Core.Path.{sym, ◌∙◌}
use native.Mathlib.Omega.{arith}
use Rattle.settings.specs.Settings.{open_of}
use Rattle.settings.specs.SettingsLaws.{range-repeats, range-most}
use Rattle.settings.proofs.Settings.open.Goals as goal

pub overflow_cast-result : goal.overflow_cast-result
overflow_cast-result c =
    let a = c.args in
    let h : a.n ≤ 14 = range-repeats a.n a.k (sym c.in_range.ensures ∙ c.if-in_range.true) in
    omega arith

pub overflow_cast-result-then-in_range : goal.overflow_cast-result-then-in_range
overflow_cast-result-then-in_range c =
    let a = c.args in
    let h : a.k ≤ 64 = range-most a.n a.k (sym c.in_range.ensures ∙ c.if-in_range.true) in
    omega arith

pub returns-then-in_range : goal.returns-then-in_range
unfolding open_of
returns-then-in_range c = rw (← c.in_range.ensures, c.if-in_range.true)

pub returns : goal.returns
unfolding open_of
returns c = rw (← c.in_range.ensures, c.if-in_range.false)
