use Rattle.std.proofs.Common.{rules, arith, ◌+◌, ◌*◌}
use Rattle.codes.proofs.ReadingLaws.{byte-there, byte-cut, read_by-none, read_by-one, read_by-two, read_by-three, read_by-cut}
use Rattle.codes.proofs.ReadingLaws.{read_by-cut-three}
use Rattle.codes.proofs.cursor.Cursor.code.Goals as goal

pub returns-in_err-first : goal.returns-in_err-first
returns-in_err-first c =
    λ m wide.
    let none = byte-cut c.args.s.now c.args.self.at _ c.in_err-first.ensures in
    let e = read_by-none m c.args.s.now c.args.self.at none.0 in
    search rules

pub returns-then-first-lt128 : goal.returns-then-first-lt128
returns-then-first-lt128 c =
    λ m wide.
    let one = byte-there c.args.s.now c.args.self.at _ _ c.in_ok-first.ensures in
    let e = read_by-one m c.args.s.now c.args.self.at (omega arith) (omega arith) in
    search rules

pub returns-in_err-second : goal.returns-in_err-second
returns-in_err-second c =
    λ m wide.
    let one = byte-there c.args.s.now c.args.self.at _ _ c.in_ok-first.ensures in
    let none = byte-cut c.args.s.now c.in_ok-first.past.at _ c.in_err-second.ensures in
    let e = read_by-cut m c.args.s.now c.args.self.at (omega arith) (omega arith) in
    search rules

pub returns-then-first-lt192 : goal.returns-then-first-lt192
returns-then-first-lt192 c =
    λ m wide.
    let one = byte-there c.args.s.now c.args.self.at _ _ c.in_ok-first.ensures in
    let two = byte-there c.args.s.now c.in_ok-first.past.at _ _ c.in_ok-second.ensures in
    let e = read_by-two m c.args.s.now c.args.self.at (c.in_ok-first.first * 256 + c.in_ok-second.second) (search rules)
    (omega arith) (omega arith) (omega arith) in
    search rules

pub returns-in_err-third : goal.returns-in_err-third
returns-in_err-third c =
    λ m wide.
    let one = byte-there c.args.s.now c.args.self.at _ _ c.in_ok-first.ensures in
    let two = byte-there c.args.s.now c.in_ok-first.past.at _ _ c.in_ok-second.ensures in
    let none = byte-cut c.args.s.now c.in_ok-second.past.at _ c.in_err-third.ensures in
    let e = read_by-cut-three m c.args.s.now c.args.self.at (omega arith) (omega arith) in
    search rules

pub returns : goal.returns
returns c =
    λ m wide.
    let one = byte-there c.args.s.now c.args.self.at _ _ c.in_ok-first.ensures in
    let two = byte-there c.args.s.now c.in_ok-first.past.at _ _ c.in_ok-second.ensures in
    let three = byte-there c.args.s.now c.in_ok-second.past.at _ _ c.in_ok-third.ensures in
    let e = read_by-three m c.args.s.now c.args.self.at
    ((c.in_ok-first.first * 256 + c.in_ok-second.second) * 256 + c.in_ok-third.third) (search rules) (omega arith) (omega arith) in
    search rules
