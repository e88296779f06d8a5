use Prim.Native.Nat.{◌+◌, ◌*◌, ◌%◌}
use mathlib.Core.Path.{◌≡◌, refl}
use native.Mathlib.Omega.{arith}
use Rattle.octets.proofs.Bits.{or-place}
use Rattle.octets.proofs.flags.shifted.Goals as goal

pub returns : goal.returns
returns c =
    let a = c.args in
    let place7 : a.bit7 * 128 % 256 ≡ a.bit7 * 128 = omega arith in
    let place6 : a.bit6 * 64 % 256 ≡ a.bit6 * 64 = omega arith in
    let place5 : a.bit5 * 32 % 256 ≡ a.bit5 * 32 = omega arith in
    let place4 : a.bit4 * 16 % 256 ≡ a.bit4 * 16 = omega arith in
    rw (
      place7,
      place6,
      place5,
      place4,
      or-place (a.bit7 * 128) a.bit7 7 (a.bit6 * 64) refl (omega arith),
      or-place (a.bit7 * 128 + a.bit6 * 64) (a.bit7 * 2 + a.bit6) 6 (a.bit5 * 32) (omega arith) (omega arith),
      or-place (a.bit7 * 128 + a.bit6 * 64 + a.bit5 * 32) (a.bit7 * 4 + a.bit6 * 2 + a.bit5) 5 (a.bit4 * 16) (omega arith)
          (omega arith),
      or-place (a.bit7 * 128 + a.bit6 * 64 + a.bit5 * 32 + a.bit4 * 16) (a.bit7 * 8 + a.bit6 * 4 + a.bit5 * 2 + a.bit4) 4
          a.low (omega arith) (omega arith),
    )
