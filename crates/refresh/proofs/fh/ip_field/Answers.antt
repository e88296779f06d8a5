use Prim.Native.Nat.{◌+◌, ◌*◌, ◌%◌}
use mathlib.Core.Path.{◌≡◌, refl}
use native.Mathlib.Omega.{arith}
use Rattle.octets.proofs.Bits.{or-place}
use Rattle.refresh.proofs.fh.ip_field.Goals as goal

pub returns : goal.returns
returns c =
    let a = c.args in
    let place8 : a.generation * 256 % 65536 ≡ a.generation * 256 = omega arith in
    let whole : 16384 + a.generation * 256 + a.context ≡ (64 + a.generation) * 256 + a.context = omega arith in
    rw (
      place8,
      or-place 16384 1 14 (a.generation * 256) refl (omega arith),
      or-place (16384 + a.generation * 256) (64 + a.generation) 8 a.context (omega arith) (omega arith),
      whole,
    )
