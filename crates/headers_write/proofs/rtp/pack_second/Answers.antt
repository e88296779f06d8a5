use Prim.Native.Nat.{ℕ, ◌+◌, ◌*◌, ◌%◌, ◌<◌}
use mathlib.Core.Path.{◌≡◌, refl}
use mathlib.Core.Bool.{Bool}
use native.Mathlib.Omega.{arith}
use lib.Bits.{bit_or}
use mir.Val.{bool_byte}
use Rattle.octets.specs.Flags.{digit}
use Rattle.octets.proofs.Bits.{or-place, bool_lt, bool-digit}
use Rattle.headers_write.proofs.rtp.pack_second.Goals as goal

joined : (m : Bool) (payload : ℕ) → payload < 128 → bit_or (bool_byte m * 128 % 256) payload ≡ digit m * 128 + payload
joined m payload h =
    let marker = bool_lt m in
    let place7 : bool_byte m * 128 % 256 ≡ bool_byte m * 128 = omega arith in
    rw (place7, or-place (bool_byte m * 128) (bool_byte m) 7 payload refl h, bool-digit m)

pub returns : goal.returns
returns c =
    joined c.args.second.marker c.args.second.payload c.requires
