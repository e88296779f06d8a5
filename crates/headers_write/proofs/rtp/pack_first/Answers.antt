use Prim.Native.Nat.{ℕ, ◌+◌, ◌*◌, ◌%◌, ◌<◌}
use mathlib.Core.Path.{◌≡◌, refl}
use mathlib.Core.Bool.{Bool}
use native.Mathlib.Omega.{arith}
use lib.Bits.{bit_or}
use mir.Val.{bool_byte}
use Rattle.octets.specs.Flags.{digit}
use Rattle.octets.proofs.Bits.{or-place, bool_lt, bool-digit}
use Rattle.headers_write.proofs.rtp.pack_first.Goals as goal

joined : (v n : ℕ) (p x : Bool) → v < 4 → n < 16
    → bit_or (bit_or (bit_or (v * 64 % 256) (bool_byte p * 32 % 256)) (bool_byte x * 16 % 256)) n
    ≡ v * 64 + digit p * 32 + digit x * 16 + n
joined v n p x hv hn =
    let padding = bool_lt p in
    let extension = bool_lt x in
    let place6 : v * 64 % 256 ≡ v * 64 = omega arith in
    let place5 : bool_byte p * 32 % 256 ≡ bool_byte p * 32 = omega arith in
    let place4 : bool_byte x * 16 % 256 ≡ bool_byte x * 16 = omega arith in
    rw (
      place6,
      place5,
      place4,
      or-place (v * 64) v 6 (bool_byte p * 32) refl (omega arith),
      or-place (v * 64 + bool_byte p * 32) (v * 2 + bool_byte p) 5 (bool_byte x * 16) (omega arith) (omega arith),
      or-place (v * 64 + bool_byte p * 32 + bool_byte x * 16) (v * 4 + bool_byte p * 2 + bool_byte x) 4 n (omega arith)
          (omega arith),
      bool-digit p,
      bool-digit x,
    )

pub returns : goal.returns
returns c =
    let f = c.args.first in
    joined f.version f.count f.padding f.extension c.requires.0 c.requires.1
