-- Iarwennol. The bytes of a steady packet before its rest: the head of a CR and the UDP checksum, and nothing else.
-- Assumes nothing. Used by the proof of put_steady.
use Prim.Native.Nat.{ℕ, ◌≤◌}
use mathlib.Core.Path.{◌≡◌, sym, ap}
use mathlib.Core.Bool.{Bool, true, false, cond, not}
use native.Mathlib.Omega.{arith}
use mathlib.Core.List.{List, ◌++◌, append-nil}
use Rattle.codes.specs.Bytes.{big_endian}
use Rattle.octets.specs.Put.{Wrote, optional}
use Rattle.octets.specs.declared.flags.Flags.{Flags}
use Rattle.packet.specs.declared.header.Header.{Header}
use Rattle.links.specs.Head.{head_bytes}
use Rattle.links.specs.Cr.{cr_bytes}
use Rattle.context.specs.Compressor.{parts_of, list_if}
use Rattle.compressor_steady.specs.Steady.{steadied, steady_step}
use Rattle.context.specs.declared.compressor.CompressorContext.{CompressorContext}
use Rattle.outgoing.specs.Outgoing.{link_bytes}

abbrev pub head_flags : Header → CompressorContext → Flags
head_flags x c = record { bit7 = x.marker; bit6 = false; bit5 = false; bit4 = false; low = c.link.sequence }

pub steady-bytes : (i total : ℕ) (x : Header) (c : CompressorContext)
    → head_bytes i (head_flags x c) ++ optional (not c.blank) (big_endian 2 x.checksum) ≡ link_bytes i total x (steady_step x c)
unfolding link_bytes steadied parts_of list_if cr_bytes
steady-bytes i total x c =
    ap (λ (l : List ℕ). head_bytes i (head_flags x c) ++ l) (sym (append-nil (optional (not c.blank) (big_endian 2 x.checksum))))

pub wrote-steady : {before after : List ℕ} {r : ℕ} (i total : ℕ) (x : Header) (c : CompressorContext) (carried : Bool)
    → carried ≡ not c.blank
    → Wrote before after 0 r (head_bytes i (head_flags x c) ++ optional carried (big_endian 2 x.checksum))
    → Wrote before after 0 r (link_bytes i total x (steady_step x c))
wrote-steady i total x c carried e w = rw (← steady-bytes i total x c, ← e) w

pub two-most : (b : Bool) → cond b 2 0 ≤ 2
two-most true = omega arith
two-most false = omega arith
