-- Iarwennol. Laws of what is sent on a context: its length, and the part of the packet that is copied. Assume nothing.
-- Used by the proofs and the laws of send.
use Rattle.std.specs.Prelude.{ℕ, ◌+◌, ◌-◌, ◌≡◌, List, length, drop, take}
use Rattle.std.proofs.Common.{arith, length-append, length-drop}
use Rattle.packet.specs.declared.header.Header.{Header}
use Rattle.headers.specs.Header.{header_size}
use Rattle.context.specs.Compressor.{Going}
use Rattle.context.proofs.Arrays.{part-rest}
use Rattle.outgoing.specs.Size.{link_size, Writable}
use Rattle.outgoing.specs.SizeLaws.{length-link_bytes}
use Rattle.compressor.specs.Send.{link_bytes, sent_bytes}

---- the rest of a packet

pub length_rest : (p : List ℕ) (start : ℕ) → length (take (length p - start) (drop start p)) ≡ length p - start
length_rest p start = rw (part-rest p start) (length-drop start p)

---- sent_bytes

pub length-sent_bytes : (i : ℕ) (p : List ℕ) (h : Header) (a : Going) → Writable h a
    → length (sent_bytes i p h a) ≡ link_size h a + (length p - header_size h)
length-sent_bytes i p h a w =
    let l = length-link_bytes i (length p) h a w in
    let r = length-drop (header_size h) p in
    omega (arith, l, r, length-append (link_bytes i (length p) h a) (drop (header_size h) p))
