-- Iarwennol. Laws of sizes: each is the length of what goes out, and never exceeds that of the packet's header. Assume nothing.
-- Used by the proofs and the laws of send, and by the theorem on lists of calls (crtp).
use Rattle.std.specs.Prelude.{ℕ, ◌+◌, ◌*◌, ◌≤◌, ◌≡◌, Bool, true, false, cond, not, Option, Some, None, is_some, List, eqb, length}
use Rattle.std.proofs.Common.{arith}
use Rattle.codes.specs.CodeLaws.{length-code_of}
use Rattle.packet.specs.declared.header.Header.{Header}
use Rattle.packet.specs.declared.parts.Parts.{Parts}
use Rattle.headers.specs.Header.{header_size}
use Rattle.headers.proofs.HeaderLaws.{length-header_bytes}
use Rattle.headers.specs.Checksum.{ip_checksum}
use Rattle.links.specs.Sent.{delta}
use Rattle.links.specs.Fh.{ip_field, fh_bytes}
use Rattle.links_write.specs.Size.{cu_size, cr_size}
use Rattle.links_write.specs.SizeLaws.{length-cu_bytes, length-cr_bytes}
use Rattle.context.specs.Compressor.{full_header, compressed_udp, compressed_rtp, Going}
use Rattle.context.proofs.Tests.{cond_both}
use Rattle.outgoing.specs.Outgoing.{link_by, link_bytes}
use Rattle.outgoing.specs.Size.{size_by, link_size, Writable}

---- link_bytes

-- one of three lists, each with its length
length-one : (full udp : Bool) (x y z : List ℕ) {l m n : ℕ} → length x ≡ l → length y ≡ m → length z ≡ n
    → length (cond full x (cond udp y z)) ≡ cond full l (cond udp m n)
length-one true udp x y z e f g = e
length-one false true x y z e f g = f
length-one false false x y z e f g = g

module _ (i total : ℕ) (h : Header) (a : Going) (w : Writable h a) where
  abbrev front : (kind : ℕ) → List ℕ
  front k = link_by k i total h a

  length-fh : length (front full_header) ≡ size_by full_header h a
  unfolding fh_bytes
  length-fh = length-header_bytes (ip_field i a.link.generation) a.link.sequence (ip_checksum h total) h w.header

  length-cu : length (front compressed_udp) ≡ size_by compressed_udp h a
  length-cu = length-cu_bytes i a.link.sequence (not a.context.blank) a.parts w.words

  length-cr : length (front compressed_rtp) ≡ size_by compressed_rtp h a
  length-cr = length-cr_bytes i a.link.sequence (not a.context.blank) a.parts w.words

  length-by : (k : ℕ) → length (front k) ≡ size_by k h a
  length-by k =
      length-one (eqb k full_header) (eqb k compressed_udp) (front full_header) (front compressed_udp) (front compressed_rtp)
      length-fh length-cu length-cr

  pub length-link_bytes : length (link_bytes i total h a) ≡ link_size h a
  unfolding link_bytes link_size
  length-link_bytes = length-by a.kind

---- link_size

size-if : (w : Bool) (n : ℕ) → cond w n 0 ≤ n
size-if true n = omega arith
size-if false n = omega arith

length-delta : (w : ℕ) (o : Option ℕ) → length (delta w o) ≤ 3
length-delta w (Some d) = omega (arith, length-code_of d w)
length-delta w None = omega arith

module _ (carried : Bool) (h : Parts) where
  cu_size-most : cu_size carried h ≤ 40 + 4 * h.csrc.count
  cu_size-most = omega (
    arith,
    size-if carried 2,
    length-delta 16 h.did,
    length-delta 32 h.dts,
    size-if (is_some h.id) 2,
    size-if (is_some h.sequence) 2,
    size-if (is_some h.timestamp) 4,
    size-if (is_some h.payload) 1,
  )

  cr_size-most : cr_size carried h ≤ 40 + 4 * h.csrc.count
  cr_size-most = omega (
    arith,
    size-if carried 2,
    size-if h.listed 1,
    length-delta 16 h.did,
    length-delta 16 h.dsn,
    length-delta 32 h.dts,
  )

module _ (h : Header) (a : Going) (w : Writable h a) where
  abbrev Fair : ℕ → Type 0
  Fair size = (1 ≤ size) × (size ≤ header_size h)

  size-by : (k : ℕ) → Fair (size_by k h a)
  size-by k =
      cond_both Fair (eqb k full_header) _ _ (omega arith, omega arith)
      (cond_both Fair (eqb k compressed_udp) _ _
      (omega arith, omega (arith, cu_size-most (not a.context.blank) a.parts, w.list))
      (omega arith, omega (arith, cr_size-most (not a.context.blank) a.parts, w.list)))

  -- what stands before the rest of the packet is no longer than the packet's header, so a link packet is no longer than its packet
  pub link_by-most : (k i total : ℕ) → (1 ≤ length (link_by k i total h a)) × (length (link_by k i total h a) ≤ header_size h)
  link_by-most k i total = rw (length-by i total h a w k) (size-by k)
