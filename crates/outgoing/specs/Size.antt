-- Iarwennol. How many bytes go out on a context before the rest of the packet, and what is relied on when they are written.
-- Used by the send, which computes the exact length before it writes (rule 3.1, refusal 11).
use Rattle.std.specs.Prelude.{ℕ, ◌≤◌, ◌<◌, cond, eqb, length}
use Rattle.packet.specs.Ranges.{HeaderInRange}
use Rattle.packet.specs.declared.header.Header.{Header}
use Rattle.headers.specs.Header.{header_size}
use Rattle.links_write.specs.Size.{cu_size, cr_size}
use Rattle.context.specs.Compressor.{full_header, compressed_udp, checksum_sent, Going}

-- rules 6.1 to 6.3
abbrev pub size_by : (kind : ℕ) → Header → Going → ℕ
size_by kind h a =
    cond (eqb kind full_header) (header_size h)
    (cond (eqb kind compressed_udp) (cu_size (checksum_sent a.context) a.parts) (cr_size (checksum_sent a.context) a.parts))

unfoldable pub link_size : Header → Going → ℕ
link_size h a = size_by a.kind h a

-- a step whose numbers fit the bits that the layouts have for them
pub record Writable (h : Header) (a : Going) : Type 0 where
  pub header : HeaderInRange h
  pub sequence : a.link.sequence < 16
  pub generation : a.link.generation < 64
  pub list : a.parts.csrc.count ≤ h.csrc.count
  pub words : a.parts.csrc.count ≤ length a.parts.csrc.words
