-- Iarwennol. What goes out on a context (rules 6.1 to 6.3, 8): a packet's step, its link type and its bytes.
-- Used by the compressor's send, and by the theorem on lists of calls (crtp).
use Rattle.std.specs.Prelude.{ℕ, cond, List, eqb}
use Rattle.packet.specs.declared.header.Header.{Header}
use Rattle.links.specs.Fh.{fh_bytes}
use Rattle.links.specs.Cu.{cu_bytes}
use Rattle.links.specs.Cr.{cr_bytes}
use Rattle.context.specs.Compressor.{full_header, compressed_udp, checksum_sent, Going, first_step, step_of}
use Rattle.context.specs.declared.compressor.Usage.{Usage}
use Rattle.context.specs.declared.compressor.Usage.TheVariants.{Empty, Live}
use Rattle.context.specs.declared.compressor.CompressorContext.{CompressorContext}

-- rules 8.1, 8.2: the first packet of an empty context has link sequence and generation 0
abbrev pub step_by : Usage → (n : ℕ) → Header → CompressorContext → Going
step_by Empty n h c = first_step n h (record { sequence = 0; generation = 0 })
step_by Live n h c = step_of n h c

-- rules 8.1 to 8.8
unfoldable pub step_on : (n : ℕ) → Header → CompressorContext → Going
step_on n h c = step_by c.status n h c

-- rules 6.1 to 6.3: the header that goes out on context i for the header h of a packet of total bytes
abbrev pub link_by : (kind i total : ℕ) → Header → Going → List ℕ
link_by kind i total h a =
    cond (eqb kind full_header) (fh_bytes i a.link.generation a.link.sequence total h)
    (cond (eqb kind compressed_udp) (cu_bytes i a.link.sequence (checksum_sent a.context) a.parts)
    (cr_bytes i a.link.sequence (checksum_sent a.context) a.parts))

-- rules 6.1 to 6.3: by the step's own type
unfoldable pub link_bytes : (i total : ℕ) → Header → Going → List ℕ
link_bytes i total h a = link_by a.kind i total h a
