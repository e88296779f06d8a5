-- Iarwennol. The link type that a send answers is one of the four that packets have. Assume nothing.
-- Used by the face of crtp, for crates above it.
use Rattle.std.specs.Prelude.{ℕ, ◌≤◌, List}
use Rattle.std.proofs.Common.{arith}
use Rattle.packet.specs.Types.{compressed_rtp}
use Rattle.packet.specs.declared.header.Header.{Header}
use Rattle.context.specs.Compressor.{first_step}
use Rattle.context.specs.declared.compressor.Usage.{Usage}
use Rattle.context.specs.declared.compressor.Usage.TheVariants.{Empty, Live}
use Rattle.context.specs.declared.compressor.CompressorContext.{CompressorContext}
use Rattle.context.proofs.PartsLaws.{LinkType, full-header, compressed-udp, compressed-rtp, step-type}
use Rattle.compressor.specs.declared.table.Table.{Table}
use Rattle.compressor.specs.Answer.{Result}
use Rattle.compressor.specs.Send.{step_by, step_on, send_of}
use Rattle.compressor.proofs.SendLaws.{kind_at, Goes, goes-refused, goes-plain, goes_on, send_of-goes}

LinkType-most : {k : ℕ} → LinkType k → k ≤ compressed_rtp
LinkType-most full-header = omega arith
LinkType-most compressed-udp = omega arith
LinkType-most compressed-rtp = omega arith

step_by-type : (u : Usage) (n : ℕ) (h : Header) (c : CompressorContext) → LinkType (step_by u n h c).kind
unfolding first_step
step_by-type Empty n h c = full-header
step_by-type Live n h c = step-type n h c

step_on-type : (n : ℕ) (h : Header) (c : CompressorContext) → LinkType (step_on n h c).kind
unfolding step_on
step_on-type n h c = step_by-type c.status n h c

module _ (t : Table) (p output : List ℕ) where
  kind_at-most : (i : ℕ) → kind_at t p i ≤ compressed_rtp
  kind_at-most i = LinkType-most (step_on-type _ _ _)

  goes-most : (r : Result) → Goes t p output r → r.kind ≤ compressed_rtp
  goes-most _ (goes-refused n h) = omega arith
  goes-most _ (goes-plain s least most) = omega arith
  goes-most _ (goes_on i o) = kind_at-most i

  -- whatever the table and the packet
  pub send_of-type : (send_of t p output).kind ≤ compressed_rtp
  send_of-type = goes-most (send_of t p output) (send_of-goes t p output)
