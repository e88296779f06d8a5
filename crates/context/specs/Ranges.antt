-- Iarwennol. Ranges of what a context holds: each field by its width, over the ranges of a header (packet).
-- A definition's numbers have no width, so that a table which the calls reach keeps within its types is a law of its own. The
-- link's two numbers are not here, since soundness has them (Sound).
-- Used as what the laws of whole tables start from.
use Rattle.std.specs.Prelude.{◌^◌, ◌<◌}
use Rattle.packet.specs.Ranges.{ListInRange, FlowInRange, IpInRange, RtpInRange}
use Rattle.context.specs.declared.decompressor.DecompressorContext.{DecompressorContext}

-- what a decompressor's context can hold, each field by its width (rule 2.3)
pub record ContextInRange (c : DecompressorContext) : Type 0 where
  pub flow : FlowInRange c.flow
  pub ip : IpInRange c.ip
  pub rtp : RtpInRange c.rtp
  pub csrc : ListInRange c.csrc
  pub did : c.deltas.id < 2 ^ 16
  pub dts : c.deltas.timestamp < 2 ^ 32
