-- Iarwennol. The steady packet: one that goes out as a CR with no field but the UDP checksum, since it is just what the context and
-- its deltas say (rule 8.8). Used by the short way of a send, which is proved to do what rules 8.3 to 8.8 do with such a packet.
use Rattle.std.specs.Prelude.{Bool, true, false, ◌&&◌, eqb}
use Rattle.codes.specs.Difference.{difference}
use Rattle.packet.specs.declared.header.Header.{Header}
use Rattle.context.specs.Field.{next_sequence}
use Rattle.context.specs.Compressor.{compressed_rtp, same_constants, nothing_due, parts_of, Going}
use Rattle.context.specs.Sound.{zero_due}
use Rattle.context.specs.declared.compressor.Usage.{Usage}
use Rattle.context.specs.declared.compressor.Usage.TheVariants.{Empty, Live}
use Rattle.context.specs.declared.compressor.CompressorContext.{CompressorContext}

---- When a packet is steady

abbrev pub is_live : Usage → Bool
is_live Empty = false
is_live Live = true

-- rules 8.5, 8.7: ID, sequence and timestamp are one delta on, payload type and list are as they were. Of lists only that there is
-- none at either end is looked at
abbrev pub on_pattern : Header → CompressorContext → Bool
on_pattern h c =
    eqb (difference 16 c.ip.id h.ip.id) c.deltas.id
    && eqb (difference 16 c.rtp.sequence h.rtp.sequence) 1
    && eqb (difference 32 c.rtp.timestamp h.rtp.timestamp) c.deltas.timestamp
    && eqb h.rtp.payload c.rtp.payload
    && eqb h.csrc.count 0
    && eqb c.csrc.count 0

-- rules 8.2, 8.6, 8.7: besides, no counter is above 0
unfoldable pub steady : Header → CompressorContext → Bool
steady h c = is_live c.status && same_constants h c && zero_due c.due && on_pattern h c

---- What becomes of it

-- the context after it: seven numbers are others than before
unfoldable pub steadied : Header → CompressorContext → CompressorContext
steadied h c = record {
  status = c.status;
  flow = c.flow;
  ip = record { tos = c.ip.tos; ttl = c.ip.ttl; flags = c.ip.flags; id = h.ip.id };
  rtp = record {
    padding = c.rtp.padding;
    extension = c.rtp.extension;
    payload = c.rtp.payload;
    sequence = h.rtp.sequence;
    timestamp = h.rtp.timestamp;
  };
  csrc = c.csrc;
  blank = c.blank;
  deltas = c.deltas;
  earlier = record { known = true; id = c.deltas.id; timestamp = c.deltas.timestamp };
  due = c.due;
  link = record { sequence = next_sequence c.link.sequence; generation = c.link.generation };
}

abbrev pub steady_step : Header → CompressorContext → Going
steady_step h c = record {
  kind = compressed_rtp;
  link = c.link;
  parts = parts_of h nothing_due false c.deltas;
  context = steadied h c;
}
