-- Iarwennol. The arrival that most packets are: a CR with no field but its UDP checksum, one step on, on a live context that has no
-- CSRC list.
-- Used by the short way that the decompressor has for it; what it does follows from Decompressor (proofs/Rules).
use Rattle.std.specs.Prelude.{ℕ, Bool, true, false, ◌&&◌, eqb}
use Rattle.codes.specs.Difference.{sum}
use Rattle.context.specs.Decompressor.{gap_of}
use Rattle.context.specs.declared.decompressor.Status.{Status}
use Rattle.context.specs.declared.decompressor.Status.TheVariants.{Empty, Live, Broken}
use Rattle.context.specs.declared.decompressor.DecompressorContext.{DecompressorContext}

abbrev pub is_live : Status → Bool
is_live Empty = false
is_live Live = true
is_live Broken = false

-- rule 7.2: the link sequence q is the one after the last, on a context that has no CSRC list
abbrev pub is_step : (q : ℕ) → DecompressorContext → Bool
is_step q c = eqb c.csrc.count 0 && eqb (gap_of q c) 1

-- and that is live
unfoldable pub is_next : (q : ℕ) → DecompressorContext → Bool
is_next q c = is_live c.status && is_step q c

-- a context with ID, sequence, timestamp, marker and link sequence of d, and all else as c has it
abbrev pub moved_to : (d c : DecompressorContext) → DecompressorContext
moved_to d c = record {
  status = c.status;
  filled = c.filled;
  flow = c.flow;
  ip = record { tos = c.ip.tos; ttl = c.ip.ttl; flags = c.ip.flags; id = d.ip.id };
  rtp = record {
    padding = c.rtp.padding;
    extension = c.rtp.extension;
    payload = c.rtp.payload;
    sequence = d.rtp.sequence;
    timestamp = d.rtp.timestamp;
  };
  csrc = c.csrc;
  carried = c.carried;
  marker = d.marker;
  deltas = c.deltas;
  link = record { sequence = d.link.sequence; generation = c.link.generation };
}

-- rules 7.3, 7.4, 7.6: the context after such a CR
unfoldable pub one_step_on : (q : ℕ) → (marker : Bool) → DecompressorContext → DecompressorContext
one_step_on q marker c = record {
  status = c.status;
  filled = c.filled;
  flow = c.flow;
  ip = record {
    tos = c.ip.tos;
    ttl = c.ip.ttl;
    flags = c.ip.flags;
    id = sum 16 c.ip.id c.deltas.id;
  };
  rtp = record {
    padding = c.rtp.padding;
    extension = c.rtp.extension;
    payload = c.rtp.payload;
    sequence = sum 16 c.rtp.sequence 1;
    timestamp = sum 32 c.rtp.timestamp c.deltas.timestamp;
  };
  csrc = c.csrc;
  carried = c.carried;
  marker = marker;
  deltas = c.deltas;
  link = record { sequence = q; generation = c.link.generation };
}
