-- Iarwennol. The decompressor, one context.
-- Its rules in their order (rules 7, 3.1); n is the repeats, g the gap, q a packet's link sequence.
-- Used by decompress, whose code equals them, and by the relation between the ends.
use Rattle.std.specs.Prelude.{ℕ, ◌+◌, Bool, true, cond, not, ◌||◌, eqb, ltb, unwrap_or}
use Rattle.codes.specs.Difference.{sum}
use Rattle.codes.specs.Numbers.{out_of_step}
use Rattle.packet.specs.declared.header.Header.{Header}
use Rattle.packet.specs.declared.header.RtpHeader.{RtpHeader}
use Rattle.packet.specs.declared.header.Ip.{Ip}
use Rattle.packet.specs.declared.header.Rtp.{Rtp}
use Rattle.packet.specs.declared.parts.Parts.{Parts}
use Rattle.context.specs.Field.{gap, moved_on}
use Rattle.context.specs.declared.kept.Deltas.{Deltas}
use Rattle.context.specs.declared.kept.Link.{Link}
use Rattle.packet.specs.Refusal.{verdict_number}
use Rattle.context.specs.declared.decompressor.Status.TheVariants.{Live, Broken}
use Rattle.context.specs.declared.decompressor.DecompressorContext.{DecompressorContext}
use Rattle.context.specs.declared.decompressor.Applied.{Applied}

---- A full header

-- rule 7.1: it sets the whole context
unfoldable pub filled : Header → Link → DecompressorContext
filled h l = record {
  status = Live;
  filled = true;
  flow = h.flow;
  ip = h.ip;
  rtp = h.rtp;
  csrc = h.csrc;
  carried = not (eqb h.checksum 0);
  marker = h.marker;
  deltas = record { id = 1; timestamp = 0 };
  link = l;
}

---- The gap

-- rule 3.1: the widest gap that is accepted
abbrev pub furthest : ℕ → ℕ
furthest n = n + 1

-- rule 3.1: the gaps of refusal 9, which are none of 1 to n + 1
abbrev pub is_out_of_step : (n g : ℕ) → Bool
is_out_of_step n g = eqb g 0 || ltb (furthest n) g

-- rule 3.1: 9, else 0
unfoldable pub gap_judged : (n g : ℕ) → ℕ
gap_judged n g = cond (is_out_of_step n g) out_of_step 0

---- The fields after a CU or CR

-- rules 7.3, 7.4: the ID
unfoldable pub ip_after : ℕ → DecompressorContext → Parts → Ip
ip_after g c p = record {
  tos = c.ip.tos;
  ttl = c.ip.ttl;
  flags = c.ip.flags;
  id = moved_on (sum 16) g c.ip.id c.deltas.id p.did p.id;
}

-- rules 7.3, 7.4: sequence, 1 a step, timestamp and payload type
unfoldable pub rtp_after : ℕ → DecompressorContext → Parts → Rtp
rtp_after g c p = record {
  padding = c.rtp.padding;
  extension = c.rtp.extension;
  payload = unwrap_or p.payload c.rtp.payload;
  sequence = moved_on (sum 16) g c.rtp.sequence 1 p.dsn p.sequence;
  timestamp = moved_on (sum 32) g c.rtp.timestamp c.deltas.timestamp p.dts p.timestamp;
}

-- rule 7.5: a difference that came is the delta from now on
unfoldable pub deltas_held : Deltas → Parts → Deltas
deltas_held kept p = record {
  id = unwrap_or p.did kept.id;
  timestamp = unwrap_or p.dts kept.timestamp;
}

-- rule 7.7: the delta of the timestamp forgotten
abbrev pub without_timestamp : Deltas → Deltas
without_timestamp kept = record { id = kept.id; timestamp = 0 }

-- rules 7.3 to 7.6, 6.4, 6.5: a CR, or a CU with F
unfoldable pub advanced : (g q : ℕ) → DecompressorContext → Parts → DecompressorContext
advanced g q c p = record {
  status = c.status;
  filled = c.filled;
  flow = c.flow;
  ip = ip_after g c p;
  rtp = rtp_after g c p;
  csrc = cond p.listed p.csrc c.csrc;
  carried = c.carried;
  marker = p.marker;
  deltas = deltas_held c.deltas p;
  link = record { sequence = q; generation = c.link.generation };
}

-- rule 7.7: a CU without F; w: the RTP header that it carries
unfoldable pub advanced_whole : (g q : ℕ) → DecompressorContext → Parts → RtpHeader → DecompressorContext
advanced_whole g q c p w = record {
  status = c.status;
  filled = c.filled;
  flow = record {
    source = c.flow.source;
    destination = c.flow.destination;
    sport = c.flow.sport;
    dport = c.flow.dport;
    ssrc = w.ssrc;
  };
  ip = ip_after g c p;
  rtp = w.rtp;
  csrc = w.csrc;
  carried = c.carried;
  marker = w.marker;
  deltas = deltas_held (without_timestamp c.deltas) p;
  link = record { sequence = q; generation = c.link.generation };
}

---- A CU or CR, whole

-- rule 3.1: a broken context is otherwise as it was
unfoldable pub broke : DecompressorContext → DecompressorContext
broke c = record {
  status = Broken;
  filled = c.filled;
  flow = c.flow;
  ip = c.ip;
  rtp = c.rtp;
  csrc = c.csrc;
  carried = c.carried;
  marker = c.marker;
  deltas = c.deltas;
  link = c.link;
}

-- what it does on a live context: its number, 0 where it is accepted; by how many steps it is on; the context after it
pub record Effect : Type 0 where
  pub number : ℕ
  pub gap : ℕ
  pub context : DecompressorContext

abbrev pub accepted_as : (g : ℕ) → (next : DecompressorContext) → Effect
accepted_as g next = record { number = 0; gap = g; context = next }

-- rule 3.1: a refusal breaks the context
abbrev pub refused_as : (number g : ℕ) → DecompressorContext → Effect
refused_as number g c = record { number = number; gap = g; context = broke c }

-- rule 3.1: next is the context where the gap is in step; else it is broken
unfoldable pub settled : (number g : ℕ) → (c next : DecompressorContext) → Effect
settled number g c next = cond (eqb number 0) (accepted_as g next) (refused_as number g c)

-- rule 7.2
abbrev pub gap_of : (q : ℕ) → DecompressorContext → ℕ
gap_of q c = gap c.link.sequence q

-- rule 7.2: on a live context; no other has its gap looked at
unfoldable pub applied : (n q : ℕ) → DecompressorContext → Parts → Effect
applied n q c p = settled (gap_judged n (gap_of q c)) (gap_of q c) c (advanced (gap_of q c) q c p)

-- rules 7.2, 7.7
unfoldable pub applied_whole : (n q : ℕ) → DecompressorContext → Parts → RtpHeader → Effect
applied_whole n q c p w = settled (gap_judged n (gap_of q c)) (gap_of q c) c (advanced_whole (gap_of q c) q c p w)

-- number and values of what the code answers
abbrev pub effect_of : Applied → Effect
effect_of a = record { number = verdict_number a.verdict; gap = a.gap; context = a.context }

---- The rebuilt packet

-- rules 6.2, 6.3, 6.5: a CU or CR on this context has the UDP checksum in the checksum's place, else nothing
abbrev pub checksum_read : DecompressorContext → Bool
checksum_read c = c.carried

-- rule 7.8: what stands in the UDP checksum's place
abbrev pub checksum_of : DecompressorContext → (sent : ℕ) → ℕ
checksum_of c sent = cond (checksum_read c) sent 0

-- rule 7.8: the header at which a context stands
unfoldable pub rebuilt : DecompressorContext → (sent : ℕ) → Header
rebuilt c sent = record {
  flow = c.flow;
  ip = c.ip;
  rtp = c.rtp;
  csrc = c.csrc;
  marker = c.marker;
  checksum = checksum_of c sent;
}
