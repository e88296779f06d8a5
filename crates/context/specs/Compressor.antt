-- Iarwennol. The compressor, one context.
-- Its rules in the order in which they act on a packet (rules 8, 9.4, 9.5); n is the repeats.
-- Used by compress, whose code equals them, and by the relation between the ends.
use Rattle.std.specs.Prelude.{ℕ, ◌+◌, Bool, true, false, cond, not, ◌&&◌, ◌||◌, eqb, ltb, None}
use Rattle.std.specs.Bool.{then_some}
use Rattle.codes.specs.Difference.{difference, has_code}
pub use Rattle.packet.specs.Types.{full_header, compressed_udp, compressed_rtp}
use Rattle.packet.specs.Csrc.{same_list, no_list}
use Rattle.packet.specs.declared.csrc.Csrc.{Csrc}
use Rattle.packet.specs.declared.header.Header.{Header}
use Rattle.packet.specs.declared.parts.Parts.{Parts}
use Rattle.context.specs.Field.{next_sequence, next_generation, off_pattern, counted, is_due}
use Rattle.context.specs.declared.kept.Deltas.{Deltas}
use Rattle.context.specs.declared.kept.Link.{Link}
use Rattle.context.specs.declared.compressor.Usage.{Usage}
use Rattle.context.specs.declared.compressor.Usage.TheVariants.{Empty, Live}
use Rattle.context.specs.declared.compressor.Due.{Due}
use Rattle.context.specs.declared.compressor.CompressorContext.{CompressorContext}
use Rattle.context.specs.declared.step.Kind.{Kind}
use Rattle.context.specs.declared.step.Kind.TheVariants.{FullHeader, CompressedUdp, CompressedRtp}
use Rattle.context.specs.declared.step.Judged.{Judged}
use Rattle.context.specs.declared.step.DueNow.{DueNow}
use Rattle.context.specs.declared.step.Step.{Step}

---- A context's first packet

-- rule 8.4: the deltas that a full header sets
abbrev pub reset_deltas : Deltas
reset_deltas = record { id = 1; timestamp = 0 }

-- rule 8.2: nothing is due but full headers
abbrev pub only_full : ℕ → Due
only_full n = record { full = n; id = 0; sequence = 0; timestamp = 0; payload = 0; list = 0; did = 0; dts = 0 }

-- rules 8.1, 8.2: the context after its first packet, which was the first of n + 1 full headers; l: the packet's link sequence
-- and generation, 0 and 0 where the context was never used before
unfoldable pub first : ℕ → Header → Link → CompressorContext
first n h l = record {
  status = Live;
  flow = h.flow;
  ip = h.ip;
  rtp = h.rtp;
  csrc = h.csrc;
  blank = eqb h.checksum 0;
  deltas = reset_deltas;
  earlier = record { known = false; id = 0; timestamp = 0 };
  due = only_full n;
  link = record { sequence = next_sequence l.sequence; generation = l.generation };
}

---- A run starts

-- a context with other deltas, counters and link
abbrev pub with_kept : Deltas → Due → Link → CompressorContext → CompressorContext
with_kept e d l c = record {
  status = c.status;
  flow = c.flow;
  ip = c.ip;
  rtp = c.rtp;
  csrc = c.csrc;
  blank = c.blank;
  deltas = e;
  earlier = c.earlier;
  due = d;
  link = l;
}

-- counters with others for full headers and for both deltas
abbrev pub with_due : (full did dts : ℕ) → Due → Due
with_due n i t d = record {
  full = n;
  id = d.id;
  sequence = d.sequence;
  timestamp = d.timestamp;
  payload = d.payload;
  list = d.list;
  did = i;
  dts = t;
}

-- rule 8.3: the next generation
abbrev pub risen : Link → Link
risen l = record { sequence = l.sequence; generation = next_generation l.generation }

-- rule 8.3: n + 1 full headers are due, and the generation is one higher
unfoldable pub started : ℕ → CompressorContext → CompressorContext
started n c = with_kept c.deltas (with_due (n + 1) c.due.did c.due.dts c.due) (risen c.link) c

abbrev pub same_bit : Bool → Bool → Bool
same_bit a b = cond a b (not b)

-- rule 8.3: the fields that no CU and no CR carries are as they were
unfoldable pub same_constants : Header → CompressorContext → Bool
same_constants h c =
    eqb h.ip.tos c.ip.tos
    && eqb h.ip.ttl c.ip.ttl
    && eqb h.ip.flags c.ip.flags
    && same_bit h.rtp.padding c.rtp.padding
    && same_bit h.rtp.extension c.rtp.extension
    && same_bit (eqb h.checksum 0) c.blank

-- rule 8.3: a packet that changes one of them starts a run
unfoldable pub begun : ℕ → Header → CompressorContext → CompressorContext
begun n h c = cond (same_constants h c) c (started n c)

-- rule 9.4: a request is skipped while full headers are due
abbrev pub skips : CompressorContext → Bool
skips c = ltb 0 c.due.full

-- rules 9.4, 9.5: else it starts a run too
unfoldable pub started_unless_due : ℕ → CompressorContext → CompressorContext
started_unless_due n c = cond (skips c) c (started n c)

-- rule 9.4: nothing comes of a record for an empty context
abbrev pub requested_by : Usage → ℕ → CompressorContext → CompressorContext
requested_by Empty n c = c
requested_by Live n c = started_unless_due n c

-- rules 9.4, 9.5: what a record that asks does to its context
unfoldable pub requested : ℕ → CompressorContext → CompressorContext
requested n c = requested_by c.status n c

---- A full header resets the deltas

-- rule 8.4: before the packet is judged
unfoldable pub reset : CompressorContext → CompressorContext
reset c = cond (eqb c.due.full 0) c (with_kept reset_deltas (with_due c.due.full 0 0 c.due) c.link c)

---- The packet is judged

-- rule 8.5: its differences from the packet before
abbrev pub differences : Header → CompressorContext → Deltas
differences h c = record {
  id = difference 16 c.ip.id h.ip.id;
  timestamp = difference 32 c.rtp.timestamp h.rtp.timestamp;
}

-- rule 8.6: it is no full header, and there is a difference one packet earlier
abbrev pub may_adopt : CompressorContext → Bool
may_adopt c = eqb c.due.full 0 && c.earlier.known

-- rule 8.6: a difference is that of one packet earlier
abbrev pub repeats_id : Header → CompressorContext → Bool
repeats_id h c = eqb (differences h c).id c.earlier.id

-- rule 8.6
abbrev pub repeats_timestamp : Header → CompressorContext → Bool
repeats_timestamp h c = eqb (differences h c).timestamp c.earlier.timestamp

-- rules 8.6, 4.3: the difference is adopted; one of 16 bits always has a code
unfoldable pub adopts_id : Header → CompressorContext → Bool
adopts_id h c = may_adopt c && off_pattern 16 c.ip.id c.deltas.id h.ip.id && repeats_id h c

-- rules 8.6, 4.3: one of 32 bits may have none
unfoldable pub adopts_timestamp : Header → CompressorContext → Bool
adopts_timestamp h c =
    may_adopt c && off_pattern 32 c.rtp.timestamp c.deltas.timestamp h.rtp.timestamp
    && (repeats_timestamp h c && has_code 32 (differences h c).timestamp)

-- rules 8.5, 8.6, 8.7
unfoldable pub judged : Header → CompressorContext → Judged
judged h c = record {
  id = off_pattern 16 c.ip.id c.deltas.id h.ip.id;
  sequence = off_pattern 16 c.rtp.sequence 1 h.rtp.sequence;
  timestamp = off_pattern 32 c.rtp.timestamp c.deltas.timestamp h.rtp.timestamp;
  payload = not (eqb h.rtp.payload c.rtp.payload);
  list = not (same_list h.csrc c.csrc);
  did = adopts_id h c;
  dts = adopts_timestamp h c;
  deltas = differences h c;
}

---- What is sent

-- rules 8.6, 8.7: what is due in this packet
unfoldable pub due_now : Due → Judged → DueNow
due_now d j = record {
  id = is_due j.id d.id;
  sequence = is_due j.sequence d.sequence;
  timestamp = is_due j.timestamp d.timestamp;
  payload = is_due j.payload d.payload;
  list = is_due j.list d.list;
  did = is_due j.did d.did;
  dts = is_due j.dts d.dts;
}

-- rule 8.8: one thing or more is due
unfoldable pub any_due : DueNow → Bool
any_due d = d.id || d.sequence || d.timestamp || d.payload || d.did || d.dts || d.list

-- rules 8.2, 8.8: FH while full headers are due; else CU if anything is due; else CR
unfoldable pub kind_of : (full : ℕ) (any : Bool) → ℕ
kind_of full any = cond (ltb 0 full) full_header (cond any compressed_udp compressed_rtp)

-- rules 6.2, 6.3, 6.5: a CU or CR on this context has the UDP checksum in the checksum's place, else nothing
abbrev pub checksum_sent : CompressorContext → Bool
checksum_sent c = not c.blank

-- rule 8.8: every CU has the list
unfoldable pub list_if : Bool → Csrc → Csrc
list_if any l = cond any l no_list

-- rules 8.6, 8.7, 8.8: what a CU or CR carries; kept: the deltas after the packet. A difference of the sequence is never sent
unfoldable pub parts_of : Header → DueNow → Bool → Deltas → Parts
parts_of h d any kept = record {
  marker = h.marker;
  checksum = h.checksum;
  id = then_some d.id h.ip.id;
  sequence = then_some d.sequence h.rtp.sequence;
  timestamp = then_some d.timestamp h.rtp.timestamp;
  payload = then_some d.payload h.rtp.payload;
  did = then_some d.did kept.id;
  dsn = None;
  dts = then_some d.dts kept.timestamp;
  listed = any;
  csrc = list_if any h.csrc;
}

---- The context after the packet

-- rule 8.7: every counter, a full header counting as sent
unfoldable pub due_after : ℕ → Due → Judged → Due
due_after n d j = record {
  full = counted n false d.full;
  id = counted n j.id d.id;
  sequence = counted n j.sequence d.sequence;
  timestamp = counted n j.timestamp d.timestamp;
  payload = counted n j.payload d.payload;
  list = counted n j.list d.list;
  did = counted n j.did d.did;
  dts = counted n j.dts d.dts;
}

-- rule 8.6
unfoldable pub deltas_after : Deltas → Judged → Deltas
deltas_after kept j = record {
  id = cond j.did j.deltas.id kept.id;
  timestamp = cond j.dts j.deltas.timestamp kept.timestamp;
}

-- rules 8.1, 8.5 to 8.7
unfoldable pub moved : ℕ → Header → CompressorContext → Judged → CompressorContext
moved n h c j = record {
  status = c.status;
  flow = c.flow;
  ip = h.ip;
  rtp = h.rtp;
  csrc = h.csrc;
  blank = eqb h.checksum 0;
  deltas = deltas_after c.deltas j;
  earlier = record { known = true; id = j.deltas.id; timestamp = j.deltas.timestamp };
  due = due_after n c.due j;
  link = record { sequence = next_sequence c.link.sequence; generation = c.link.generation };
}

---- A packet, whole

-- what goes out: the link type; the link sequence and the generation; what a CU or CR carries; and the context after it
pub record Going : Type 0 where
  pub kind : ℕ
  pub link : Link
  pub parts : Parts
  pub context : CompressorContext

-- rules 8.5 to 8.8: sent from a context that is ready for it; now: what is due in it
unfoldable pub sent_with : ℕ → Header → CompressorContext → Judged → DueNow → Going
sent_with n h c j now = record {
  kind = kind_of c.due.full (any_due now);
  link = c.link;
  parts = parts_of h now (any_due now) (deltas_after c.deltas j);
  context = moved n h c j;
}

abbrev pub sent_from : ℕ → Header → CompressorContext → Going
sent_from n h c = sent_with n h c (judged h c) (due_now c.due (judged h c))

-- rules 8.3 to 8.8: any packet after a context's first
unfoldable pub step_of : ℕ → Header → CompressorContext → Going
step_of n h c = sent_from n h (reset (begun n h c))

-- rule 8.2: a context's first packet: a full header, and nothing beside it
abbrev pub nothing_due : DueNow
nothing_due = record { id = false; sequence = false; timestamp = false; payload = false; list = false; did = false; dts = false }

-- rules 8.1, 8.2
unfoldable pub first_step : ℕ → Header → Link → Going
first_step n h l = record {
  kind = full_header;
  link = l;
  parts = parts_of h nothing_due false reset_deltas;
  context = first n h l;
}

---- number and values of each answer

-- rule 1.1
abbrev pub kind_number : Kind → ℕ
kind_number FullHeader = full_header
kind_number CompressedUdp = compressed_udp
kind_number CompressedRtp = compressed_rtp

abbrev pub stepped : Step → Going
stepped a = record { kind = kind_number a.kind; link = a.link; parts = a.parts; context = a.context }
