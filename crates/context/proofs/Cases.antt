-- Iarwennol. Worked cases of one context.
-- Both ends' rules held to numbers worked out by hand (rules 7.7, 11.2, 12.1), above all where the relation does not see a rule.
-- Used by no definition.
use Rattle.std.specs.Prelude.{ℕ, ◌≡◌, refl, true, false, Option, Some, None}
use Rattle.codes.specs.Difference.{difference, sum, has_code}
use Rattle.packet.specs.Csrc.{same_list, no_list}
use Rattle.packet.specs.declared.header.Header.{Header}
use Rattle.packet.specs.declared.header.RtpHeader.{RtpHeader}
use Rattle.packet.specs.declared.parts.Parts.{Parts}
use Rattle.context.specs.Field.{next_sequence, next_generation, off_pattern, counted, is_due, gap, moved_on}
use Rattle.context.specs.Compressor.{first, started, same_constants, begun, started_unless_due, requested, reset, adopts_id}
use Rattle.context.specs.Compressor.{adopts_timestamp, judged, due_now, any_due, kind_of, list_if, parts_of, due_after}
use Rattle.context.specs.Compressor.{deltas_after}
use Rattle.context.specs.Compressor.{full_header, compressed_rtp, moved, sent_with, step_of}
use Rattle.context.specs.Decompressor.{filled, gap_judged, ip_after, rtp_after, deltas_held, advanced, advanced_whole, broke}
use Rattle.context.specs.Decompressor.{settled, applied, applied_whole, rebuilt}
use Rattle.context.specs.Sound.{empty_compressor}
use Rattle.context.specs.declared.compressor.CompressorContext.{CompressorContext}
use Rattle.context.specs.declared.decompressor.DecompressorContext.{DecompressorContext}

---- A stream: all but TOS, ID, sequence and timestamp stay the same, and the UDP checksum is blank

abbrev pub packet : (tos id sequence timestamp : ℕ) → Header
packet s i q t = record {
  flow = record { source = 1; destination = 2; sport = 5004; dport = 5006; ssrc = 9 };
  ip = record { tos = s; ttl = 64; flags = 2; id = i };
  rtp = record { padding = false; extension = false; payload = 0; sequence = q; timestamp = t };
  csrc = no_list;
  marker = false;
  checksum = 0;
}

abbrev pub voice : (id sequence timestamp : ℕ) → Header
voice i q t = packet 0 i q t

-- the compressor's context after a first packet, and after one more
abbrev pub opened : ℕ → Header → CompressorContext
opened n h = first n h (record { sequence = 0; generation = 0 })

abbrev pub after : ℕ → CompressorContext → Header → CompressorContext
after n c h = (step_of n h c).context

-- N 1, full headers with timestamps 10 and 20
abbrev pub jumped : CompressorContext
jumped = after 1 (opened 1 (voice 1 7 10)) (voice 2 8 20)

-- N 0, timestamps 980, 990, 1000: the delta is 10
abbrev pub steady : CompressorContext
steady = after 0 (after 0 (opened 0 (voice 1 7 980)) (voice 2 8 990)) (voice 3 9 1000)

-- the decompressor's context after a full header with link sequence 0, ID 1, sequence 7, timestamp 10
abbrev pub heard : DecompressorContext
heard = filled (voice 1 7 10) (record { sequence = 0; generation = 0 })

-- a CU or CR with the marker set and no field but perhaps these: the timestamp, differences of ID and timestamp
abbrev pub bringing : (t did dts : Option ℕ) → Parts
bringing t did dts = record {
  marker = true;
  checksum = 0;
  id = None;
  sequence = None;
  timestamp = t;
  payload = None;
  did = did;
  dsn = None;
  dts = dts;
  listed = false;
  csrc = no_list;
}

abbrev pub nothing : Parts
nothing = bringing None None None

-- an ID's difference of 5
abbrev pub five : Parts
five = bringing None (Some 5) None

-- N 2, and after it a CU with F that brought the deltas 3 and 160: link sequence 1, ID 4, sequence 8, timestamp 170
abbrev pub paced : DecompressorContext
paced = (applied 2 1 heard (bringing None (Some 3) (Some 160))).context

-- after that a CU with F and link sequence 2, and perhaps a timestamp
abbrev pub paced_on : Option ℕ → DecompressorContext
paced_on t = (applied 2 2 paced (bringing t None None)).context

-- the RTP header of a CU without F: sequence 9, timestamp 500
abbrev pub whole : RtpHeader
whole = record { ssrc = 9; rtp = (voice 5 9 500).rtp; csrc = no_list; marker = false }

-- in place of that CU one without F, and perhaps differences of ID and timestamp
abbrev pub replaced : (did dts : Option ℕ) → DecompressorContext
replaced did dts = (applied_whole 2 2 paced (bringing None did dts) whole).context

-- the timestamp after a CR of link sequence q that brings nothing
abbrev pub timestamp_at : (q : ℕ) → DecompressorContext → ℕ
timestamp_at q c = (applied 2 q c nothing).context.rtp.timestamp

---- The cases

pub record Compressing : Type 0 where
  -- rule 11.2: 20 after 10 and 20 is on pattern and still sent, for it was off pattern inside the run (rule 12.1)
  pub jumped-parts : (step_of 1 (voice 3 9 20) jumped).parts.timestamp ≡ Some 20
  pub jumped-delta : (step_of 1 (voice 3 9 20) jumped).parts.dts ≡ None
  -- rule 8.8: nothing is due
  pub steady-kind : (step_of 0 (voice 4 10 1010) steady).kind ≡ compressed_rtp
  -- rule 12.1: 3010 after 1000 keeps the delta 10, and is sent whole
  pub silence-delta : (after 0 steady (voice 4 10 3010)).deltas.timestamp ≡ 10
  pub silence-parts : (step_of 0 (voice 4 10 3010) steady).parts.timestamp ≡ Some 3010
  -- rule 8.6: ID 5 then 5, at a context's second packet: off pattern, sent whole, and no delta
  pub second_parts : (step_of 0 (voice 5 8 10) (opened 0 (voice 5 7 10))).parts.id ≡ Some 5
  pub second-delta : (step_of 0 (voice 5 8 10) (opened 0 (voice 5 7 10))).parts.did ≡ None
  -- rule 8.6: a third 5 has it
  pub third-delta : (step_of 0 (voice 5 9 10) (after 0 (opened 0 (voice 5 7 10)) (voice 5 8 10))).parts.did ≡ Some 0
  -- rule 8.3: another TOS starts a run, its generation one higher
  pub changed-kind : (step_of 0 (packet 1 4 10 1010) steady).kind ≡ full_header
  pub changed-generation : (step_of 0 (packet 1 4 10 1010) steady).link.generation ≡ 1
  -- rules 9.4, 9.5: a request is skipped while full headers are due and where the context is empty; else it starts a run
  pub request-due : requested 1 (opened 1 (voice 1 7 10)) ≡ opened 1 (voice 1 7 10)
  pub request-empty : requested 1 empty_compressor ≡ empty_compressor
  pub request-starts : (requested 1 jumped).due.full ≡ 2
  pub request-rises : (requested 1 jumped).link.generation ≡ 1
  -- rule 8.3: a request and then another TOS: the generation rises twice
  pub request-changed : (step_of 1 (packet 1 3 9 20) (requested 1 jumped)).link.generation ≡ 2

pub record Rebuilding : Type 0 where
  -- rule 11.2: N 14, fourteen lost, gap 15, accepted, with fifteen steps; gap 0 is refused with 9
  pub far : (applied 14 15 heard nothing).number ≡ 0
  pub far-id : (applied 14 15 heard nothing).context.ip.id ≡ 16
  pub far-sequence : (applied 14 15 heard nothing).context.rtp.sequence ≡ 22
  pub again : (applied 14 0 heard nothing).number ≡ 9
  -- rules 7.4, 12.1: gap 3 and a difference of 5: two steps of 1, and one of 5, which is kept
  pub three-steps : (applied 2 3 heard five).context.ip.id ≡ 8
  pub three-kept : (applied 2 3 heard five).context.deltas.id ≡ 5
  -- rule 3.1: N 1 and gap 3
  pub too_far : (applied 1 3 heard nothing).number ≡ 9
  -- rules 7.6, 7.8: the marker is taken; the checksum is 0 where none is carried
  pub marked : rebuilt (applied 2 1 heard nothing).context 77 ≡ record {
    flow = (voice 2 8 10).flow;
    ip = (voice 2 8 10).ip;
    rtp = (voice 2 8 10).rtp;
    csrc = no_list;
    marker = true;
    checksum = 0;
  }

-- rule 7.7: a CU without F, where the deltas were 3 and 160
pub record Replacing : Type 0 where
  -- without dT: the timestamp is that of the RTP header, and stands still from then on, over a gap too
  pub unsent : (replaced None None).rtp.timestamp ≡ 500
  pub unsent-stands : timestamp_at 3 (replaced None None) ≡ 500
  pub unsent-gap : timestamp_at 5 (replaced None None) ≡ 500
  pub unsent-deltas : (replaced None None).deltas ≡ record { id = 3; timestamp = 0 }
  -- with dT: it goes on by the difference that came, here 80
  pub sent : (replaced None (Some 80)).rtp.timestamp ≡ 500
  pub sent-goes : timestamp_at 3 (replaced None (Some 80)) ≡ 580
  pub sent-deltas : (replaced None (Some 80)).deltas ≡ record { id = 3; timestamp = 80 }
  -- with dI alone: that says nothing of the timestamp
  pub sent-id : (replaced (Some 7) None).deltas ≡ record { id = 7; timestamp = 0 }
  -- with F and without dT the delta stays, whether the timestamp comes whole or not
  pub values-goes : timestamp_at 3 (paced_on (Some 500)) ≡ 660
  pub values-unsent : timestamp_at 3 (paced_on None) ≡ 490
  -- rule 3.1: a gap of 4 is refused, and leaves all but the status
  pub refused : (applied_whole 2 5 paced nothing whole).number ≡ 9
  pub refused-deltas : (applied_whole 2 5 paced nothing whole).context.deltas ≡ record { id = 3; timestamp = 160 }

pub compressing : Compressing
unfolding difference has_code same_list next_sequence next_generation off_pattern counted is_due first started same_constants begun
    started_unless_due requested reset adopts_id adopts_timestamp judged due_now any_due kind_of list_if parts_of due_after
    deltas_after moved
    sent_with step_of empty_compressor
compressing = record {
  jumped-parts = refl;
  jumped-delta = refl;
  steady-kind = refl;
  silence-delta = refl;
  silence-parts = refl;
  second_parts = refl;
  second-delta = refl;
  third-delta = refl;
  changed-kind = refl;
  changed-generation = refl;
  request-due = refl;
  request-empty = refl;
  request-starts = refl;
  request-rises = refl;
  request-changed = refl;
}

pub rebuilding : Rebuilding
unfolding sum gap moved_on filled gap_judged ip_after rtp_after deltas_held advanced broke settled applied rebuilt
rebuilding = record {
  far = refl;
  far-id = refl;
  far-sequence = refl;
  again = refl;
  three-steps = refl;
  three-kept = refl;
  too_far = refl;
  marked = refl;
}

pub replacing : Replacing
unfolding sum gap moved_on filled gap_judged ip_after rtp_after deltas_held advanced advanced_whole broke settled applied
    applied_whole
replacing = record {
  unsent = refl;
  unsent-stands = refl;
  unsent-gap = refl;
  unsent-deltas = refl;
  sent = refl;
  sent-goes = refl;
  sent-deltas = refl;
  sent-id = refl;
  values-goes = refl;
  values-unsent = refl;
  refused = refl;
  refused-deltas = refl;
}
