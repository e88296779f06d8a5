-- Iarwennol. The relation between the two ends' contexts.
-- What holds when j packets on a context were lost since the last one accepted; n is the repeats.
-- Used by the laws of each step, and by robustness over lists of calls (rule 10).
use Prim.Native.Nat.{ℕ, suc, ◌+◌, ◌%◌, ◌^◌, ◌≤◌, ◌<◌}
use mathlib.Core.Path.{◌≡◌}
use mathlib.Core.Bool.{Bool, false, cond}
use lib.Dec.{eqb}
use Rattle.codes.specs.Difference.{sum}
use Rattle.packet.specs.declared.header.Header.{Header}
use Rattle.packet.specs.declared.parts.Parts.{Parts}
use Rattle.context.specs.Field.{steps}
use Rattle.context.specs.Compressor.{full_header, checksum_sent, Going}
use Rattle.context.specs.Decompressor.{filled, Effect, accepted_as, applied, checksum_read, rebuilt}
use Rattle.context.specs.declared.kept.Link.{Link}
use Rattle.context.specs.declared.compressor.Usage.TheVariants as usage
use Rattle.context.specs.declared.compressor.CompressorContext.{CompressorContext}
use Rattle.context.specs.declared.decompressor.Status.TheVariants.{Live}
use Rattle.context.specs.declared.decompressor.DecompressorContext.{DecompressorContext}

---- One changing field

-- as the compressor keeps it, and as the decompressor does
pub record Track : Type 0 where
  pub last : ℕ
  pub delta : ℕ
  pub delta_due : ℕ
  pub due : ℕ

pub record Seen : Type 0 where
  pub last : ℕ
  pub delta : ℕ

abbrev pub id_track : CompressorContext → Track
id_track s = record { last = s.ip.id; delta = s.deltas.id; delta_due = s.due.did; due = s.due.id }

abbrev pub sequence_track : CompressorContext → Track
sequence_track s = record { last = s.rtp.sequence; delta = 1; delta_due = 0; due = s.due.sequence }

abbrev pub timestamp_track : CompressorContext → Track
timestamp_track s = record {
  last = s.rtp.timestamp;
  delta = s.deltas.timestamp;
  delta_due = s.due.dts;
  due =
      s.due.timestamp;
}

abbrev pub id_seen : DecompressorContext → Seen
id_seen v = record { last = v.ip.id; delta = v.deltas.id }

abbrev pub sequence_seen : DecompressorContext → Seen
sequence_seen v = record { last = v.rtp.sequence; delta = 1 }

abbrev pub timestamp_seen : DecompressorContext → Seen
timestamp_seen v = record { last = v.rtp.timestamp; delta = v.deltas.timestamp }

-- a field of width w is in step, unless what brings it into step is due in more packets than may still be lost
pub record Near (w n j : ℕ) (v : Seen) (t : Track) : Type 0 where
  pub delta : t.delta_due + j ≤ n → v.delta ≡ t.delta
  pub value : t.due + j ≤ n → (v.delta ≡ t.delta) × (t.last ≡ steps (sum w) v.last v.delta j)

---- The sender alone

-- its numbers, each within its type
pub record Held (s : CompressorContext) : Type 0 where
  pub id : s.ip.id < 2 ^ 16
  pub sequence : s.rtp.sequence < 2 ^ 16
  pub timestamp : s.rtp.timestamp < 2 ^ 32
  pub did : s.deltas.id < 2 ^ 16
  pub dts : s.deltas.timestamp < 2 ^ 32
  pub link : s.link.sequence < 16

-- while a run is under way the deltas are 1 and 0, and are not repeated
pub record Running (s : CompressorContext) : Type 0 where
  pub id : s.deltas.id ≡ 1
  pub timestamp : s.deltas.timestamp ≡ 0
  pub did : s.due.did ≡ 0
  pub dts : s.due.dts ≡ 0

---- The receiver alone

-- it takes CU and CR, and knows from where to count them
pub record Listening (v : DecompressorContext) : Type 0 where
  pub status : v.status ≡ Live
  pub bound : v.link.sequence < 16

---- Both

-- the fields that only a full header carries
pub record Constants (v : DecompressorContext) (s : CompressorContext) : Type 0 where
  pub flow : v.flow ≡ s.flow
  pub tos : v.ip.tos ≡ s.ip.tos
  pub ttl : v.ip.ttl ≡ s.ip.ttl
  pub flags : v.ip.flags ≡ s.ip.flags
  pub padding : v.rtp.padding ≡ s.rtp.padding
  pub extension : v.rtp.extension ≡ s.rtp.extension
  pub carried : checksum_read v ≡ checksum_sent s

-- a full header of the last run was accepted
pub record Close (n j : ℕ) (v : DecompressorContext) (s : CompressorContext) : Type 0 where
  pub running : 1 ≤ s.due.full → Running s
  pub listening : Listening v
  pub constants : Constants v s
  pub sequence : s.link.sequence ≡ (v.link.sequence + j + 1) % 16
  pub id : Near 16 n j (id_seen v) (id_track s)
  pub number : Near 16 n j (sequence_seen v) (sequence_track s)
  pub timestamp : Near 32 n j (timestamp_seen v) (timestamp_track s)
  pub payload : s.due.payload + j ≤ n → v.rtp.payload ≡ s.rtp.payload
  pub list : s.due.list + j ≤ n → v.csrc ≡ s.csrc

-- the relation: nothing is asked of the decompressor's context where the compressor's is empty, nor before a full header of
-- the last run arrived; one more must arrive then, since fewer than n + 1 packets next to each other are lost
pub record Related (n j : ℕ) (v : DecompressorContext) (s : CompressorContext) : Type 0 where
  pub few : j ≤ n
  pub held : Held s
  pub close : s.status ≡ usage.Live → s.due.full + j ≤ n → Close n j v s

---- A packet that arrives

abbrev pub is_full : (kind : ℕ) → Bool
is_full k = eqb k full_header

-- what the decompressor makes of it; h: the header that a full header carries, which is never a guess: a gap of 1 stands for it
abbrev pub received : (kind n : ℕ) → Header → Link → Parts → DecompressorContext → Effect
received k n h l p v = cond (is_full k) (accepted_as 1 (filled h l)) (applied n l.sequence v p)

abbrev pub received_of : (n : ℕ) → Header → Going → DecompressorContext → Effect
received_of n h a v = received a.kind n h a.link a.parts v

-- it is accepted after j lost ones, its header is rebuilt, and nothing is lost any more. A CU or CR finds a live context (rule 3.3
-- has 8 before the fields) that reads the UDP checksum exactly where the compressor wrote it; one that has it was sent one
pub record Arrives (n j : ℕ) (v : DecompressorContext) (h : Header) (a : Going) : Type 0 where
  pub gap : ℕ
  pub near : gap ≤ suc j
  pub after : DecompressorContext
  pub accepts : received_of n h a v ≡ accepted_as gap after
  pub exact : rebuilt after a.parts.checksum ≡ h
  pub live : is_full a.kind ≡ false → v.status ≡ Live
  pub carries : is_full a.kind ≡ false → checksum_read v ≡ checksum_sent a.context
  pub blank : h.checksum ≡ 0 → checksum_read after ≡ false
  pub keeps : Related n 0 after a.context
