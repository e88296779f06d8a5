-- Iarwennol. Ranges of numbers: what a header, a CSRC list, a field that may be sent and the parts of a link packet can hold.
-- As far as bytes leave room for it, or as far as a context keeps it (rule 2.3); each range stands here alone.
-- Used by contracts that ask for a number's range, and as what the laws of every layer start from.
use Rattle.std.specs.Prelude.{ℕ, ◌-◌, ◌^◌, ◌≤◌, ◌<◌, ◌≡◌, Bool, true, cond, length, get_or, drop, replicate, IfSome}
use Rattle.codes.specs.Difference.{has_code}
use Rattle.packet.specs.declared.csrc.Csrc.{Csrc}
use Rattle.packet.specs.declared.header.Flow.{Flow}
use Rattle.packet.specs.declared.header.Ip.{Ip}
use Rattle.packet.specs.declared.header.Rtp.{Rtp}
use Rattle.packet.specs.declared.header.Header.{Header}
use Rattle.packet.specs.declared.header.RtpHeader.{RtpHeader}
use Rattle.packet.specs.declared.parts.Parts.{Parts}

---- CSRC list

-- rule 2.3: fifteen words, of which those past the count are 0, whatever the words are
pub record ListSound (l : Csrc) : Type 0 where
  pub count : l.count ≤ 15
  pub size : length l.words ≡ 15
  pub blank : drop l.count l.words ≡ replicate (15 - l.count) 0

-- rule 2.3, and each word has 32 bits
pub record ListInRange (l : Csrc) : Type 0 where
  pub count : l.count ≤ 15
  pub size : length l.words ≡ 15
  pub each : (i : ℕ) → get_or l.words i 0 < 2 ^ 32
  pub blank : drop l.count l.words ≡ replicate (15 - l.count) 0

---- Header, each field by its width (rule 2.3)

pub record FlowInRange (f : Flow) : Type 0 where
  pub source : f.source < 2 ^ 32
  pub destination : f.destination < 2 ^ 32
  pub sport : f.sport < 2 ^ 16
  pub dport : f.dport < 2 ^ 16
  pub ssrc : f.ssrc < 2 ^ 32

pub record IpInRange (i : Ip) : Type 0 where
  pub tos : i.tos < 256
  pub ttl : i.ttl < 256
  pub flags : i.flags < 4
  pub id : i.id < 2 ^ 16

pub record RtpInRange (r : Rtp) : Type 0 where
  pub payload : r.payload < 128
  pub sequence : r.sequence < 2 ^ 16
  pub timestamp : r.timestamp < 2 ^ 32

pub record HeaderInRange (h : Header) : Type 0 where
  pub flow : FlowInRange h.flow
  pub ip : IpInRange h.ip
  pub rtp : RtpInRange h.rtp
  pub csrc : ListInRange h.csrc
  pub checksum : h.checksum < 2 ^ 16

-- the fields that are narrower than their type: all that a writer of a header asks of its caller
pub record Narrow (h : Header) : Type 0 where
  pub flags : h.ip.flags < 4
  pub payload : h.rtp.payload < 128
  pub count : h.csrc.count ≤ 15

---- RTP header, as a CU without F carries it (rule 6.3)

pub record HeaderFits (w : RtpHeader) : Type 0 where
  pub payload : w.rtp.payload < 128
  pub sequence : w.rtp.sequence < 2 ^ 16
  pub timestamp : w.rtp.timestamp < 2 ^ 32
  pub ssrc : w.ssrc < 2 ^ 32
  pub list : ListInRange w.csrc

-- one that leaves a sound context sound (rule 2.3)
pub record HeaderSound (w : RtpHeader) : Type 0 where
  pub payload : w.rtp.payload < 128
  pub list : ListSound w.csrc

---- Parts of a link packet

-- a number of w bits that is carried or not: 0 where it is not
pub record Sendable (w : ℕ) (sent : Bool) (value : ℕ) : Type 0 where
  pub fits : value < 2 ^ w
  pub blank : cond sent value 0 ≡ value

-- rules 6.2, 6.3: parts that a CU with F, or a CR, can carry; carried: the context carries the UDP checksum
pub record PartsFit (carried : Bool) (h : Parts) : Type 0 where
  pub checksum : Sendable 16 carried h.checksum
  pub id : IfSome h.id (λ v. v < 2 ^ 16)
  pub sequence : IfSome h.sequence (λ v. v < 2 ^ 16)
  pub timestamp : IfSome h.timestamp (λ v. v < 2 ^ 32)
  pub payload : IfSome h.payload (λ v. v < 2 ^ 7)
  pub did : IfSome h.did (λ v. v < 2 ^ 16)
  pub dsn : IfSome h.dsn (λ v. v < 2 ^ 16)
  pub dts : IfSome h.dts (λ v. v < 2 ^ 32)
  pub coded : IfSome h.dts (λ v. has_code 32 v ≡ true)
  pub list : ListInRange h.csrc

-- parts that leave a sound context sound (rule 2.3)
pub record PartsSound (h : Parts) : Type 0 where
  pub payload : IfSome h.payload (λ v. v < 128)
  pub coded : IfSome h.dts (λ v. has_code 32 v ≡ true)
  pub list : ListSound h.csrc
