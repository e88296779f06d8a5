-- Iarwennol. Ranges at the decompressor.
-- Every step leaves a context in range for one in range. Assume nothing.
-- Used by the ranges of the decompressor's table after each call.
use Prim.Native.Nat.{ℕ, ◌^◌, ◌<◌}
use mathlib.Core.Bool.{Bool}
use native.Mathlib.Omega.{arith}
use lib.Dec.{eqb}
use Rattle.packet.specs.Ranges.{ListInRange, IpInRange, HeaderInRange, HeaderFits, PartsFit}
use Rattle.packet.specs.RangesLaws.{range-no_list}
use Rattle.packet.specs.declared.header.Header.{Header}
use Rattle.packet.specs.declared.header.RtpHeader.{RtpHeader}
use Rattle.packet.specs.declared.parts.Parts.{Parts}
use Rattle.context.specs.Decompressor.{filled, gap_judged, gap_of, ip_after, rtp_after, deltas_held, advanced, advanced_whole}
use Rattle.context.specs.Decompressor.{broke, Effect, accepted_as, refused_as, settled, applied, applied_whole}
use Rattle.context.specs.Sound.{empty_decompressor}
use Rattle.context.specs.Ranges.{ContextInRange}
use Rattle.context.specs.declared.kept.Link.{Link}
use Rattle.context.specs.declared.decompressor.DecompressorContext.{DecompressorContext}
use Rattle.context.proofs.Tests.{cond_both, unwrap_or-both}
use Rattle.context.proofs.FieldLaws.{moved_on-fits}
use Rattle.context.proofs.WholeLaws.{whole-delta}

---- empty_decompressor, filled

pub range_none : ContextInRange empty_decompressor
unfolding empty_decompressor
range_none = record {
  flow = omega arith;
  ip = omega arith;
  rtp = omega arith;
  csrc = range-no_list;
  did = omega arith;
  dts = omega arith;
}

pub range-filled : (h : Header) (l : Link) → HeaderInRange h → ContextInRange (filled h l)
unfolding filled
range-filled h l r = record {
  flow = r.flow;
  ip = r.ip;
  rtp = r.rtp;
  csrc = r.csrc;
  did = omega arith;
  dts = omega arith;
}

---- broke

pub range-broke : (c : DecompressorContext) → ContextInRange c → ContextInRange (broke c)
unfolding broke
range-broke c r = record { flow = r.flow; ip = r.ip; rtp = r.rtp; csrc = r.csrc; did = r.did; dts = r.dts }

---- advanced, advanced_whole

module _ {carried : Bool} (g q : ℕ) (c : DecompressorContext) (p : Parts) (f : PartsFit carried p) (r : ContextInRange c) where
  range-ip_after : IpInRange (ip_after g c p)
  unfolding ip_after
  range-ip_after = record {
    tos = r.ip.tos;
    ttl = r.ip.ttl;
    flags = r.ip.flags;
    id = moved_on-fits 16 g c.ip.id c.deltas.id p.did p.id f.id;
  }

  range-did : (deltas_held c.deltas p).id < 2 ^ 16
  unfolding deltas_held
  range-did = unwrap_or-both (λ (x : ℕ). x < 2 ^ 16) p.did c.deltas.id f.did r.did

  range-dts : (deltas_held c.deltas p).timestamp < 2 ^ 32
  unfolding deltas_held
  range-dts = unwrap_or-both (λ (x : ℕ). x < 2 ^ 32) p.dts c.deltas.timestamp f.dts r.dts

  range-advanced : ContextInRange (advanced g q c p)
  unfolding advanced rtp_after
  range-advanced = record {
    flow = r.flow;
    ip = range-ip_after;
    rtp = record {
      payload = unwrap_or-both (λ (x : ℕ). x < 128) p.payload c.rtp.payload f.payload r.rtp.payload;
      sequence = moved_on-fits 16 g c.rtp.sequence 1 p.dsn p.sequence f.sequence;
      timestamp = moved_on-fits 32 g c.rtp.timestamp c.deltas.timestamp p.dts p.timestamp f.timestamp;
    };
    csrc = cond_both ListInRange p.listed p.csrc c.csrc f.list r.csrc;
    did = range-did;
    dts = range-dts;
  }

  range-whole : (w : RtpHeader) → HeaderFits w → ContextInRange (advanced_whole g q c p w)
  unfolding advanced_whole deltas_held
  range-whole w t = record {
    flow = record {
      source = r.flow.source;
      destination = r.flow.destination;
      sport = r.flow.sport;
      dport = r.flow.dport;
      ssrc = t.ssrc;
    };
    ip = range-ip_after;
    rtp = record { payload = t.payload; sequence = t.sequence; timestamp = t.timestamp };
    csrc = t.list;
    did = range-did;
    dts = omega (
      arith,
      whole-delta g q c p w,
      unwrap_or-both (λ (x : ℕ). x < 2 ^ 32) p.dts 0 f.dts (omega arith),
    );
  }

---- applied, applied_whole

range-settled : (number g : ℕ) (c next : DecompressorContext) → ContextInRange next → ContextInRange c
    → ContextInRange (settled number g c next).context
unfolding settled
range-settled number g c next f r =
    cond_both (λ (e : Effect). ContextInRange e.context) (eqb number 0) (accepted_as g next) (refused_as number g c) f
    (range-broke c r)

module _ {carried : Bool} (n q : ℕ) (c : DecompressorContext) (p : Parts) (f : PartsFit carried p) (r : ContextInRange c) where
  pub range-applied : ContextInRange (applied n q c p).context
  unfolding applied
  range-applied =
      range-settled (gap_judged n (gap_of q c)) (gap_of q c) c (advanced (gap_of q c) q c p)
      (range-advanced (gap_of q c) q c p f r) r

  pub range-applied_whole : (w : RtpHeader) → HeaderFits w → ContextInRange (applied_whole n q c p w).context
  unfolding applied_whole
  range-applied_whole w t =
      range-settled (gap_judged n (gap_of q c)) (gap_of q c) c (advanced_whole (gap_of q c) q c p w)
      (range-whole (gap_of q c) q c p f r w t) r
