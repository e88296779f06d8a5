-- Iarwennol. A sound context that was never filled holds 0 in every field, so its status is all there is to it; and a sound list
-- without a word holds 0 in every place. Assumes nothing.
-- Used by the laws of saved tables, where such a context has no header, and by the short way of a send, which compares no words.
use Prim.Native.Nat.{ℕ}
use mathlib.Core.Path.{◌≡◌, refl, sym, ap, ◌∙◌}
use mathlib.Core.Bool.{true, false, not, and-eq-true_iff}
use mathlib.Core.List.{List, [], ◌∷◌}
use borrow.Author.Tests.{eqb-true, eq-eqb, not-true}
use lib.Dec.{eqb, leb}
use lib.ListN.{length, drop, replicate}
use Rattle.packet.proofs.Chain.{all-of-eight}
use Rattle.packet.specs.Csrc.{no_list}
use Rattle.packet.specs.declared.csrc.Csrc.{Csrc}
use Rattle.packet.specs.declared.header.Flow.{Flow}
use Rattle.packet.specs.declared.header.Ip.{Ip}
use Rattle.packet.specs.declared.header.Rtp.{Rtp}
use Rattle.context.specs.Sound.{is_zero, zeros, sound_list, zero_flow, zero_ip, zero_rtp, zero_list, zero_deltas, zero_link}
use Rattle.context.specs.Sound.{unfilled_sound, no_flow, no_ip, no_rtp}
use Rattle.context.specs.declared.kept.Deltas.{Deltas}
use Rattle.context.specs.declared.kept.Link.{Link}
use Rattle.context.specs.declared.decompressor.Status.{Status}
use Rattle.context.specs.declared.decompressor.DecompressorContext.{DecompressorContext}

-- 0 everywhere but in the status
abbrev pub blank : Status → DecompressorContext
blank s = record {
  status = s;
  filled = false;
  flow = no_flow;
  ip = no_ip;
  rtp = no_rtp;
  csrc = no_list;
  carried = false;
  marker = false;
  deltas = record { id = 0; timestamp = 0 };
  link = record { sequence = 0; generation = 0 };
}

zero-flow : (f : Flow) → zero_flow f ≡ true → f ≡ no_flow
zero-flow f e =
    let t = all-of-eight true true true (eqb f.source 0) (eqb f.destination 0) (eqb f.sport 0) (eqb f.dport 0)
    (eqb f.ssrc 0) e in
    λ i. record {
      source = eqb-true f.source 0 t.3 i;
      destination = eqb-true f.destination 0 t.4 i;
      sport = eqb-true f.sport 0 t.5 i;
      dport = eqb-true f.dport 0 t.6 i;
      ssrc = eqb-true f.ssrc 0 t.7 i;
    }

pub zero-ip : (p : Ip) → zero_ip p ≡ true → p ≡ no_ip
zero-ip p e =
    let t = all-of-eight true true true true (eqb p.tos 0) (eqb p.ttl 0) (eqb p.flags 0) (eqb p.id 0) e in
    λ i. record {
      tos = eqb-true p.tos 0 t.4 i;
      ttl = eqb-true p.ttl 0 t.5 i;
      flags = eqb-true p.flags 0 t.6 i;
      id = eqb-true p.id 0 t.7 i;
    }

pub zero-rtp : (r : Rtp) → zero_rtp r ≡ true → r ≡ no_rtp
zero-rtp r e =
    let t = all-of-eight true true true (not r.padding) (not r.extension) (eqb r.payload 0) (eqb r.sequence 0)
    (eqb r.timestamp 0) e in
    λ i. record {
      padding = not-true r.padding t.3 i;
      extension = not-true r.extension t.4 i;
      payload = eqb-true r.payload 0 t.5 i;
      sequence = eqb-true r.sequence 0 t.6 i;
      timestamp = eqb-true r.timestamp 0 t.7 i;
    }

zero-words : (l : List ℕ) → zeros l ≡ true → l ≡ replicate (length l) 0
zero-words [] e = refl
zero-words (x ∷ xs) e =
    let p = (and-eq-true_iff (is_zero x) (zeros xs)).0 e in
    λ i. eqb-true x 0 p.0 i ∷ zero-words xs p.1 i

zero-list : (l : Csrc) → zero_list l ≡ true → length l.words ≡ 15 → l ≡ no_list
unfolding zero_list
zero-list l e n =
    let p = (and-eq-true_iff (eqb l.count 0) (zeros l.words)).0 e in
    λ i. record {
      count = eqb-true l.count 0 p.0 i;
      words = (zero-words l.words p.1 ∙ ap (λ (k : ℕ). replicate k 0) n) i;
    }

-- a sound list without a word has nothing in its places either
pub sound_list-none : (l : Csrc) → sound_list l ≡ true → l.count ≡ 0 → length l.words ≡ 15 → l ≡ no_list
unfolding sound_list zero_list
sound_list-none l e z n =
    let p = ((and-eq-true_iff (leb l.count 15) (zeros (drop l.count l.words))).0 e).1 in
    zero-list l (rw (eq-eqb l.count 0 z) (ap (λ (k : ℕ). zeros (drop k l.words)) (sym z) ∙ p)) n

zero-deltas : (d : Deltas) → zero_deltas d ≡ true → d ≡ record { id = 0; timestamp = 0 }
zero-deltas d e =
    let p = (and-eq-true_iff (eqb d.id 0) (eqb d.timestamp 0)).0 e in
    λ i. record { id = eqb-true d.id 0 p.0 i; timestamp = eqb-true d.timestamp 0 p.1 i }

zero-link : (l : Link) → zero_link l ≡ true → l ≡ record { sequence = 0; generation = 0 }
zero-link l e =
    let p = (and-eq-true_iff (eqb l.sequence 0) (eqb l.generation 0)).0 e in
    λ i. record { sequence = eqb-true l.sequence 0 p.0 i; generation = eqb-true l.generation 0 p.1 i }

pub unfilled-blank : (c : DecompressorContext) → c.filled ≡ false → unfilled_sound c ≡ true → length c.csrc.words ≡ 15
    → c ≡ blank c.status
unfolding unfilled_sound
unfilled-blank c f e n =
    let t = all-of-eight (zero_flow c.flow) (zero_ip c.ip) (zero_rtp c.rtp) (zero_list c.csrc) (not c.carried)
    (not c.marker) (zero_deltas c.deltas) (zero_link c.link) e in
    λ i. record {
      status = c.status;
      filled = f i;
      flow = zero-flow c.flow t.0 i;
      ip = zero-ip c.ip t.1 i;
      rtp = zero-rtp c.rtp t.2 i;
      csrc = zero-list c.csrc t.3 n i;
      carried = not-true c.carried t.4 i;
      marker = not-true c.marker t.5 i;
      deltas = zero-deltas c.deltas t.6 i;
      link = zero-link c.link t.7 i;
    }
