-- Iarwennol. A send that gives out a full header gives out the packet itself, but for its two length fields (rule 6.1).
-- Assumes nothing.
use Rattle.std.specs.Prelude.{ℕ, ◌+◌, ◌<◌, ◌≡◌, List, ◌++◌, length, take, drop}
use Rattle.std.proofs.Common.{ap, ◌∙◌, arith}
use Rattle.std.proofs.Math.Seq.{take-append_seam}
use Rattle.codes.specs.Bytes.{AllBytes}
use Rattle.packet.specs.declared.header.Header.{Header}
use Rattle.headers.specs.Header.{header_of, header_size}
use Rattle.links.specs.Fh.{fh_bytes}
use Rattle.links.proofs.FhPacketLaws.{with_lengths, length-with_lengths, fh_bytes-packet}
use Rattle.context.specs.Compressor.{full_header, Going}
use Rattle.outgoing.specs.Size.{Writable}
use Rattle.compressor.specs.declared.table.Table.{Table}
use Rattle.compressor.specs.Answer.{Result}
use Rattle.compressor.proofs.TableLaws.{sound_of-true}
use Rattle.compressor.specs.Send.{link_by, link_bytes, send_of}
use Rattle.compressor.proofs.SendLaws.{On, step_at, kind_at, bytes_at, sent_on}
use Rattle.compressor.proofs.SendLaws.{Goes, goes-refused, goes-plain, goes_on, send_of-goes}
use Rattle.compressor.proofs.CanSendLaws.{sound-most, CanSend-on}

-- what a call gave out is the packet p, but that its length fields say a context of k, a generation and a link sequence
pub record GaveFull (k : ℕ) (p : List ℕ) (r : Result) : Type 0 where
  pub context : ℕ
  pub generation : ℕ
  pub link : ℕ
  pub known : context < k
  pub young : generation < 64
  pub small : link < 16
  pub whole : r.length ≡ length p
  pub bytes : take r.length r.output ≡ with_lengths (64 + generation) context 0 link p

---- the bytes of type 1

link_bytes-full : (i total : ℕ) (h : Header) (a : Going) → a.kind ≡ full_header
    → link_bytes i total h a ≡ fh_bytes i a.link.generation a.link.sequence total h
unfolding link_bytes
link_bytes-full i total h a e = ap (λ (k : ℕ). link_by k i total h a) e

---- send_of

module _ (t : Table) (p output : List ℕ) (size : length t.contexts ≡ 64) (all : AllBytes p) where
  module _ (i : ℕ) (o : On t p i) (e : kind_at t p i ≡ full_header) where
    few : i < 256
    few = omega (arith, o.place.among, sound-most t (sound_of-true t o.sound))

    writable : Writable (header_of p) (step_at t p i)
    writable = (CanSend-on t p i size all o).writable

    bytes-packet : bytes_at t p i ≡ with_lengths (64 + (step_at t p i).link.generation) i 0 (step_at t p i).link.sequence p
    bytes-packet =
        ap (λ s. s ++ drop (header_size (header_of p)) p) (link_bytes-full i (length p) (header_of p) (step_at t p i) e)
        ∙ fh_bytes-packet i (step_at t p i).link.generation (step_at t p i).link.sequence few writable.generation
        writable.sequence all o.compressible

    full-on : GaveFull t.settings.contexts p (sent_on t p output i)
    full-on = record {
      context = i;
      generation = (step_at t p i).link.generation;
      link = (step_at t p i).link.sequence;
      known = o.place.among;
      young = writable.generation;
      small = writable.sequence;
      whole = ap length bytes-packet
          ∙ length-with_lengths (64 + (step_at t p i).link.generation) i 0 (step_at t p i).link.sequence p;
      bytes = take-append_seam (bytes_at t p i) (drop (length (bytes_at t p i)) output) ∙ bytes-packet;
    }

  full-goes : (r : Result) → Goes t p output r → r.kind ≡ full_header → GaveFull t.settings.contexts p r
  full-goes _ (goes-refused n h) e = absurd (omega arith)
  full-goes _ (goes-plain a b c) e = absurd (omega arith)
  full-goes _ (goes_on i o) e = full-on i o e

  pub send_of-full : (send_of t p output).kind ≡ full_header → GaveFull t.settings.contexts p (send_of t p output)
  send_of-full = full-goes (send_of t p output) (send_of-goes t p output)
