-- Iarwennol. A CU that a send gives out has F (rule 8.8), whatever the table: rule 7.7 is about other compressors' link packets.
-- Assumes nothing. Used by no proof; `tests/theorems` asks for it.
use Rattle.std.specs.Prelude.{ℕ, ◌<◌, ◌≡◌, refl, Bool, true, List, ◌++◌, length, take, drop}
use Rattle.std.proofs.Common.{ap, ◌∙◌, arith}
use Rattle.std.proofs.Math.Seq.{take-append_seam}
use Rattle.codes.specs.Bytes.{AllBytes}
use Rattle.packet.specs.declared.header.Header.{Header}
use Rattle.packet.specs.declared.parts.Parts.{Parts}
use Rattle.headers.specs.Header.{header_of, header_size}
use Rattle.links.specs.Head.{head_of}
use Rattle.links.proofs.HeadLaws.{head_of-written}
use Rattle.links.specs.Cu.{cu_flags_of, cu_flags, cu_bytes}
use Rattle.context.specs.Compressor.{compressed_udp, checksum_sent, Going}
use Rattle.compressor.specs.declared.table.Table.{Table}
use Rattle.compressor.specs.Answer.{Result}
use Rattle.compressor.specs.Send.{link_by, link_bytes, send_of}
use Rattle.compressor.proofs.SendLaws.{On, step_at, kind_at, bytes_at, sent_on}
use Rattle.compressor.proofs.SendLaws.{Goes, goes-refused, goes-plain, goes_on, send_of-goes}
use Rattle.compressor.proofs.CanSendLaws.{CanSend-on}

-- F, as a decompressor reads it
abbrev pub values_read : List ℕ → Bool
values_read s = (cu_flags_of (head_of s).flags).values

-- the bytes that a call gave out
abbrev pub gave_out : Result → List ℕ
gave_out r = take r.length r.output

---- the bytes of type 2

values-cu_bytes : (context link : ℕ) (carried : Bool) (h : Parts) (rest : List ℕ) → link < 16
    → values_read (cu_bytes context link carried h ++ rest) ≡ true
unfolding cu_bytes
values-cu_bytes context link carried h rest small =
    ap (λ x. (cu_flags_of x.flags).values) (head_of-written _ context (cu_flags link h) _ small refl)

link_bytes-udp : (i total : ℕ) (h : Header) (a : Going) → a.kind ≡ compressed_udp
    → link_bytes i total h a ≡ cu_bytes i a.link.sequence (checksum_sent a.context) a.parts
unfolding link_bytes
link_bytes-udp i total h a e = ap (λ (k : ℕ). link_by k i total h a) e

---- send_of

module _ (t : Table) (p output : List ℕ) (size : length t.contexts ≡ 64) (all : AllBytes p) where
  module _ (i : ℕ) (o : On t p i) (e : kind_at t p i ≡ compressed_udp) where
    values-bytes : values_read (bytes_at t p i) ≡ true
    values-bytes =
        ap (λ s. values_read (s ++ drop (header_size (header_of p)) p))
        (link_bytes-udp i (length p) (header_of p) (step_at t p i) e)
        ∙ values-cu_bytes i (step_at t p i).link.sequence (checksum_sent (step_at t p i).context) (step_at t p i).parts
        (drop (header_size (header_of p)) p) (CanSend-on t p i size all o).writable.sequence

    values-on : values_read (gave_out (sent_on t p output i)) ≡ true
    values-on = ap values_read (take-append_seam (bytes_at t p i) (drop (length (bytes_at t p i)) output)) ∙ values-bytes

  values-goes : (r : Result) → Goes t p output r → r.kind ≡ compressed_udp → values_read (gave_out r) ≡ true
  values-goes _ (goes-refused n h) e = absurd (omega arith)
  values-goes _ (goes-plain a b c) e = absurd (omega arith)
  values-goes _ (goes_on i o) e = values-on i o e

  pub send_of-values : (send_of t p output).kind ≡ compressed_udp → values_read (gave_out (send_of t p output)) ≡ true
  send_of-values = values-goes (send_of t p output) (send_of-goes t p output)
