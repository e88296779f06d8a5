-- Iarwennol. An arrival (rules 3.3 to 3.5, 6, 7): what the decompressor makes of a link packet.
-- Used by the contract of receive, and by the theorem on lists of calls (crtp), which is about this very definition.
use Rattle.std.specs.Prelude.{ℕ, ◌+◌, ◌-◌, Bool, cond, not, ◌&&◌, List, ◌++◌, eqb, leb, ltb, length, drop}
use Rattle.codes.specs.Numbers.{unsound, bad_length, unknown_type, cut, no_such_context, not_live, too_long, disproved}
use Rattle.packet.specs.Types.{plain, full_header, compressed_udp, compressed_rtp}
use Rattle.packet.specs.declared.header.Header.{Header}
use Rattle.fields.specs.declared.place.Place.{Place}
use Rattle.headers.specs.Header.{header_size}
use Rattle.headers.specs.Checksum.{printed}
use Rattle.headers.specs.UdpChecksum.{udp_right}
use Rattle.links.specs.declared.head.Head.{Head}
use Rattle.links.specs.declared.head.ReadParts.{ReadParts}
use Rattle.links.specs.declared.whole.ReadWhole.{ReadWhole}
use Rattle.links.specs.Head.{context_of, head_of}
use Rattle.links.specs.Cu.{cu_flags_of, cu_of}
use Rattle.links.specs.Cr.{cr_of}
use Rattle.links.specs.Whole.{whole_of}
use Rattle.links.specs.declared.fh.FullHeader.{FullHeader}
use Rattle.links.specs.Fh.{fh_judged, fh_of}
use Rattle.packet.specs.Refusal.{verdict_number, is_accepted}
use Rattle.settings.specs.Settings.{length_allowed}
use Rattle.context.specs.Decompressor.{filled, broke, Effect, applied, applied_whole, checksum_read, rebuilt}
use Rattle.context.specs.declared.decompressor.Status.{Status}
use Rattle.context.specs.declared.decompressor.Status.TheVariants.{Empty, Live, Broken}
use Rattle.context.specs.declared.decompressor.DecompressorContext.{DecompressorContext}
use Rattle.decompressor.specs.declared.old.OldForm.{OldForm}
use Rattle.decompressor.specs.declared.old.OldForm.TheVariants.{Taken}
use Rattle.decompressor.specs.declared.table.Table.{Table}
use Rattle.decompressor.specs.Answer.{Result, accepted, refused, delivered}
use Rattle.decompressor.specs.Table.{sound_of, context_at, with_context}

---- The rebuilt packet

-- rule 7.8: the header h, its lengths and IP checksum worked out, then the rest
abbrev pub packet_of : Header → (rest : List ℕ) → List ℕ
packet_of h rest = printed h (header_size h + length rest) ++ rest

---- Plain

-- rule 3.3: 11
abbrev pub receive_plain : Table → (s output : List ℕ) → Result
receive_plain t s output = delivered t t s output

---- FULL_HEADER (rules 6.1, 7.1)

-- rule 7.1: the table with the context set
abbrev pub full_table : Table → FullHeader → Table
full_table t f = with_context t f.context (filled f.header (record { sequence = f.link; generation = f.generation }))

-- rule 3.3: what its bytes are refused with, then 11; number: how they are judged
abbrev pub receive_full_by : (number : ℕ) → Table → FullHeader → (s output : List ℕ) → Result
receive_full_by number t f s output =
    cond (eqb number 0) (delivered t (full_table t f) (packet_of f.header (drop f.start s)) output) (refused t number output)

-- rules 3.3, 6.1, 7.1
unfoldable pub receive_full : Table → (s output : List ℕ) → Result
receive_full t s output = receive_full_by (fh_judged t.settings.contexts s) t (fh_of s) s output

---- COMPRESSED_UDP and COMPRESSED_RTP, on the context at place i

-- rule 7.10: judged is what is g steps on, more than one, where the context carries the UDP checksum
abbrev pub is_judged : DecompressorContext → (g : ℕ) → Bool
is_judged c g = checksum_read c && ltb 1 g

-- rule 7.10: it is judged, and the UDP checksum of the rebuilt packet is not right
abbrev pub is_disproved : DecompressorContext → (g : ℕ) → (packet : List ℕ) → Bool
is_disproved c g packet = is_judged c g && not (udp_right packet)

-- rule 3.3: accepted by its context, which it takes g steps on to c: 10, then 12, then 11. sent: the UDP checksum that was read;
-- rest: what follows the fields
abbrev pub rebuild_to : (before : Table) → (i g : ℕ) → DecompressorContext → (sent : ℕ) → (rest output : List ℕ) → Result
rebuild_to before i g c sent rest output =
    cond (ltb 1500 (header_size (rebuilt c sent) + length rest))
    (refused before too_long output)
    (cond (is_disproved c g (packet_of (rebuilt c sent) rest))
    (refused (with_context before i (broke (context_at before i))) disproved output)
    (delivered before (with_context before i c) (packet_of (rebuilt c sent) rest) output))

-- rule 3.1: what it does on its context; where that refuses it, the context is left broken
abbrev pub settle : Effect → Table → (i : ℕ) → (sent : ℕ) → (rest output : List ℕ) → Result
settle e t i sent rest output =
    cond (eqb e.number 0) (rebuild_to t i e.gap e.context sent rest output)
    (refused (with_context t i e.context) e.number output)

-- rules 3.1, 3.3: the fields, read to their end or refused on the way with the context as it was
abbrev pub settle_read : Place → Effect → Table → (i : ℕ) → (sent : ℕ) → (s output : List ℕ) → Result
settle_read p e t i sent s output =
    cond (is_accepted p.verdict) (settle e t i sent (drop p.cursor.at s) output)
    (refused t (verdict_number p.verdict) output)

-- rules 7.2 to 7.6: a CR, or a CU with F, that was read
abbrev pub receive_parts : ReadParts → Table → (i q : ℕ) → (s output : List ℕ) → Result
receive_parts r t i q s output = settle_read r.place (applied t.settings.repeats q (context_at t i) r.parts) t i
    r.parts.checksum s output

-- rule 7.7: a CU without F, read whole
abbrev pub receive_whole : ReadWhole → Table → (i q : ℕ) → (s output : List ℕ) → Result
receive_whole r t i q s output =
    settle_read r.place (applied_whole t.settings.repeats q (context_at t i) r.parts r.header) t i
    r.parts.checksum s output

-- rule 6.2: a CR on a live context; h: the flag byte
abbrev pub receive_rtp : Table → (i : ℕ) → Head → (s output : List ℕ) → Result
receive_rtp t i h s output = receive_parts (cr_of s h.place h.flags (checksum_read (context_at t i))) t i h.flags.low s output

-- rules 6.3, 7.7: how a CU without F is taken
unfoldable pub receive_old : OldForm → Table → (i : ℕ) → Head → (s output : List ℕ) → Result
receive_old Taken t i h s output =
    receive_whole (whole_of s h.place h.flags (checksum_read (context_at t i))) t i h.flags.low s output

module _ (old : OldForm) where
  -- rule 6.3: a CU on a live context
  abbrev pub receive_udp : Table → (i : ℕ) → Head → (s output : List ℕ) → Result
  receive_udp t i h s output =
      cond (cu_flags_of h.flags).values
      (receive_parts (cu_of s h.place h.flags (checksum_read (context_at t i))) t i h.flags.low s output)
      (receive_old old t i h s output)

  -- rule 3.1: 8 for a context that is not live, which it leaves broken
  abbrev pub receive_on : Status → (kind : ℕ) → Table → (i : ℕ) → Head → (s output : List ℕ) → Result
  receive_on Empty kind t i h s output = refused (with_context t i (broke (context_at t i))) not_live output
  receive_on Broken kind t i h s output = refused (with_context t i (broke (context_at t i))) not_live output
  receive_on Live kind t i h s output = cond (eqb kind compressed_udp) (receive_udp t i h s output) (receive_rtp t i h s output)

  -- rule 3.3: 6, then 4 where there is no flag byte
  unfoldable pub receive_compressed : (kind : ℕ) → Table → (s output : List ℕ) → Result
  receive_compressed kind t s output =
      cond (ltb (context_of s) t.settings.contexts)
      (cond (is_accepted (head_of s).place.verdict)
      (receive_on (context_at t (context_of s)).status kind t (context_of s) (head_of s) s output)
      (refused t cut output))
      (refused t no_such_context output)

  ---- By type

  -- rules 1.1, 3.3
  unfoldable pub receive_kind : (kind : ℕ) → Table → (s output : List ℕ) → Result
  receive_kind kind t s output =
      cond (eqb kind plain) (receive_plain t s output)
      (cond (eqb kind full_header) (receive_full t s output) (receive_compressed kind t s output))

  -- rule 3.3: 1, 3, 2, then by type
  unfoldable pub receive_by : Table → (kind : ℕ) → (s output : List ℕ) → Result
  receive_by t kind s output =
      cond (sound_of t)
      (cond (leb kind compressed_rtp)
      (cond (length_allowed (length s)) (receive_kind kind t s output) (refused t bad_length output))
      (refused t unknown_type output))
      (refused t unsound output)

-- rule 3.3: the decompressor's own receive
abbrev pub receive_of : Table → (kind : ℕ) → (s output : List ℕ) → Result
receive_of t kind s output = receive_by Taken t kind s output
