-- Iarwennol. Laws of the rebuilt packet: how long it is, that it is the packet that was read, and that it is given out whole.
-- Assume nothing. Used by the functions that write it, and by the theorem on lists of calls (crtp).
use Rattle.std.specs.Prelude.{ℕ, ◌+◌, ◌-◌, ◌≤◌, ◌<◌, ◌≡◌, true, List, length, take, drop}
use Rattle.std.proofs.Common.{sym, ◌∙◌, arith, lt-ltb, le-ltb, length-append, length-drop}
use Rattle.std.proofs.Math.Seq.{take-append_seam}
use Rattle.codes.specs.Bytes.{AllBytes}
use Rattle.octets.specs.Put.{fronted}
use Rattle.packet.specs.declared.header.Header.{Header}
use Rattle.headers.specs.Header.{header_of, header_bytes, header_size, ip_front, ip_back, udp_bytes, rtp_fixed}
use Rattle.headers.specs.Checksum.{printed}
use Rattle.headers.specs.Compressible.{compressible}
use Rattle.headers.proofs.CompressibleLaws.{compressible-size}
use Rattle.headers.specs.ListLaws.{length-list_bytes}
use Rattle.headers.proofs.RoundTrip.{printed-header_of}
use Rattle.links.specs.Fh.{fh_judged, fh_of}
use Rattle.links.proofs.FhLaws.{fh_of-start, fh_of-within, fh_of-range}
use Rattle.packet.specs.declared.refusal.Refusal.TheVariants.{NoRoom}
use Rattle.std.specs.Prelude.{Ok, Err}
use Rattle.decompressor.specs.declared.table.Table.{Table}
use Rattle.decompressor.specs.Answer.{said, delivered}
use Rattle.decompressor.specs.Receive.{packet_of}

---- packet_of

pub length-printed : (h : Header) (total : ℕ) → h.csrc.count ≤ length h.csrc.words → length (printed h total) ≡ header_size h
unfolding header_bytes ip_front ip_back udp_bytes rtp_fixed
length-printed h total c = omega (arith, length-list_bytes h.csrc c)

pub length-packet_of : (h : Header) (rest : List ℕ) → h.csrc.count ≤ length h.csrc.words
    → length (packet_of h rest) ≡ header_size h + length rest
length-packet_of h rest c = length-append (printed h (header_size h + length rest)) rest
    ∙ rw (length-printed h (header_size h + length rest) c)

-- the header and the rest of a compressible packet make up the packet
module _ {p : List ℕ} (a : AllBytes p) (e : compressible p ≡ true) where
  whole-size : header_size (header_of p) + length (drop (header_size (header_of p)) p) ≡ length p
  whole-size = omega (arith, length-drop (header_size (header_of p)) p, compressible-size p e)

  pub packet_of-header_of : packet_of (header_of p) (drop (header_size (header_of p)) p) ≡ p
  packet_of-header_of = rw whole-size (printed-header_of a e)

---- the packet of a full header

module _ (k : ℕ) (s : List ℕ) (a : AllBytes s) (e : fh_judged k s ≡ 0) where
  -- it is as long as the full header
  pub full_size : length s ≡ header_size (fh_of s).header + length (drop (fh_of s).start s)
  full_size = omega (arith, fh_of-start s, fh_of-within s k e, length-drop (fh_of s).start s)

  pub length-full : length s ≡ length (packet_of (fh_of s).header (drop (fh_of s).start s))
  length-full =
      let r = (fh_of-range s a).csrc in
      full_size ∙ sym (length-packet_of (fh_of s).header (drop (fh_of s).start s) (omega (arith, r.count, r.size)))

---- delivered

module _ (before after : Table) (bytes output : List ℕ) where
  -- as a call says it
  pub said-no_room : length output < length bytes
      → said (Err NoRoom) before output ≡ delivered before after bytes output
  said-no_room h = rw (lt-ltb (length output) (length bytes) h)

  pub said-accepted : (m : ℕ) (out : List ℕ) → length bytes ≤ length output → m ≡ length bytes → out ≡ fronted output bytes
      → said (Ok m) after out ≡ delivered before after bytes output
  said-accepted m out h e w = rw (le-ltb (length output) (length bytes) h)
      (λ j. record { number = 0; length = e j; output = w j; table = after })

-- where there is room, the output begins with the packet
module _ (before after : Table) (bytes output : List ℕ) (room : length bytes ≤ length output) where
  pub delivered-number : (delivered before after bytes output).number ≡ 0
  delivered-number = rw (le-ltb (length output) (length bytes) room)

  pub delivered-length : (delivered before after bytes output).length ≡ length bytes
  delivered-length = rw (le-ltb (length output) (length bytes) room)

  pub delivered-front : take (length bytes) (delivered before after bytes output).output ≡ bytes
  delivered-front = rw (le-ltb (length output) (length bytes) room) (take-append_seam bytes (drop (length bytes) output))

  pub delivered-table : (delivered before after bytes output).table ≡ after
  delivered-table = rw (le-ltb (length output) (length bytes) room)
