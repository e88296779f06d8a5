-- Iarwennol. Laws of a header and its bytes: what is written is read back, and what is read is written back. Assume nothing.
-- Used by the round trips of the link layouts and by the theorem on lists of calls.
use Rattle.std.specs.Prelude.{ℕ, ◌+◌, ◌-◌, ◌*◌, ◌/◌, ◌%◌, ◌^◌, ◌≤◌, ◌<◌, ◌≡◌, refl, true, length, take, replicate}
use Rattle.std.proofs.Common.{sym, ◌∙◌}
use Rattle.std.proofs.Math.Path.{ap}
use mathlib.Core.List.{List, [], ◌∷◌, ◌++◌}
use native.Mathlib.Omega.{arith}
use Rattle.std.proofs.Math.ListN.{drop}
use Rattle.codes.specs.Bytes.{AllBytes, more, big_endian}
use Rattle.codes.specs.BytesLaws.{AllBytes-append, AllBytes-big_endian}
use Rattle.codes.specs.Reading.{byte_at, word_at}
use Rattle.codes.proofs.BytesRead.{AllBytes-byte_at, word_at-lt, long_at-lt, places, places-drop}
use Rattle.codes.proofs.BytesRead.{word_at-big_endian, long_at-big_endian, big_endian-word_at, big_endian-long_at}
use Rattle.packet.specs.Ranges.{HeaderInRange, FlowInRange, IpInRange, RtpInRange, ListInRange, Narrow}
use Rattle.packet.specs.declared.header.Header.{Header}
use Rattle.octets.specs.Put.{list_bytes}
use Rattle.octets.specs.PutLaws.{AllBytes-words}
use Rattle.headers.specs.Rtp.{rtp_first_of, rtp_first_byte, rtp_first, rtp_second_of, rtp_second_byte, rtp_second}
use Rattle.headers.specs.RtpLaws.{rtp_first_of-byte, rtp_first_byte-two, rtp_first_byte-lt, rtp_first_byte-version}
use Rattle.headers.specs.RtpLaws.{rtp_second_of-byte, rtp_second_byte-of, rtp_second_byte-lt}
use Rattle.headers.specs.Header.{count_at, rtp_at, flow_of, ip_of, header_of, ip_front}
use Rattle.headers.specs.Header.{ip_back, udp_bytes, rtp_fixed, header_bytes, header_size, longs}
use Rattle.headers.specs.Compressible.{fixed_form}
use Rattle.headers.specs.ListLaws.{list_at-range, longs-list_bytes, list_bytes-list_at, length-list_bytes}
use Rattle.headers.proofs.ChecksumLaws.{flags-word}
use Rattle.headers.proofs.CompressibleLaws.{FixedForm, fixed_form-true, fixed_form-holds}

---- header_bytes, written and read

module _ (l u k : ℕ) (h : Header) (rest : List ℕ) (r : HeaderInRange h) where
  first_back : rtp_first_of (rtp_first_byte (rtp_first h.rtp h.csrc)) ≡ rtp_first h.rtp h.csrc
  first_back = rtp_first_of-byte (rtp_first h.rtp h.csrc) (omega arith)

  second_back : rtp_second_of (rtp_second_byte (rtp_second h.marker h.rtp)) ≡ rtp_second h.marker h.rtp
  second_back = rtp_second_of-byte (rtp_second h.marker h.rtp) r.rtp.payload

  flow-back : flow_of (header_bytes l u k h ++ rest) ≡ h.flow
  unfolding flow_of header_bytes ip_front ip_back udp_bytes rtp_fixed
  flow-back = λ i. record {
    source = long_at-big_endian h.flow.source r.flow.source [] i;
    destination = long_at-big_endian h.flow.destination r.flow.destination [] i;
    sport = word_at-big_endian h.flow.sport r.flow.sport [] i;
    dport = word_at-big_endian h.flow.dport r.flow.dport [] i;
    ssrc = long_at-big_endian h.flow.ssrc r.flow.ssrc [] i;
  }

  ip-back : ip_of (header_bytes l u k h ++ rest) ≡ h.ip
  unfolding ip_of header_bytes ip_front ip_back
  ip-back = λ i. record {
    tos = h.ip.tos;
    ttl = h.ip.ttl;
    flags = flags-back i;
    id = word_at-big_endian h.ip.id r.ip.id [] i;
  }
    where
      flags-back : h.ip.flags * 0x4000 / 256 % 256 / 64 ≡ h.ip.flags
      flags-back = omega arith

  rtp-back : (rtp_at (header_bytes l u k h ++ rest) 28).rtp ≡ h.rtp
  unfolding rtp_at header_bytes ip_front ip_back udp_bytes rtp_fixed
  rtp-back = λ i. record {
    padding = (first_back i).padding;
    extension = (first_back i).extension;
    payload = (second_back i).payload;
    sequence = word_at-big_endian h.rtp.sequence r.rtp.sequence [] i;
    timestamp = long_at-big_endian h.rtp.timestamp r.rtp.timestamp [] i;
  }

  marker-read : (rtp_at (header_bytes l u k h ++ rest) 28).marker ≡ h.marker
  unfolding rtp_at header_bytes ip_front ip_back udp_bytes rtp_fixed
  marker-read = λ i. (second_back i).marker

  pub count_at-header_bytes : count_at (header_bytes l u k h ++ rest) 28 ≡ h.csrc.count
  unfolding header_bytes ip_front ip_back udp_bytes rtp_fixed
  count_at-header_bytes = λ i. (first_back i).count

  words_back : (n : ℕ) → n ≡ h.csrc.count → longs n (list_bytes h.csrc ++ rest) ++ replicate (15 - n) 0 ≡ h.csrc.words
  words_back n e = rw e (longs-list_bytes h.csrc rest r.csrc)

  csrc-back : (rtp_at (header_bytes l u k h ++ rest) 28).csrc ≡ h.csrc
  unfolding rtp_at header_bytes ip_front ip_back udp_bytes rtp_fixed
  csrc-back = λ i. record {
    count = count_at-header_bytes i;
    words = words_back (rtp_first_of (rtp_first_byte (rtp_first h.rtp h.csrc))).count count_at-header_bytes i;
  }

  checksum-back : word_at (header_bytes l u k h ++ rest) 26 ≡ h.checksum
  unfolding header_bytes ip_front ip_back udp_bytes
  checksum-back = word_at-big_endian h.checksum r.checksum []

  -- a header that was written is read back, whatever its length fields and its IP checksum
  pub header_of-header_bytes : header_of (header_bytes l u k h ++ rest) ≡ h
  unfolding header_of
  header_of-header_bytes = λ i. record {
    flow = flow-back i;
    ip = ip-back i;
    rtp = rtp-back i;
    csrc = csrc-back i;
    marker = marker-read i;
    checksum = checksum-back i;
  }

  pub ip_length-header_bytes : l < 2 ^ 16 → word_at (header_bytes l u k h ++ rest) 2 ≡ l
  unfolding header_bytes ip_front
  ip_length-header_bytes b = word_at-big_endian l b []

  pub udp_length-header_bytes : u < 2 ^ 16 → word_at (header_bytes l u k h ++ rest) 24 ≡ u
  unfolding header_bytes ip_front ip_back udp_bytes
  udp_length-header_bytes b = word_at-big_endian u b []

  pub ip_checksum-header_bytes : k < 2 ^ 16 → word_at (header_bytes l u k h ++ rest) 10 ≡ k
  unfolding header_bytes ip_front ip_back
  ip_checksum-header_bytes b = word_at-big_endian k b []

  form-header_bytes : FixedForm (header_bytes l u k h ++ rest)
  unfolding header_bytes ip_front ip_back udp_bytes rtp_fixed
  form-header_bytes = record {
    first = refl;
    whole = rw (word_at-big_endian (h.ip.flags * 0x4000) (omega arith) []) (omega arith);
    protocol = refl;
    version = rtp_first_byte-version (rtp_first h.rtp h.csrc) (omega arith);
  }

  pub fixed_form-header_bytes : fixed_form (header_bytes l u k h ++ rest) ≡ true
  fixed_form-header_bytes = fixed_form-holds (header_bytes l u k h ++ rest) form-header_bytes

---- the bytes themselves

module _ (l u k : ℕ) (h : Header) (r : HeaderInRange h) where
  pub length-header_bytes : length (header_bytes l u k h) ≡ header_size h
  unfolding header_bytes ip_front ip_back udp_bytes rtp_fixed
  length-header_bytes = omega (arith, length-list_bytes h.csrc (omega arith))

  AllBytes-ip_front : AllBytes (ip_front l h)
  unfolding ip_front
  AllBytes-ip_front =
      more {b = 0x45} (omega arith)
      (more {b = h.ip.tos} r.ip.tos
      (AllBytes-append (AllBytes-big_endian 2 l)
      (AllBytes-append (AllBytes-big_endian 2 h.ip.id) (AllBytes-big_endian 2 (h.ip.flags * 0x4000)))))

  AllBytes-ip_back : AllBytes (ip_back k h)
  unfolding ip_back
  AllBytes-ip_back =
      more {b = h.ip.ttl} r.ip.ttl
      (more {b = 17} (omega arith)
      (AllBytes-append (AllBytes-big_endian 2 k)
      (AllBytes-append (AllBytes-big_endian 4 h.flow.source) (AllBytes-big_endian 4 h.flow.destination))))

  AllBytes-udp_bytes : AllBytes (udp_bytes u h)
  unfolding udp_bytes
  AllBytes-udp_bytes =
      AllBytes-append (AllBytes-big_endian 2 h.flow.sport)
      (AllBytes-append (AllBytes-big_endian 2 h.flow.dport)
      (AllBytes-append (AllBytes-big_endian 2 u) (AllBytes-big_endian 2 h.checksum)))

  AllBytes-rtp_fixed : AllBytes (rtp_fixed h)
  unfolding rtp_fixed
  AllBytes-rtp_fixed =
      more (rtp_first_byte-lt (rtp_first h.rtp h.csrc) (omega arith) (omega arith))
      (more (rtp_second_byte-lt (rtp_second h.marker h.rtp) r.rtp.payload)
      (AllBytes-append (AllBytes-big_endian 2 h.rtp.sequence)
      (AllBytes-append (AllBytes-big_endian 4 h.rtp.timestamp) (AllBytes-big_endian 4 h.flow.ssrc))))

  pub AllBytes-header_bytes : AllBytes (header_bytes l u k h)
  unfolding header_bytes
  AllBytes-header_bytes =
      AllBytes-append AllBytes-ip_front
      (AllBytes-append AllBytes-ip_back
      (AllBytes-append AllBytes-udp_bytes
      (AllBytes-append AllBytes-rtp_fixed (AllBytes-words (take h.csrc.count h.csrc.words)))))

---- header_of

module _ {p : List ℕ} (a : AllBytes p) where
  flow-range : FlowInRange (flow_of p)
  unfolding flow_of
  flow-range = record {
    source = long_at-lt a 12;
    destination = long_at-lt a 16;
    sport = word_at-lt a 20;
    dport = word_at-lt a 22;
    ssrc = long_at-lt a 36;
  }

  ip-range : IpInRange (ip_of p)
  unfolding ip_of
  ip-range = record {
    tos = AllBytes-byte_at a 1;
    ttl = AllBytes-byte_at a 8;
    flags = omega (arith, AllBytes-byte_at a 6);
    id = word_at-lt a 4;
  }

  pub rtp_at-range : (at : ℕ) → RtpInRange (rtp_at p at).rtp
  unfolding rtp_at
  rtp_at-range at = record { payload = omega arith; sequence = word_at-lt a (at + 2); timestamp = long_at-lt a (at + 4) }

  pub rtp_at-list_range : (at : ℕ) → ListInRange (rtp_at p at).csrc
  unfolding rtp_at
  rtp_at-list_range at = list_at-range a (at + 12) (count_at p at) (omega arith)

  -- a header that was read from bytes is in range
  pub header_of-range : HeaderInRange (header_of p)
  unfolding header_of
  header_of-range = record {
    flow = flow-range;
    ip = ip-range;
    rtp = rtp_at-range 28;
    csrc = rtp_at-list_range 28;
    checksum = word_at-lt a 26;
  }

pub range-narrow : {h : Header} → HeaderInRange h → Narrow h
range-narrow r = record { flags = r.ip.flags; payload = r.rtp.payload; count = r.csrc.count }

---- header_bytes, read and written

module _ {p : List ℕ} (a : AllBytes p) (f : fixed_form p ≡ true) where
  ip_front-back : ip_front (word_at p 2) (header_of p) ≡ places 8 0 p
  unfolding ip_front header_of ip_of
  ip_front-back = λ i.
      (sym (fixed_form-true p f).first i ∷ [])
      ++ ((byte_at p 1 ∷ []) ++ (big_endian-word_at a 2 i ++ (big_endian-word_at a 4 i ++ flags-bytes i)))
    where
      flags-bytes : big_endian 2 (byte_at p 6 / 64 * 0x4000) ≡ byte_at p 6 ∷ byte_at p 7 ∷ []
      flags-bytes = ap (big_endian 2) (flags-word a f) ∙ big_endian-word_at a 6

  ip_back-back : ip_back (word_at p 10) (header_of p) ≡ places 12 8 p
  unfolding ip_back header_of ip_of flow_of
  ip_back-back = λ i.
      (byte_at p 8 ∷ [])
      ++ ((sym (fixed_form-true p f).protocol i ∷ [])
      ++ (big_endian-word_at a 10 i ++ (big_endian-long_at a 12 i ++ big_endian-long_at a 16 i)))

  udp_bytes-back : udp_bytes (word_at p 24) (header_of p) ≡ places 8 20 p
  unfolding udp_bytes header_of flow_of
  udp_bytes-back = λ i. big_endian-word_at a 20 i ++ (big_endian-word_at a 22 i ++
      (big_endian-word_at a 24 i ++ big_endian-word_at a 26 i))

  rtp_fixed-back : rtp_fixed (header_of p) ≡ places 12 28 p
  unfolding rtp_fixed header_of flow_of rtp_at
  rtp_fixed-back = λ i.
      (rtp_first_byte-two (byte_at p 28) (fixed_form-true p f).version i ∷ [])
      ++ ((rtp_second_byte-of (byte_at p 29) (AllBytes-byte_at a 29) i ∷ [])
      ++ (big_endian-word_at a 30 i ++ (big_endian-long_at a 32 i ++ big_endian-long_at a 36 i)))

  list_back : header_size (header_of p) ≤ length p → list_bytes (header_of p).csrc ++ drop (header_size (header_of p)) p ≡ drop 40 p
  unfolding header_of rtp_at
  list_back h = list_bytes-list_at a 40 (count_at p 28) h

  -- the header of some bytes, written with the length fields and the IP checksum that stand in them, is their front
  pub header_bytes-header_of : header_size (header_of p) ≤ length p
      → header_bytes (word_at p 2) (word_at p 24) (word_at p 10) (header_of p) ++ drop (header_size (header_of p)) p ≡ p
  unfolding header_bytes
  header_bytes-header_of h =
      (λ i. (ip_front-back i ++ (ip_back-back i ++ (udp_bytes-back i ++ (rtp_fixed-back i ++ list_bytes (header_of p).csrc))))
      ++ drop (header_size (header_of p)) p)
      ∙ ap {B = List ℕ} (λ s. places 40 0 p ++ s) (list_back h)
      ∙ places-drop 40 p (omega arith)
