-- Iarwennol. A full header is its packet, but for the bytes of the two length fields (rule 6.1). Assumes nothing.
-- Used by the law of a send that gives one out (compressor), and by the worked cases (crtp).
use Rattle.std.specs.Prelude.{ℕ, ◌+◌, ◌-◌, ◌/◌, ◌%◌, ◌<◌, ◌≡◌, refl, ◌≢◌, true, List, ◌++◌, length, set}
use Rattle.std.proofs.Math.Path.{ap}
use Rattle.std.proofs.Common.{◌∙◌, arith, length-set, get_or-set_other}
use Rattle.std.proofs.Math.ListN.{drop}
use Rattle.codes.specs.Bytes.{AllBytes}
use Rattle.codes.specs.Reading.{byte_at}
use Rattle.packet.specs.declared.header.Header.{Header}
use Rattle.headers.specs.Header.{header_of, ip_front, ip_back, udp_bytes, header_bytes, header_size}
use Rattle.headers.specs.Checksum.{ip_checksum, printed}
use Rattle.headers.specs.Compressible.{compressible}
use Rattle.headers.proofs.RoundTrip.{printed-header_of}
use Rattle.links.specs.Fh.{ip_field, fh_bytes}

---- a packet with other bytes in its length fields

-- the two of the IP length, the two of the UDP length
abbrev pub with_lengths : (ip0 ip1 udp0 udp1 : ℕ) → List ℕ → List ℕ
with_lengths ip0 ip1 udp0 udp1 p = set (set (set (set p 2 ip0) 3 ip1) 24 udp0) 25 udp1

module _ (ip0 ip1 udp0 udp1 : ℕ) (p : List ℕ) where
  pub length-with_lengths : length (with_lengths ip0 ip1 udp0 udp1 p) ≡ length p
  length-with_lengths =
      length-set (set (set (set p 2 ip0) 3 ip1) 24 udp0) 25 udp1
      ∙ length-set (set (set p 2 ip0) 3 ip1) 24 udp0
      ∙ length-set (set p 2 ip0) 3 ip1
      ∙ length-set p 2 ip0

  -- every other byte stays
  pub byte_at-with_lengths : (k : ℕ) → k ≢ 2 → k ≢ 3 → k ≢ 24 → k ≢ 25 → byte_at (with_lengths ip0 ip1 udp0 udp1 p) k ≡ byte_at p k
  byte_at-with_lengths k a b c d =
      get_or-set_other (set (set (set p 2 ip0) 3 ip1) 24 udp0) 25 k udp1 0 d
      ∙ get_or-set_other (set (set p 2 ip0) 3 ip1) 24 k udp0 0 c
      ∙ get_or-set_other (set p 2 ip0) 3 k ip1 0 b
      ∙ get_or-set_other p 2 k ip0 0 a

-- a header written with other lengths
header_bytes-lengths : (l u m v k : ℕ) (h : Header) (rest : List ℕ)
    → header_bytes m v k h ++ rest
    ≡ with_lengths (m / 256 % 256) (m % 256) (v / 256 % 256) (v % 256) (header_bytes l u k h ++ rest)
unfolding header_bytes ip_front ip_back udp_bytes
header_bytes-lengths l u m v k h rest = refl

---- the full header of a packet

module _ (context generation link : ℕ) (c : context < 256) (g : generation < 64) (q : link < 16) where
  lengths-bytes : (p : List ℕ)
      → with_lengths (ip_field context generation / 256 % 256) (ip_field context generation % 256) (link / 256 % 256) (link % 256) p
      ≡ with_lengths (64 + generation) context 0 link p
  lengths-bytes p =
      let x : ip_field context generation / 256 % 256 ≡ 64 + generation = omega arith in
      let y : ip_field context generation % 256 ≡ context = omega arith in
      let z : link / 256 % 256 ≡ 0 = omega arith in
      let w : link % 256 ≡ link = omega arith in
      rw (x, y, z, w)

  module _ {p : List ℕ} (a : AllBytes p) (e : compressible p ≡ true) where
    abbrev full : List ℕ
    full = fh_bytes context generation link (length p) (header_of p) ++ drop (header_size (header_of p)) p

    -- 0, 1, six bits of generation, the context number; eight zeros and the link sequence; all else is the packet's
    pub fh_bytes-packet : full ≡ with_lengths (64 + generation) context 0 link p
    unfolding fh_bytes
    fh_bytes-packet =
        header_bytes-lengths (length p) (length p - 20) (ip_field context generation) link (ip_checksum (header_of p) (length p))
        (header_of p) (drop (header_size (header_of p)) p)
        ∙ lengths-bytes (printed (header_of p) (length p) ++ drop (header_size (header_of p)) p)
        ∙ ap (with_lengths (64 + generation) context 0 link) (printed-header_of a e)

    pub length-full : length full ≡ length p
    length-full = ap length fh_bytes-packet ∙ length-with_lengths (64 + generation) context 0 link p

    pub byte_at-full : (k : ℕ) → k ≢ 2 → k ≢ 3 → k ≢ 24 → k ≢ 25 → byte_at full k ≡ byte_at p k
    byte_at-full k h i m n =
        ap (λ s. byte_at s k) fh_bytes-packet ∙ byte_at-with_lengths (64 + generation) context 0 link p k h i m n
