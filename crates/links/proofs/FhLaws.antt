-- Iarwennol. Laws of FULL_HEADER: what was encoded is judged good and read back, whatever comes after it. Assume nothing.
-- Used by the theorem on lists of calls (crtp), by the decompressor and by refresh.
use Rattle.std.specs.Prelude.{ℕ, ◌+◌, ◌-◌, ◌/◌, ◌%◌, ◌≤◌, ◌<◌, ◌≡◌, Bool, true, false, cond, not, ◌&&◌, List, ◌++◌, leb, ltb}
use Rattle.std.specs.Prelude.{length}
use Rattle.std.proofs.Math.Path.{refl}
use Rattle.std.proofs.Common.{sym, ◌∙◌}
use native.Mathlib.Omega.{arith}
use borrow.Author.Tests.{le-ltb, lt-leb, eq-eqb, ltb-false, leb-false}
use Rattle.std.proofs.Math.ListN.{length-append}
use Rattle.codes.specs.Numbers.{cut, forbidden, no_such_context}
use Rattle.codes.specs.Bytes.{AllBytes}
use Rattle.codes.specs.Reading.{byte_at, word_at}
use Rattle.packet.specs.Ranges.{HeaderInRange}
use Rattle.packet.specs.declared.header.Header.{Header}
use Rattle.headers.specs.Header.{count_at, header_of, ip_front, ip_back, udp_bytes, header_bytes, size_with, header_size}
use Rattle.headers.specs.Checksum.{ip_checksum_of, ip_checksum}
use Rattle.headers.specs.Compressible.{fixed_form}
use Rattle.headers.proofs.CompressibleLaws.{header_size-header_of}
use Rattle.headers.proofs.HeaderLaws.{count_at-header_bytes, header_of-header_bytes, header_of-range, udp_length-header_bytes}
use Rattle.headers.proofs.HeaderLaws.{ip_checksum-header_bytes, fixed_form-header_bytes, length-header_bytes, AllBytes-header_bytes}
use Rattle.headers.proofs.HeaderLaws.{length-header_bytes, AllBytes-header_bytes}
use Rattle.headers.proofs.HeaderLaws.{udp_length-header_bytes, ip_checksum-header_bytes, fixed_form-header_bytes}
use Rattle.headers.proofs.ChecksumLaws.{ip_checksum_of-header_bytes, ip_checksum-lt}
use Rattle.links.specs.Fh.{ip_field, fh_bytes, fields_form, checksum_right, fh_judged, fh_of}

---- what is told by a full header that is judged good

pub record FhGood (k : ℕ) (s : List ℕ) : Type 0 where
  pub whole : size_with (count_at s 28) ≤ length s
  pub context : byte_at s 3 < k
  pub form : fixed_form s ≡ true

module _ (k : ℕ) (s : List ℕ) where
  and_first : (a b c : Bool) → not (a && b && c) ≡ false → a ≡ true
  and_first true b c e = refl
  and_first false b c e = sym e

  judged-by : (a b c d : Bool) → leb k (byte_at s 3) ≡ b → not (fixed_form s && fields_form s && checksum_right s) ≡ c
      → ltb (length s) (size_with (count_at s 28)) ≡ d
      → cond a cut (cond b no_such_context (cond c forbidden (cond d cut 0))) ≡ 0 → FhGood k s
  judged-by true b c d f g h e = absurd (omega arith)
  judged-by false true c d f g h e = absurd (omega arith)
  judged-by false false true d f g h e = absurd (omega arith)
  judged-by false false false true f g h e = absurd (omega arith)
  judged-by false false false false f g h e = record {
    whole = ltb-false _ _ h;
    context = leb-false _ _ f;
    form = and_first (fixed_form s) (fields_form s) (checksum_right s) g;
  }

  pub fh_judged-good : fh_judged k s ≡ 0 → FhGood k s
  unfolding fh_judged
  fh_judged-good e =
      judged-by (ltb (length s) 40) (leb k (byte_at s 3)) (not (fixed_form s && fields_form s && checksum_right s))
      (ltb (length s) (size_with (count_at s 28))) refl refl refl e

---- what it says, whatever the bytes

module _ (s : List ℕ) where
  pub fh_of-start : (fh_of s).start ≡ header_size (fh_of s).header
  unfolding fh_of
  fh_of-start = refl

  pub fh_of-within : (k : ℕ) → fh_judged k s ≡ 0 → (fh_of s).start ≤ length s
  unfolding fh_of
  fh_of-within k e = rw (header_size-header_of s) (fh_judged-good k s e).whole

  pub fh_of-context : (k : ℕ) → fh_judged k s ≡ 0 → (fh_of s).context < k
  unfolding fh_of
  fh_of-context k e = (fh_judged-good k s e).context

  pub fh_of-generation : (fh_of s).generation < 64
  unfolding fh_of
  fh_of-generation = omega arith

  pub fh_of-link : (fh_of s).link < 16
  unfolding fh_of
  fh_of-link = omega arith

  pub fh_of-range : AllBytes s → HeaderInRange (fh_of s).header
  unfolding fh_of
  fh_of-range a = header_of-range a

---- fh_bytes

-- what a full header may say, where there are k contexts
pub record FhFits (k context generation link : ℕ) (h : Header) : Type 0 where
  pub few : k ≤ 256
  pub known : context < k
  pub young : generation < 64
  pub small : link < 16
  pub range : HeaderInRange h

module _ (k context generation link total : ℕ) (h : Header) (fits : FhFits k context generation link h) where
  pub length-fh_bytes : length (fh_bytes context generation link total h) ≡ header_size h
  unfolding fh_bytes
  length-fh_bytes = length-header_bytes (ip_field context generation) link (ip_checksum h total) h fits.range

  pub AllBytes-fh_bytes : AllBytes (fh_bytes context generation link total h)
  unfolding fh_bytes
  AllBytes-fh_bytes = AllBytes-header_bytes (ip_field context generation) link (ip_checksum h total) h fits.range

  module _ (rest : List ℕ) where
    abbrev packet : List ℕ
    packet = fh_bytes context generation link total h ++ rest

    high_byte : byte_at packet 2 ≡ 64 + generation
    unfolding fh_bytes header_bytes ip_front
    high_byte = omega (arith, fits.known, fits.few, fits.young)

    context-byte : byte_at packet 3 ≡ context
    unfolding fh_bytes header_bytes ip_front
    context-byte = omega (arith, fits.known, fits.few, fits.young)

    link-word : word_at packet 24 ≡ link
    unfolding fh_bytes
    link-word =
        udp_length-header_bytes (ip_field context generation) link (ip_checksum h total) h rest fits.range
        (omega (arith, fits.small))

    link-byte : byte_at packet 25 ≡ link
    unfolding fh_bytes header_bytes ip_front ip_back udp_bytes
    link-byte = omega (arith, fits.small)

    count-byte : count_at packet 28 ≡ h.csrc.count
    unfolding fh_bytes
    count-byte = count_at-header_bytes (ip_field context generation) link (ip_checksum h total) h rest fits.range

    fixed-holds : fixed_form packet ≡ true
    unfolding fh_bytes
    fixed-holds = fixed_form-header_bytes (ip_field context generation) link (ip_checksum h total) h rest fits.range

    fields-hold : fields_form packet ≡ true
    unfolding fields_form
    fields-hold =
        let q : (64 + generation) / 64 ≡ 1 = omega (arith, fits.young) in
        let z : link / 16 ≡ 0 = omega (arith, fits.small) in
        rw (high_byte, link-word, q, z)

    checksum-word : word_at packet 10 ≡ ip_checksum h total
    unfolding fh_bytes
    checksum-word =
        ip_checksum-header_bytes (ip_field context generation) link (ip_checksum h total) h rest fits.range (ip_checksum-lt h total)

    checksum-worked : ip_checksum_of packet total ≡ ip_checksum h total
    unfolding fh_bytes
    checksum-worked = ip_checksum_of-header_bytes (ip_field context generation) link (ip_checksum h total) h rest total fits.range

    header-back : header_of packet ≡ h
    unfolding fh_bytes
    header-back = header_of-header_bytes (ip_field context generation) link (ip_checksum h total) h rest fits.range

    generation-back : byte_at packet 2 % 64 ≡ generation
    generation-back = rw high_byte (omega (arith, fits.young))

    link-back : byte_at packet 25 % 16 ≡ link
    link-back = rw link-byte (omega (arith, fits.small))

    checksum-holds : total ≡ length packet → checksum_right packet ≡ true
    checksum-holds e = rw (← e) (eq-eqb _ _ (checksum-word ∙ sym checksum-worked))

    -- a full header, followed by anything that makes up its packet, is judged good
    pub fh_judged-fh_bytes : total ≡ length packet → fh_judged k packet ≡ 0
    unfolding fh_judged
    fh_judged-fh_bytes e =
        let n = length-append (fh_bytes context generation link total h) rest in
        let m = length-fh_bytes in
        rw (
          le-ltb (length packet) 40 (omega arith),
          context-byte,
          lt-leb k context fits.known,
          fixed-holds,
          fields-hold,
          checksum-holds e,
          count-byte,
          le-ltb (length packet) (header_size h) (omega arith),
        )

    -- and read back
    pub fh_of-fh_bytes : fh_of packet
        ≡ record { header = h; context = context; generation = generation; link = link; start = header_size h }
    unfolding fh_of
    fh_of-fh_bytes = λ i. record {
      header = header-back i;
      context = context-byte i;
      generation = generation-back i;
      link = link-back i;
      start = header_size (header-back i);
    }
