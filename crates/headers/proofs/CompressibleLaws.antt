-- Iarwennol. What the tests of a packet's form tell of it. Assume nothing.
-- Used by the round trip of a compressible packet, and by the crates above for what they need of one.
use Rattle.std.specs.Prelude.{ℕ, ◌+◌, ◌-◌, ◌*◌, ◌/◌, ◌%◌, ◌≤◌, ◌≡◌, List, eqb, leb, length}
use Rattle.std.proofs.Math.Path.{refl}
use Rattle.std.proofs.Math.Bool.{true}
use Rattle.std.proofs.Common.{arith}
use borrow.Author.Tests.{eqb-true, leb-true, eq-eqb}
use Rattle.codes.specs.Reading.{byte_at, word_at}
use Rattle.headers.specs.Header.{header_of, size_with, header_size, rtp_at, count_at}
use Rattle.packet.proofs.Chain.{all-of-eight}
use Rattle.headers.specs.Checksum.{ip_checksum_of}
use Rattle.headers.specs.Compressible.{fixed_form, compressible}

---- fixed_form

pub record FixedForm (p : List ℕ) : Type 0 where
  pub first : byte_at p 0 ≡ 0x45
  pub whole : word_at p 6 % 0x4000 ≡ 0
  pub protocol : byte_at p 9 ≡ 17
  pub version : byte_at p 28 / 64 ≡ 2

module _ (p : List ℕ) where
  pub fixed_form-true : fixed_form p ≡ true → FixedForm p
  unfolding fixed_form
  fixed_form-true e =
      let t = all-of-eight true true true true
      (eqb (byte_at p 0) 0x45) (eqb (word_at p 6 % 0x4000) 0) (eqb (byte_at p 9) 17) (eqb (byte_at p 28 / 64) 2) e in
      record {
        first = eqb-true (byte_at p 0) 0x45 t.4;
        whole = eqb-true (word_at p 6 % 0x4000) 0 t.5;
        protocol = eqb-true (byte_at p 9) 17 t.6;
        version = eqb-true (byte_at p 28 / 64) 2 t.7;
      }

  pub fixed_form-holds : FixedForm p → fixed_form p ≡ true
  unfolding fixed_form
  fixed_form-holds f =
      rw (
        eq-eqb (byte_at p 0) 0x45 f.first,
        eq-eqb (word_at p 6 % 0x4000) 0 f.whole,
        eq-eqb (byte_at p 9) 17 f.protocol,
        eq-eqb (byte_at p 28 / 64) 2 f.version,
      )

---- compressible

pub record Compressible (p : List ℕ) : Type 0 where
  pub enough : 40 ≤ length p
  pub form : fixed_form p ≡ true
  pub total : word_at p 2 ≡ length p
  pub checksum : word_at p 10 ≡ ip_checksum_of p (word_at p 2)
  pub udp : word_at p 24 + 20 ≡ word_at p 2
  pub even : word_at p 22 % 2 ≡ 0
  pub list : 12 + 4 * count_at p 28 ≤ length p - 28

module _ (p : List ℕ) where
  pub compressible-true : compressible p ≡ true → Compressible p
  unfolding compressible
  compressible-true e =
      let t = all-of-eight true
      (leb 40 (length p))
      (fixed_form p)
      (eqb (word_at p 2) (length p))
      (eqb (word_at p 10) (ip_checksum_of p (word_at p 2)))
      (eqb (word_at p 24 + 20) (word_at p 2))
      (eqb (word_at p 22 % 2) 0)
      (leb (12 + 4 * count_at p 28) (length p - 28)) e in
      record {
        enough = leb-true 40 (length p) t.1;
        form = t.2;
        total = eqb-true (word_at p 2) (length p) t.3;
        checksum = eqb-true (word_at p 10) (ip_checksum_of p (word_at p 2)) t.4;
        udp = eqb-true (word_at p 24 + 20) (word_at p 2) t.5;
        even = eqb-true (word_at p 22 % 2) 0 t.6;
        list = leb-true (12 + 4 * count_at p 28) (length p - 28) t.7;
      }

  pub header_size-header_of : header_size (header_of p) ≡ size_with (count_at p 28)
  unfolding header_of rtp_at
  header_size-header_of = refl

  -- the whole header stands in the packet
  pub compressible-size : compressible p ≡ true → header_size (header_of p) ≤ length p
  compressible-size e = let c = compressible-true e in rw header_size-header_of (omega arith)
