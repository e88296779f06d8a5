-- Iarwennol. Laws of a saved header: what was written is read back, and what was read is written back. Assume nothing.
-- Used by the laws of a record.
use Rattle.std.specs.Prelude.{ℕ, ◌+◌, ◌≤◌, ◌≡◌, Bool, true, false, cond, ◌||◌, eqb, length, take, drop}
use Rattle.std.proofs.Math.Path.{refl, ap}
use Rattle.std.proofs.Common.{sym, ◌∙◌, arith, length-append, length-drop, drop_of_length-le, length-take-le}
use Rattle.std.proofs.lemmas.Bool.{false≢true}
use mathlib.Core.List.{List, [], ◌++◌, append-nil}
use borrow.Author.Tests.{eqb-true, eq-eqb, ne_eqb, le-leb, leb-true}
use Rattle.std.proofs.Math.Seq.{take-append_seam}
use Rattle.codes.specs.Bytes.{AllBytes}
use Rattle.codes.specs.Numbers.{cut, forbidden}
use Rattle.codes.specs.Reading.{has, word_at}
use Rattle.codes.proofs.RoundTrip.{left-length}
use Rattle.codes.proofs.BytesRead.{AllBytes-take, AllBytes-drop}
use Rattle.packet.proofs.Chain.{all-of-eight}
use Rattle.packet.specs.Refusal.{is_accepted}
use Rattle.packet.specs.Ranges.{HeaderInRange}
use Rattle.packet.specs.declared.header.Header.{Header}
use Rattle.headers.specs.Header.{count_at, rtp_at, header_of, header_bytes, size_with, header_size}
use Rattle.headers.specs.Compressible.{fixed_form}
use Rattle.headers.proofs.HeaderLaws.{count_at-header_bytes, header_of-header_bytes, ip_length-header_bytes}
use Rattle.headers.proofs.HeaderLaws.{udp_length-header_bytes}
use Rattle.headers.proofs.HeaderLaws.{ip_checksum-header_bytes, fixed_form-header_bytes, length-header_bytes, header_of-range}
use Rattle.headers.proofs.HeaderLaws.{header_bytes-header_of}
use Rattle.fields.specs.Place.{good, stopped}
use Rattle.saves.specs.declared.read.GotHeader.{GotHeader}
use Rattle.saves.specs.Saves.{kept_bytes, kept_form, no_header, formed_header, header_from}

-- rule 14.3: what may stand in the UDP checksum's place
abbrev pub marked : ℕ → Bool
marked v = eqb v 0 || eqb v 0xFFFF

---- written and read

module _ (h : Header) (r : HeaderInRange h) (m : marked h.checksum ≡ true) where
  -- the law of a header's bytes is about what comes after them too; here nothing does
  abbrev bytes : List ℕ
  bytes = kept_bytes h ++ []

  checksum-bytes : word_at bytes 26 ≡ h.checksum
  unfolding header_of
  checksum-bytes = ap (λ (x : Header). x.checksum) (header_of-header_bytes 0 0 0 h [] r)

  form-bytes : kept_form (header_size h) bytes ≡ true
  unfolding kept_form
  form-bytes =
      rw (
        fixed_form-header_bytes 0 0 0 h [] r,
        ip_length-header_bytes 0 0 0 h [] r (omega arith),
        ip_checksum-header_bytes 0 0 0 h [] r (omega arith),
        udp_length-header_bytes 0 0 0 h [] r (omega arith),
        checksum-bytes,
        m,
        count_at-header_bytes 0 0 0 h [] r,
        eq-eqb (header_size h) (header_size h) refl,
      )

  pub kept_form-bytes : kept_form (header_size h) (kept_bytes h) ≡ true
  kept_form-bytes = ap (kept_form (header_size h)) (sym (append-nil (kept_bytes h))) ∙ form-bytes

  header-bytes : header_of (kept_bytes h) ≡ h
  header-bytes = ap header_of (sym (append-nil (kept_bytes h))) ∙ header_of-header_bytes 0 0 0 h [] r

  formed-bytes : (at : ℕ) → formed_header at (header_size h) (kept_bytes h)
      ≡ record { place = good (at + header_size h); header = h }
  formed-bytes at = rw (kept_form-bytes, header-bytes)

  module _ (s : List ℕ) (at : ℕ) (l : List ℕ) (e : drop at s ≡ kept_bytes h ++ l) where
    there : at + header_size h ≤ length s
    there =
        let n = left-length s at (kept_bytes h ++ l) e
        (omega (arith, length-append (kept_bytes h) l, length-header_bytes 0 0 0 h r)) in
        omega (arith, length-append (kept_bytes h) l, length-header_bytes 0 0 0 h r)

    part : take (header_size h) (drop at s) ≡ kept_bytes h
    part = rw (e, ← length-header_bytes 0 0 0 h r) (take-append_seam (kept_bytes h) l)

    -- a header that was saved is read back
    pub header_from-bytes : header_from s (good at) (header_size h) ≡ record { place = good (at + header_size h); header = h }
    unfolding header_from
    header_from-bytes =
        rw (ne_eqb (header_size h) 0 (λ z. omega arith), le-leb (at + header_size h) (length s) there, part) (formed-bytes at)

---- read and written

pub record KeptForm (n : ℕ) (p : List ℕ) : Type 0 where
  pub form : fixed_form p ≡ true
  pub ip_length : word_at p 2 ≡ 0
  pub ip_checksum : word_at p 10 ≡ 0
  pub udp_length : word_at p 24 ≡ 0
  pub checksum : marked (word_at p 26) ≡ true
  pub size : size_with (count_at p 28) ≡ n

pub kept_form-true : (size : ℕ) (p : List ℕ) → kept_form size p ≡ true → KeptForm size p
unfolding kept_form
kept_form-true size p e =
    let t = all-of-eight true true (fixed_form p) (eqb (word_at p 2) 0) (eqb (word_at p 10) 0) (eqb (word_at p 24) 0)
    (marked (word_at p 26)) (eqb (size_with (count_at p 28)) size) e in
    record {
      form = t.2;
      ip_length = eqb-true (word_at p 2) 0 t.3;
      ip_checksum = eqb-true (word_at p 10) 0 t.4;
      udp_length = eqb-true (word_at p 24) 0 t.5;
      checksum = t.6;
      size = eqb-true (size_with (count_at p 28)) size t.7;
    }

-- what is read of a header that stands in some bytes, all of them
pub record GoodHeader (p : List ℕ) (h : Header) : Type 0 where
  pub range : HeaderInRange h
  pub marks : marked h.checksum ≡ true
  pub size : header_size h ≡ length p
  pub back : kept_bytes h ≡ p

module _ {p : List ℕ} (a : AllBytes p) (f : KeptForm (length p) p) where
  size-header_of : header_size (header_of p) ≡ length p
  unfolding header_of rtp_at
  size-header_of = f.size

  marks-header_of : marked (header_of p).checksum ≡ true
  unfolding header_of
  marks-header_of = f.checksum

  nothing_left : drop (header_size (header_of p)) p ≡ []
  nothing_left = drop_of_length-le p {i = header_size (header_of p)} (omega (arith, size-header_of))

  bytes-header_of : kept_bytes (header_of p) ≡ p
  bytes-header_of =
      sym (append-nil (kept_bytes (header_of p)))
      ∙ sym (λ i. header_bytes (f.ip_length i) (f.udp_length i) (f.ip_checksum i) (header_of p) ++ nothing_left i)
      ∙ header_bytes-header_of a f.form (omega (arith, size-header_of))

  pub good-header_of : GoodHeader p (header_of p)
  good-header_of =
      record { range = header_of-range a; marks = marks-header_of; size = size-header_of; back = bytes-header_of }

-- a header that was accepted: all its bytes are there, and it is one that a save writes
pub record HeaderRead (s : List ℕ) (at n : ℕ) (g : GotHeader) : Type 0 where
  pub there : at + n ≤ length s
  pub place : g.place ≡ good (at + n)
  pub header : GoodHeader (take n (drop at s)) g.header

module _ {s : List ℕ} (a : AllBytes s) (at n : ℕ) where
  abbrev field : List ℕ
  field = take n (drop at s)

  length-field : at + n ≤ length s → length field ≡ n
  length-field h = length-take-le n (drop at s) (omega (arith, length-drop at s))

  good-field : at + n ≤ length s → kept_form n field ≡ true → GoodHeader field (header_of field)
  good-field h e =
      good-header_of (AllBytes-take n (AllBytes-drop at a))
      (kept_form-true (length field) field (ap (λ (k : ℕ). kept_form k field) (length-field h) ∙ e))

  -- formed_header and header_field, by the test that they make
  abbrev formed_by : Bool → GotHeader
  formed_by b = cond b (record { place = good (at + n); header = header_of field })
      (record { place = stopped at forbidden; header = no_header })

  abbrev field_by : Bool → GotHeader
  field_by b = cond b (formed_header at n field) (record { place = stopped at cut; header = no_header })

  formed-read : (b : Bool) → at + n ≤ length s → kept_form n field ≡ b → is_accepted (formed_by b).place.verdict ≡ true
      → HeaderRead s at n (formed_by b)
  formed-read true h e x = record { there = h; place = refl; header = good-field h e }
  formed-read false h e x = absurd (false≢true x)

  field-read : (b : Bool) → has s at n ≡ b → is_accepted (field_by b).place.verdict ≡ true → HeaderRead s at n (field_by b)
  field-read true e x = formed-read (kept_form n field) (leb-true (at + n) (length s) e) refl x
  field-read false e x = absurd (false≢true x)

  pub header_from-read : 1 ≤ n → is_accepted (header_from s (good at) n).place.verdict ≡ true
      → HeaderRead s at n (header_from s (good at) n)
  unfolding header_from
  header_from-read h = rw (ne_eqb n 0 (λ z. omega arith)) (field-read (has s at n) refl)
