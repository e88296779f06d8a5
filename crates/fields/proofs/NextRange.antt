-- Iarwennol. What a step can give, whatever the bytes: a reading never stands past the end, and its values are in range. Assumes
-- nothing.
-- Used by the ranges of what the link layouts' readers give (links).
use Prim.Native.Nat.{ℕ, zero, suc, ◌+◌, ◌-◌, ◌/◌, ◌%◌, ◌^◌, ◌≤◌, ◌<◌}
use mathlib.Core.Path.{◌≡◌, refl}
use mathlib.Core.Bool.{Bool, true, false, cond, ◌&&◌, and-eq-true_iff, or-true}
use mathlib.Core.List.{List, [], ◌∷◌}
use native.Mathlib.Numerals.{add-one}
use native.Mathlib.Omega.{arith}
use borrow.Author.Tests.{lt-ltb, le-leb, ltb-true, leb-true}
use lib.Dec.{eqb, leb, ltb}
use lib.ListN.{length, get_or, set, drop, replicate, length-set}
use lib.Seq.{drop-set-lt}
use Rattle.codes.specs.Bytes.{AllBytes}
use Rattle.codes.specs.Code.{Row, rows, among}
use Rattle.codes.specs.Difference.{has_code}
use Rattle.codes.specs.Reading.{Reading, accepted, refused, has, byte_at, word_at, long_at, triple_at, field_at, read_byte}
use Rattle.codes.specs.Reading.{read_word}
use Rattle.codes.specs.Reading.{read_long, read_delta, read_by, value_in, code_at}
use Rattle.codes.proofs.RoundTrip.{left_after}
use Rattle.codes.proofs.BytesRead.{AllBytes-byte_at}
use Rattle.packet.specs.Ranges.{ListSound, ListInRange, Sendable}
use Rattle.packet.specs.RangesLaws.{zero-words}
use Rattle.fields.specs.declared.place.Place.{Place}
use Rattle.packet.specs.Refusal.{is_accepted}
use Rattle.std.specs.Prelude.{IfSome, Option, Some, None}
use Rattle.std.proofs.Common.{pow_pos}
use Rattle.fields.specs.declared.place.Got.{Got}
use Rattle.fields.specs.Place.{passed, or_zero}
use Rattle.fields.specs.Next.{next, next_as, taken, formed, read_payload, read_version, next_byte, next_word, next_long}
use Rattle.fields.specs.Next.{next_delta16}
use Rattle.fields.specs.Next.{next_delta32, next_payload, next_version, next_list}

---- next: what holds of every answer of the reader holds of the step

module _ (read : ℕ → Reading) (p : Place) (w : Bool) where
  abbrev taken_at : Got ℕ
  taken_at = taken (λ v. v) p.cursor.at (read p.cursor.at)

  taken-within : (n at : ℕ) (r : Reading) (b : Bool) → r.at ≤ n → at ≤ n → eqb r.number 0 ≡ b
      → (taken {A = ℕ} (λ v. v) at r).place.cursor.at ≤ n
  taken-within n at r true h k e = rw e h
  taken-within n at r false h k e = rw e k

  pub next-within : (n : ℕ) → ((at : ℕ) → (read at).at ≤ n) → p.cursor.at ≤ n → (next read p w).place.cursor.at ≤ n
  unfolding next_as
  next-within n h k = by (is_accepted p.verdict && w) refl
    where
      by : (b : Bool) → (is_accepted p.verdict && w) ≡ b → (cond b taken_at (passed p)).place.cursor.at ≤ n
      by true e = taken-within n p.cursor.at (read p.cursor.at) _ (h p.cursor.at) k refl
      by false e = k

  taken-field : (Q : ℕ → Type 0) (at : ℕ) (r : Reading) (b : Bool) → Q r.value → eqb r.number 0 ≡ b
      → IfSome (taken {A = ℕ} (λ v. v) at r).field Q
  taken-field Q at r true h e = rw e h
  taken-field Q at r false h e = rw e tt

  pub next-field : (Q : ℕ → Type 0) → ((at : ℕ) → Q (read at).value) → IfSome (next read p w).field Q
  unfolding next_as
  next-field Q h = by (is_accepted p.verdict && w) refl
    where
      by : (b : Bool) → (is_accepted p.verdict && w) ≡ b → IfSome (cond b taken_at (passed p)).field Q
      by true e = taken-field Q p.cursor.at (read p.cursor.at) _ (h p.cursor.at) refl
      by false e = tt

  -- what holds of 0 and of every value that is read
  pub next-value : (Q : ℕ → Type 0) → Q 0 → ((at : ℕ) → Q (read at).value) → Q (or_zero (next read p w).field)
  next-value Q z h = by (next read p w).field (next-field Q h)
    where
      by : (o : Option ℕ) → IfSome o Q → Q (or_zero o)
      by (Some v) q = q
      by None q = z

module _ (read : ℕ → Reading) (p : Place) where
  unwanted : (b : Bool) → 0 ≡ or_zero (cond (b && false) (taken (λ v. v) p.cursor.at (read p.cursor.at)) (passed p)).field
  unwanted true = refl
  unwanted false = refl

  blank : (w : Bool) → cond w (or_zero (next read p w).field) 0 ≡ or_zero (next read p w).field
  unfolding next_as
  blank true = refl
  blank false = unwanted (is_accepted p.verdict)

  -- the number of a field, as one that is carried where it was wanted
  pub next-wanted : (w : Bool) (n : ℕ) → ((at : ℕ) → (read at).value < 2 ^ n) → Sendable n w (or_zero (next read p w).field)
  next-wanted w n h = record { fits = next-value read p w (λ x. x < 2 ^ n) (pow_pos n) h; blank = blank w }

---- the readers: never past the end

module _ (s : List ℕ) where
  -- one of two answers
  chosen-within : (b : Bool) (x y : Reading) → (b ≡ true → x.at ≤ length s) → y.at ≤ length s → (cond b x y).at ≤ length s
  chosen-within true x y h k = h refl
  chosen-within false x y h k = k

  field_at-within : (at n v : ℕ) → (field_at s at n v).at ≤ length s
  field_at-within at n v = chosen-within (has s at n) (accepted v (at + n)) (refused 4) (λ e. leb-true (at + n) (length s) e)
      (omega arith)

  pub read_byte-within : (at : ℕ) → (read_byte s at).at ≤ length s
  unfolding read_byte
  read_byte-within at = field_at-within at 1 (byte_at s at)

  pub read_word-within : (at : ℕ) → (read_word s at).at ≤ length s
  unfolding read_word
  read_word-within at = field_at-within at 2 (word_at s at)

  pub read_long-within : (at : ℕ) → (read_long s at).at ≤ length s
  unfolding read_long
  read_long-within at = field_at-within at 4 (long_at s at)

  value_in-within : (rs : List Row) (m size c past : ℕ) → past ≤ length s → (value_in rs m size c past).at ≤ length s
  value_in-within [] m size c past h = omega arith
  value_in-within (r ∷ rs) m size c past h =
      chosen-within (eqb r.size size && among r.code r.count c) _ _ (λ e. h) (value_in-within rs m size c past h)

  code_at-within : (m at size c : ℕ) → (code_at m s at size c).at ≤ length s
  code_at-within m at size c =
      chosen-within (has s at size) (value_in (rows m) m size c (at + size)) (refused 4)
      (λ e. value_in-within (rows m) m size c (at + size) (leb-true (at + size) (length s) e)) (omega arith)

  read_by-within : (m at : ℕ) → (read_by m s at).at ≤ length s
  unfolding read_by
  read_by-within m at =
      chosen-within (ltb (byte_at s at) 0x80) _ _ (λ e. code_at-within m at 1 (byte_at s at)) (
      chosen-within (ltb (byte_at s at) 0xC0) _ _ (λ e. code_at-within m at 2 (word_at s at))
      (code_at-within m at 3 (triple_at s at))
      )

  pub read_delta-within : (w at : ℕ) → (read_delta w s at).at ≤ length s
  read_delta-within w at = read_by-within (2 ^ w) at

  formed-within : (ok : ℕ → Bool) (r : Reading) → r.at ≤ length s → (formed ok r).at ≤ length s
  formed-within ok r h =
      chosen-within (eqb r.number 0) (cond (ok r.value) r (refused 5)) r
      (λ e. chosen-within (ok r.value) r (refused 5) (λ f. h) (omega arith)) h

  pub read_payload-within : (at : ℕ) → (read_payload s at).at ≤ length s
  unfolding read_payload
  read_payload-within at = formed-within (λ v. ltb v 128) (read_byte s at) (read_byte-within at)

  pub read_version-within : (at : ℕ) → (read_version s at).at ≤ length s
  unfolding read_version
  read_version-within at =
      chosen-within (has s at 12) _ (refused 4) (λ e. formed-within (λ v. eqb (v / 64) 2) (read_byte s at) (read_byte-within at))
      (omega arith)

---- the readers: values in range

-- a fact of 0 that holds of one of two answers
chosen-value : (Q : ℕ → Type 0) (b : Bool) (x y : Reading) → (b ≡ true → Q x.value) → Q y.value → Q (cond b x y).value
chosen-value Q true x y h k = h refl
chosen-value Q false x y h k = k

-- a fact of every difference of every row
abbrev OfRows : (ℕ → Type 0) → (m : ℕ) → List Row → Type 0
OfRows Q m [] = ℕ
OfRows Q m (r ∷ rs) = ((k : ℕ) → k < r.count → Q ((r.first + k) % m)) × OfRows Q m rs

row-offset : (b : Bool) (first count c : ℕ) → (b && among first count c) ≡ true → c - first < count
row-offset b first count c e =
    let i = ((and-eq-true_iff b (among first count c)).0 e).1 in
    let h = (and-eq-true_iff (leb first c) (ltb c (first + count))).0 i in
    let l = leb-true first c h.0 in
    let u = ltb-true c (first + count) h.1 in
    omega arith

module _ (m : ℕ) (s : List ℕ) (Q : ℕ → Type 0) (zero-holds : Q 0) where
  value_in-value : (rs : List Row) (size c past : ℕ) → OfRows Q m rs → Q (value_in rs m size c past).value
  value_in-value [] size c past h = zero-holds
  value_in-value (r ∷ rs) size c past h =
      chosen-value Q (eqb r.size size && among r.code r.count c) _ _
      (λ e. h.0 (c - r.code) (row-offset (eqb r.size size) r.code r.count c e)) (value_in-value rs size c past h.1)

  code_at-value : (at size c : ℕ) → OfRows Q m (rows m) → Q (code_at m s at size c).value
  code_at-value at size c h = chosen-value Q (has s at size) _ _ (λ e. value_in-value (rows m) size c (at + size) h) zero-holds

  read_by-value : (at : ℕ) → OfRows Q m (rows m) → Q (read_by m s at).value
  unfolding read_by
  read_by-value at h =
      chosen-value Q (ltb (byte_at s at) 0x80) _ _ (λ e. code_at-value at 1 (byte_at s at) h) (
      chosen-value Q (ltb (byte_at s at) 0xC0) _ _ (λ e. code_at-value at 2 (word_at s at) h)
      (code_at-value at 3 (triple_at s at) h)
      )

-- a difference lies within its field
pub read_delta16-value : (s : List ℕ) (at : ℕ) → (read_delta 16 s at).value < 2 ^ 16
read_delta16-value s at = read_by-value (2 ^ 16) s (λ x. x < 2 ^ 16) (omega arith) at
    (λ k h. omega arith, (λ k h. omega arith, (λ k h. omega arith, (λ k h. omega arith, (λ k h. omega arith, 0)))))

pub read_delta32-value : (s : List ℕ) (at : ℕ) → (read_delta 32 s at).value < 2 ^ 32
read_delta32-value s at = read_by-value (2 ^ 32) s (λ x. x < 2 ^ 32) (omega arith) at
    (λ k h. omega arith, (λ k h. omega arith, (λ k h. omega arith, (λ k h. omega arith, (λ k h. omega arith, 0)))))

-- rule 4.3: a difference of 32 bits that was read has a code
has_code-low : (d : ℕ) → d < 4194304 → has_code 32 d ≡ true
unfolding has_code
has_code-low d h = rw (lt-ltb d 4194304 h)

has_code-high : (d : ℕ) → 2 ^ 32 - 16384 ≤ d → has_code 32 d ≡ true
unfolding has_code
has_code-high d h = rw (le-leb (2 ^ 32 - 16384) d h) (or-true (ltb d 4194304))

pub read_delta32-coded : (s : List ℕ) (at : ℕ) → has_code 32 (read_delta 32 s at).value ≡ true
read_delta32-coded s at = read_by-value (2 ^ 32) s (λ x. has_code 32 x ≡ true) (has_code-low 0 (omega arith)) at (
  λ k h. has_code-low _ (omega arith),
  (
    λ k h. has_code-high _ (omega arith),
    (λ k h. has_code-low _ (omega arith), (λ k h. has_code-high _ (omega arith), (λ k h. has_code-low _ (omega arith), 0))),
  ),
)

formed-value : (ok : ℕ → Bool) (r : Reading) (Q : ℕ → Type 0) → Q 0 → Q r.value → Q (formed ok r).value
formed-value ok r Q z h = chosen-value Q (eqb r.number 0) (cond (ok r.value) r (refused 5)) r
    (λ e. chosen-value Q (ok r.value) r (refused 5) (λ f. h) z) h

-- rule 6.3: a payload type has seven bits
module _ (s : List ℕ) where
  payload-accepted : (at : ℕ) (b : Bool) → has s at 1 ≡ b
      → (formed (λ v. ltb v 128) (cond b (accepted (byte_at s at) (at + 1)) (refused 4))).value < 128
  payload-accepted at true e = chosen-value (λ x. x < 128) (ltb (byte_at s at) 128) _ _ (λ f. ltb-true _ _ f) (omega arith)
  payload-accepted at false e = omega arith

  pub read_payload-value : (at : ℕ) → (read_payload s at).value < 128
  unfolding read_payload read_byte
  read_payload-value at = payload-accepted at (has s at 1) refl

-- where the bytes are bytes
module _ (s : List ℕ) (all : AllBytes s) where
  pub byte_at-value : (at : ℕ) → byte_at s at < 256
  byte_at-value at = AllBytes-byte_at all at

  field_at-value : (at n v m : ℕ) → 0 < m → v < m → (field_at s at n v).value < m
  field_at-value at n v m z h = chosen-value (λ x. x < m) (has s at n) (accepted v (at + n)) (refused 4) (λ e. h) z

  pub read_byte-value : (at : ℕ) → (read_byte s at).value < 256
  unfolding read_byte
  read_byte-value at = field_at-value at 1 (byte_at s at) 256 (omega arith) (byte_at-value at)

  pub read_word-value : (at : ℕ) → (read_word s at).value < 2 ^ 16
  unfolding read_word
  read_word-value at =
      let a = byte_at-value at in
      let b = byte_at-value (at + 1) in
      field_at-value at 2 (word_at s at) (2 ^ 16) (omega arith) (omega arith)

  pub read_long-value : (at : ℕ) → (read_long s at).value < 2 ^ 32
  unfolding read_long
  read_long-value at =
      let a = byte_at-value at in
      let b = byte_at-value (at + 1) in
      let c = byte_at-value (at + 2) in
      let d = byte_at-value (at + 3) in
      field_at-value at 4 (long_at s at) (2 ^ 32) (omega arith) (omega arith)

---- the steps

module _ (s : List ℕ) (p : Place) (within : p.cursor.at ≤ length s) where
  pub next_byte-within : (w : Bool) → (next_byte s p w).place.cursor.at ≤ length s
  unfolding next_byte
  next_byte-within w = next-within (read_byte s) p w (length s) (read_byte-within s) within

  pub next_word-within : (w : Bool) → (next_word s p w).place.cursor.at ≤ length s
  unfolding next_word
  next_word-within w = next-within (read_word s) p w (length s) (read_word-within s) within

  pub next_long-within : (w : Bool) → (next_long s p w).place.cursor.at ≤ length s
  unfolding next_long
  next_long-within w = next-within (read_long s) p w (length s) (read_long-within s) within

  pub next_delta16-within : (w : Bool) → (next_delta16 s p w).place.cursor.at ≤ length s
  unfolding next_delta16
  next_delta16-within w = next-within (read_delta 16 s) p w (length s) (read_delta-within s 16) within

  pub next_delta32-within : (w : Bool) → (next_delta32 s p w).place.cursor.at ≤ length s
  unfolding next_delta32
  next_delta32-within w = next-within (read_delta 32 s) p w (length s) (read_delta-within s 32) within

  pub next_payload-within : (w : Bool) → (next_payload s p w).place.cursor.at ≤ length s
  unfolding next_payload
  next_payload-within w = next-within (read_payload s) p w (length s) (read_payload-within s) within

  pub next_version-within : (next_version s p).place.cursor.at ≤ length s
  unfolding next_version
  next_version-within = next-within (read_version s) p true (length s) (read_version-within s) within

module _ (s : List ℕ) (p : Place) (w : Bool) where
  pub next_delta16-range : IfSome (next_delta16 s p w).field (λ v. v < 2 ^ 16)
  unfolding next_delta16
  next_delta16-range = next-field (read_delta 16 s) p w (λ v. v < 2 ^ 16) (read_delta16-value s)

  pub next_delta32-range : IfSome (next_delta32 s p w).field (λ v. v < 2 ^ 32)
  unfolding next_delta32
  next_delta32-range = next-field (read_delta 32 s) p w (λ v. v < 2 ^ 32) (read_delta32-value s)

  pub next_delta32-coded : IfSome (next_delta32 s p w).field (λ v. has_code 32 v ≡ true)
  unfolding next_delta32
  next_delta32-coded = next-field (read_delta 32 s) p w (λ v. has_code 32 v ≡ true) (read_delta32-coded s)

  pub next_payload-range : IfSome (next_payload s p w).field (λ v. v < 128)
  unfolding next_payload
  next_payload-range = next-field (read_payload s) p w (λ v. v < 128) (read_payload-value s)

module _ (s : List ℕ) (all : AllBytes s) (p : Place) (w : Bool) where
  pub next_byte-value : or_zero (next_byte s p w).field < 256
  unfolding next_byte
  next_byte-value = next-value (read_byte s) p w (λ x. x < 256) (omega arith) (read_byte-value s all)

  pub next_word-range : IfSome (next_word s p w).field (λ v. v < 2 ^ 16)
  unfolding next_word
  next_word-range = next-field (read_word s) p w (λ v. v < 2 ^ 16) (read_word-value s all)

  pub next_word-wanted : Sendable 16 w (or_zero (next_word s p w).field)
  unfolding next_word
  next_word-wanted = next-wanted (read_word s) p w 16 (read_word-value s all)

  pub next_long-range : IfSome (next_long s p w).field (λ v. v < 2 ^ 32)
  unfolding next_long
  next_long-range = next-field (read_long s) p w (λ v. v < 2 ^ 32) (read_long-value s all)

  next_long-value : or_zero (next_long s p w).field < 2 ^ 32
  unfolding next_long
  next_long-value = next-value (read_long s) p w (λ v. v < 2 ^ 32) (omega arith) (read_long-value s all)

---- the CSRC list

module _ (s : List ℕ) (p : Place) where
  pub next_list-count : (n : ℕ) → (next_list s p n).list.count ≡ n
  next_list-count zero = refl
  next_list-count (suc n) = rw (next_list-count n)

  pub next_list-within : p.cursor.at ≤ length s → (n : ℕ) → (next_list s p n).place.cursor.at ≤ length s
  next_list-within h zero = h
  next_list-within h (suc n) = next_long-within s (next_list s p n).place (next_list-within h n) true

  list-size : (n : ℕ) → length (next_list s p n).list.words ≡ 15
  list-size zero = refl
  list-size (suc n) = simp length-set (list-size n)

  -- one word more leaves one zero less
  blank-less : (ws : List ℕ) (n x : ℕ) → n < 15 → drop n ws ≡ replicate (15 - n) 0
      → drop (suc n) (set ws n x) ≡ replicate (15 - suc n) 0
  blank-less ws n x h e =
      let d = left_after ws n (replicate (15 - n) 0) e 1 in
      let z : 15 - n ≡ suc (15 - suc n) = omega arith in
      rw (drop-set-lt (suc n) ws n x (omega arith)) (rw (add-one, z) at d)

  list-blank : (n : ℕ) → n ≤ 15 → drop n (next_list s p n).list.words ≡ replicate (15 - n) 0
  list-blank zero h = refl
  list-blank (suc n) h =
      rw (next_list-count n) (blank-less (next_list s p n).list.words n (or_zero (next_long s (next_list s p n).place true).field)
      (omega arith) (list-blank n (omega arith)))

  pub next_list-sound : (n : ℕ) → n ≤ 15 → ListSound (next_list s p n).list
  next_list-sound n h = record {
    count = rw (next_list-count n) h;
    size = list-size n;
    blank = rw (next_list-count n) (list-blank n h);
  }

-- every word of a list stays within its bound when one is set
set-within : (ws : List ℕ) (n x m : ℕ) → x < m → ((i : ℕ) → get_or ws i 0 < m) → (i : ℕ) → get_or (set ws n x) i 0 < m
set-within [] n x m h k i = k i
set-within (w ∷ ws) zero x m h k zero = h
set-within (w ∷ ws) zero x m h k (suc i) = k (suc i)
set-within (w ∷ ws) (suc n) x m h k zero = k 0
set-within (w ∷ ws) (suc n) x m h k (suc i) = set-within ws n x m h (λ j. k (suc j)) i

module _ (s : List ℕ) (all : AllBytes s) (p : Place) where
  list-small : (n i : ℕ) → get_or (next_list s p n).list.words i 0 < 2 ^ 32
  list-small zero i = zero-words 15 i
  list-small (suc n) i =
      set-within (next_list s p n).list.words (next_list s p n).list.count
      (or_zero (next_long s (next_list s p n).place true).field)
      (2 ^ 32) (next_long-value s all (next_list s p n).place true) (list-small n) i

  pub next_list-range : (n : ℕ) → n ≤ 15 → ListInRange (next_list s p n).list
  next_list-range n h = let l = next_list-sound s p n h in
      record { count = l.count; size = l.size; each = list-small n; blank = l.blank }
