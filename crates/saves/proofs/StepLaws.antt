-- Iarwennol. Laws of the steps of a load: what was written is taken, and what was taken stands there. Assume nothing.
-- Used by the laws of a record and of a whole table.
use Rattle.std.specs.Prelude.{ℕ, ◌+◌, ◌≤◌, ◌≡◌, Bool, false, cond, not, ◌&&◌, List, ◌∷◌, leb, length, drop}
use Rattle.std.proofs.Math.Path.{refl}
use Rattle.std.proofs.Common.{sym, ◌∙◌, arith}
use Rattle.std.proofs.Math.Bool.{true}
use Rattle.std.proofs.lemmas.Bool.{false≢true}
use borrow.Author.Tests.{le-leb, leb-true}
use Rattle.codes.specs.Numbers.{cut, forbidden}
use Rattle.codes.specs.Reading.{Reading, accepted, refused, has, byte_at, word_at, long_at, field_at, read_byte, read_word}
use Rattle.codes.specs.Reading.{read_long}
use Rattle.packet.specs.Refusal.{is_accepted, verdict_of}
use Rattle.packet.specs.Refusal.{Verdict}
use Rattle.std.specs.Prelude.{Ok, Err}
use Rattle.fields.specs.declared.place.Place.{Place}
use Rattle.fields.specs.declared.place.Got.{Got}
use Rattle.fields.specs.Place.{passed, good, stopped, there, or_zero}
use Rattle.fields.specs.Next.{taken, next, next_as, next_byte, next_word, next_long}
use Rattle.fields.specs.NextLaws.{next_byte-written}
use Rattle.saves.specs.Saves.{checked, allowed, next_up_to}

-- a reading that was not refused so far
abbrev pub Goes : Place → Type 0
Goes p = is_accepted p.verdict ≡ true

goes_by : (v : Verdict) (at : ℕ) → is_accepted v ≡ true → record { verdict = v; cursor = record { at = at } } ≡ good at
goes_by (Ok u) at e = refl
goes_by (Err r) at e = absurd (false≢true e)

pub goes-good : (p : Place) → Goes p → p ≡ good p.cursor.at
goes-good p e = goes_by p.verdict p.cursor.at e

---- checked

checked-by : (p : Place) (g ok : Bool) (number : ℕ) → is_accepted (verdict_of number) ≡ false → is_accepted p.verdict ≡ g
    → is_accepted (cond (g && not ok) (stopped p.cursor.at number) p).verdict ≡ true → Goes p × (ok ≡ true)
checked-by p true true number z e x = (e, refl)
checked-by p true false number z e x = absurd (false≢true (sym z ∙ x))
checked-by p false ok number z e x = absurd (false≢true (sym e ∙ x))

-- a test that was passed
pub checked-goes : (p : Place) (ok : Bool) (number : ℕ) → is_accepted (verdict_of number) ≡ false → Goes (checked p ok number)
    → Goes p × (ok ≡ true)
unfolding checked
checked-goes p ok number z x = checked-by p (is_accepted p.verdict) ok number z refl x

pub allowed-goes : (p : Place) (ok : Bool) → Goes (allowed p ok) → Goes p × (ok ≡ true)
allowed-goes p ok x = checked-goes p ok forbidden refl x

-- it leaves the reading where it stands
pub checked-passed : (p : Place) (number : ℕ) → checked p true number ≡ p
unfolding checked
checked-passed p number = by (is_accepted p.verdict)
  where
    by : (g : Bool) → cond (g && false) (stopped p.cursor.at number) p ≡ p
    by true = refl
    by false = refl

---- next

next-by : (read : ℕ → Reading) (p : Place) (g w : Bool) → is_accepted p.verdict ≡ g
    → Goes (cond (g && w) (taken (λ v. v) p.cursor.at (read p.cursor.at)) (passed p)).place → Goes p
next-by read p true w e x = e
next-by read p false w e x = x

pub next-goes : (read : ℕ → Reading) (p : Place) (w : Bool) → Goes (next read p w).place → Goes p
unfolding next_as
next-goes read p w x = next-by read p (is_accepted p.verdict) w refl x

-- a field of n bytes that was taken: they are there, and it has their value
pub record Took (s : List ℕ) (at n v : ℕ) (t : Got ℕ) : Type 0 where
  pub within : at + n ≤ length s
  pub same : t ≡ there (at + n) v

abbrev field_by : (at n v : ℕ) → Bool → Reading
field_by at n v b = cond b (accepted v (at + n)) (refused cut)

took_by : (s : List ℕ) (at n v : ℕ) (b : Bool) → has s at n ≡ b → Goes (taken (λ x. x) at (field_by at n v b)).place
    → Took s at n v (taken (λ x. x) at (field_by at n v b))
took_by s at n v true e x = record { within = leb-true (at + n) (length s) e; same = refl }
took_by s at n v false e x = absurd (false≢true x)

pub next-took : (s : List ℕ) (at n v : ℕ) (read : ℕ → Reading) → read at ≡ field_at s at n v → Goes (next read (good at) true).place
    → Took s at n v (next read (good at) true)
unfolding next_as
next-took s at n v read e x = rw e (took_by s at n v (has s at n) refl (rw e at x))

---- the steps

module _ (s : List ℕ) where
  pub next_byte-goes : (p : Place) (w : Bool) → Goes (next_byte s p w).place → Goes p
  unfolding next_byte
  next_byte-goes p w x = next-goes (read_byte s) p w x

  pub next_word-goes : (p : Place) (w : Bool) → Goes (next_word s p w).place → Goes p
  unfolding next_word
  next_word-goes p w x = next-goes (read_word s) p w x

  pub next_long-goes : (p : Place) (w : Bool) → Goes (next_long s p w).place → Goes p
  unfolding next_long
  next_long-goes p w x = next-goes (read_long s) p w x

  pub next_up_to-goes : (p : Place) (w : Bool) (most : ℕ) → Goes (next_up_to s p w most).place
      → Goes p × ((or_zero (next_up_to s p w most).field) ≤ most)
  unfolding next_up_to
  next_up_to-goes p w most x =
      let a = allowed-goes (next_byte s p w).place (leb (or_zero (next_byte s p w).field) most) x in
      (next_byte-goes p w a.0, leb-true (or_zero (next_byte s p w).field) most a.1)

  module _ (at : ℕ) where
    pub next_byte-took : Goes (next_byte s (good at) true).place
        → (at + 1 ≤ length s) × (next_byte s (good at) true ≡ there (at + 1) (byte_at s at))
    unfolding next_byte read_byte
    next_byte-took x = let t = next-took s at 1 (byte_at s at) (read_byte s) refl x in (t.within, t.same)

    pub next_word-took : Goes (next_word s (good at) true).place
        → (at + 2 ≤ length s) × (next_word s (good at) true ≡ there (at + 2) (word_at s at))
    unfolding next_word read_word
    next_word-took x = let t = next-took s at 2 (word_at s at) (read_word s) refl x in (t.within, t.same)

    pub next_long-took : Goes (next_long s (good at) true).place
        → (at + 4 ≤ length s) × (next_long s (good at) true ≡ there (at + 4) (long_at s at))
    unfolding next_long read_long
    next_long-took x = let t = next-took s at 4 (long_at s at) (read_long s) refl x in (t.within, t.same)

    -- a byte that is not too much is taken as any byte
    next_up_to-byte : (w : Bool) (most : ℕ) → (or_zero (next_byte s (good at) w).field) ≤ most
        → next_up_to s (good at) w most ≡ next_byte s (good at) w
    unfolding next_up_to
    next_up_to-byte w most h =
        rw (le-leb (or_zero (next_byte s (good at) w).field) most h, checked-passed (next_byte s (good at) w).place forbidden)

    pub next_up_to-took : (most : ℕ) → Goes (next_up_to s (good at) true most).place
        → (at + 1 ≤ length s) × (byte_at s at ≤ most)
        × (next_up_to s (good at) true most ≡ there (at + 1) (byte_at s at))
    unfolding next_up_to
    next_up_to-took most x =
        let a = allowed-goes (next_byte s (good at) true).place (leb (or_zero (next_byte s (good at) true).field) most) x in
        let t = next_byte-took a.0 in
        let h = leb-true (or_zero (next_byte s (good at) true).field) most a.1 in
        (t.0, rw t.1 at h, next_up_to-byte true most h ∙ t.1)

    pub next_up_to-written : (most v : ℕ) (l : List ℕ) → v ≤ most → drop at s ≡ v ∷ l
        → next_up_to s (good at) true most ≡ there (at + 1) v
    next_up_to-written most v l h e =
        let t = next_byte-written s at true v l e in
        next_up_to-byte true most (rw t h) ∙ t

    -- what is not wanted is passed over
    pub next_byte-unwanted : next_byte s (good at) false ≡ passed (good at)
    unfolding next_byte next_as
    next_byte-unwanted = refl

    pub next_word-unwanted : next_word s (good at) false ≡ passed (good at)
    unfolding next_word next_as
    next_word-unwanted = refl

    pub next_long-unwanted : next_long s (good at) false ≡ passed (good at)
    unfolding next_long next_as
    next_long-unwanted = refl

    pub next_up_to-unwanted : (most : ℕ) → next_up_to s (good at) false most ≡ passed (good at)
    next_up_to-unwanted most = next_up_to-byte false most (rw next_byte-unwanted (omega arith)) ∙ next_byte-unwanted
