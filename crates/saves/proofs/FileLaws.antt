-- Iarwennol. Laws of files (rules 14.5, 14.7, 14.8): a load goes by the bytes alone, two tables have two files, and a file that was
-- cut or lengthened is refused. Assume nothing.
-- Used by nobody: they say what a user may rely on.
use Rattle.std.specs.Prelude.{ℕ, suc, ◌+◌, ◌-◌, ◌^◌, ◌≤◌, ◌<◌, ◌≡◌, Bool, false, cond, List, [], ◌∷◌, ◌++◌, eqb, leb, length, take}
use Rattle.std.proofs.Math.Path.{refl}
use Rattle.std.proofs.Common.{sym, ap, subst, ◌∙◌, true≢false, length-append, length-take-le}
use Rattle.std.proofs.Math.Bool.{true}
use Rattle.std.proofs.Math.Decide.{dec_le}
use native.Mathlib.Omega.{arith}
use borrow.Author.Tests.{le-leb, lt-leb}
use Rattle.codes.specs.Bytes.{big_endian}
use Rattle.codes.specs.Numbers.{cut, forbidden}
use Rattle.codes.specs.Reading.{Reading, has, read_byte, read_word}
use Rattle.packet.specs.Refusal.{verdict_number, is_accepted}
use Rattle.fields.specs.declared.place.Place.{Place}
use Rattle.fields.specs.Place.{good, stopped, passed, there, or_zero}
use Rattle.fields.specs.Next.{next, next_as, next_byte, next_word}
use Rattle.fields.specs.NextLaws.{next_word-written}
use Rattle.decompressor.specs.declared.table.Table.{Table}
use Rattle.decompressor.specs.Answer.{Result, accepted, refused}
use Rattle.saves.specs.declared.read.Front.{Front}
use Rattle.saves.specs.Saves.{checked, allowed, next_up_to, records_of, whole_of, front_of, body_bytes, saved_bytes, load_records}
use Rattle.saves.specs.Saves.{load_of}
use Rattle.saves.proofs.SizeLaws.{length-saved_bytes, saves-longest}
use Rattle.saves.proofs.SavesLaws.{TableFits, load-saved}
use Rattle.saves.proofs.LoadLaws.{zero-accepted}

---- A reading that was refused stays where it is

abbrev Halted : Place → Type 0
Halted p = is_accepted p.verdict ≡ false

checked-halted : (p : Place) (ok : Bool) (number : ℕ) → Halted p → checked p ok number ≡ p
unfolding checked
checked-halted p ok number e = rw e

next-halted : (read : ℕ → Reading) (p : Place) (w : Bool) → Halted p → next read p w ≡ passed p
unfolding next_as
next-halted read p w e = rw e

next_byte-halted : (s : List ℕ) (p : Place) (w : Bool) → Halted p → (next_byte s p w).place ≡ p
unfolding next_byte
next_byte-halted s p w e = rw (next-halted (read_byte s) p w e)

next_up_to-halted : (s : List ℕ) (p : Place) (w : Bool) (most : ℕ) → Halted p → (next_up_to s p w most).place ≡ p
unfolding next_up_to
next_up_to-halted s p w most e =
    let n = next_byte-halted s p w e in
    checked-halted (next_byte s p w).place (leb (or_zero (next_byte s p w).field) most) forbidden (subst Halted (sym n) e) ∙ n

allowed-halted : (p q : Place) (ok : Bool) → Halted q → p ≡ q → allowed p ok ≡ q
allowed-halted p q ok e same = ap (λ (x : Place). allowed x ok) same ∙ checked-halted q ok forbidden e

-- N and K after it
settings-halted : (s : List ℕ) (p : Place) (ok : Bool) → Halted p
    → allowed (next_up_to s (next_up_to s p true 14).place true 64).place ok ≡ p
settings-halted s p ok e =
    let n = next_up_to-halted s p true 14 e in
    allowed-halted (next_up_to s (next_up_to s p true 14).place true 64).place p ok e
    (ap (λ (x : Place). (next_up_to s x true 64).place) n ∙ next_up_to-halted s p true 64 e)

---- A file that is refused by its length

module _ (s : List ℕ) (e : Halted (whole_of s)) where
  front-halted : (front_of s).place ≡ whole_of s
  unfolding front_of
  front-halted =
      let v = allowed-halted (next_byte s (whole_of s) true).place (whole_of s) _ e (next_byte-halted s (whole_of s) true e) in
      settings-halted s _ _ (subst Halted (sym v) e) ∙ v

  load-halted : (t : Table) → load_of t s ≡ refused t (verdict_number (whole_of s).verdict) []
  unfolding load_of
  load-halted t = rw (front-halted, e)

-- rule 14.5: by what the length's two bytes say
module _ (s : List ℕ) (n : ℕ) (length-read : next_word s (good 0) true ≡ there 2 n) where
  whole_of-less : length s < 2 + n → whole_of s ≡ stopped 2 cut
  unfolding whole_of checked
  whole_of-less h = rw (length-read, lt-leb (2 + n) (length s) h)

  whole_of-more : 2 + n < length s → whole_of s ≡ stopped 2 forbidden
  unfolding whole_of checked
  whole_of-more h = rw (length-read, le-leb (2 + n) (length s) (omega arith), lt-leb (length s) (2 + n) h)

whole_of-none : (s : List ℕ) → length s < 2 → whole_of s ≡ stopped 0 cut
unfolding whole_of checked next_word next_as read_word
whole_of-none s h = rw (lt-leb 2 (length s) h)

-- a refusal there is the load's
load-stopped : (t : Table) (s : List ℕ) (p : Place) (number : ℕ) → whole_of s ≡ p → is_accepted p.verdict ≡ false
    → verdict_number p.verdict ≡ number → load_of t s ≡ refused t number []
load-stopped t s p number w e n =
    load-halted s (subst Halted (sym w) e) t
    ∙ ap (λ (x : Place). refused t (verdict_number x.verdict) []) w
    ∙ ap (λ (k : ℕ). refused t k []) n

---- A saved file, cut or lengthened

module _ (t : Table) (f : TableFits t) where
  abbrev file : List ℕ
  file = saved_bytes t

  abbrev body : ℕ
  body = length (body_bytes t)

  body-fits : body < 2 ^ 16
  body-fits = omega (arith, length-saved_bytes t, saves-longest t f.sound)

  file-length : length file ≡ 2 + body
  unfolding saved_bytes
  file-length = omega arith

  -- its length, whatever is left of what follows it
  length-there : (s l : List ℕ) → s ≡ big_endian 2 body ++ l → next_word s (good 0) true ≡ there 2 body
  length-there s l e = next_word-written s 0 true body l body-fits e

  cut-front : (n : ℕ) → take (suc (suc n)) file ≡ big_endian 2 body ++ take n (body_bytes t)
  unfolding saved_bytes
  cut-front n = refl

  -- rule 14.5: 4 for every cut
  pub load_cut : (u : Table) (n : ℕ) → n < length file → load_of u (take n file) ≡ refused u cut []
  load_cut u n h = by (dec_le 2 n)
    where
      length_cut : length (take n file) ≡ n
      length_cut = length-take-le n file (omega arith)

      long : (k : ℕ) → n ≡ suc (suc k) → whole_of (take n file) ≡ stopped 2 cut
      long k e = whole_of-less (take n file) body
          (length-there (take n file) (take k (body_bytes t)) (ap (λ (m : ℕ). take m file) e ∙ cut-front k))
          (omega (arith, length_cut, file-length))

      by : Dec (2 ≤ n) → load_of u (take n file) ≡ refused u cut []
      by (yes m) = load-stopped u (take n file) (stopped 2 cut) cut (long (n - 2) (omega arith)) refl refl
      by (no m) = load-stopped u (take n file) (stopped 0 cut) cut
          (whole_of-none (take n file) (omega (arith, length_cut))) refl refl

  spread : (l : List ℕ) → file ++ l ≡ big_endian 2 body ++ (body_bytes t ++ l)
  unfolding saved_bytes
  spread l = refl

  -- rule 14.5: 5 for bytes after it
  pub load-lengthened : (u : Table) (x : ℕ) (xs : List ℕ) → load_of u (file ++ (x ∷ xs)) ≡ refused u forbidden []
  load-lengthened u x xs =
      load-stopped u (file ++ (x ∷ xs)) (stopped 2 forbidden) forbidden
      (whole_of-more (file ++ (x ∷ xs)) body (length-there (file ++ (x ∷ xs)) (body_bytes t ++ (x ∷ xs)) (spread (x ∷ xs)))
      (omega (arith, length-append file (x ∷ xs), file-length)))
      refl refl

  -- rule 14.8: another table has another file
  pub saved-apart : (u : Table) → TableFits u → saved_bytes t ≡ saved_bytes u → t ≡ u
  saved-apart u g e =
      ap (λ (r : Result). r.table) (sym (load-saved t f t) ∙ ap (load_of t) e ∙ load-saved u g t)

---- A load goes by the bytes alone

-- rule 14.7: handed another table, it has the same number; accepted, it leaves the same table; refused, the one that it was handed
pub record BytesAlone (t u : Table) (r q : Result) : Type 0 where
  pub number : r.number ≡ q.number
  pub loaded : r.number ≡ 0 → r.table ≡ q.table
  pub kept : (r.number ≡ 0 → ⊥) → r.table ≡ t

alone-settled : (t u : Table) (p : Place) (new : Table) (b : Bool) → is_accepted p.verdict ≡ b
    → BytesAlone t u (cond b (accepted new [] []) (refused t (verdict_number p.verdict) []))
    (cond b (accepted new [] []) (refused u (verdict_number p.verdict) []))
alone-settled t u p new true e = record { number = refl; loaded = λ z. refl; kept = λ z. absurd (z refl) }
alone-settled t u p new false e =
    record { number = refl; loaded = λ z. absurd (true≢false (sym (zero-accepted p.verdict z) ∙ e)); kept = λ z. refl }

alone-front : (t u : Table) (s : List ℕ) (f : Front) (b : Bool) → is_accepted f.place.verdict ≡ b
    → BytesAlone t u
    (cond b (load_records t f.settings (records_of s f.place f.settings.contexts) s)
    (refused t (verdict_number f.place.verdict) []))
    (cond b (load_records u f.settings (records_of s f.place f.settings.contexts) s)
    (refused u (verdict_number f.place.verdict) []))
alone-front t u s f true e =
    let q = records_of s f.place f.settings.contexts in
    let p = allowed q.place (eqb q.place.cursor.at (length s)) in
    alone-settled t u p (record { settings = f.settings; contexts = q.contexts }) (is_accepted p.verdict) refl
alone-front t u s f false e =
    record { number = refl; loaded = λ z. absurd (true≢false (sym (zero-accepted f.place.verdict z) ∙ e)); kept = λ z. refl }

pub load-alone : (t u : Table) (s : List ℕ) → BytesAlone t u (load_of t s) (load_of u s)
unfolding load_of
load-alone t u s = alone-front t u s (front_of s) (is_accepted (front_of s).place.verdict) refl
