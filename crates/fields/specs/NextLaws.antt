-- Iarwennol. A field that was written is read back, and the reading goes on past it. Assumes nothing.
-- A reading is about what is left from a place on: `drop at s ≡ written ++ rest`. Used by the round trips of the link layouts
-- (links).
use Rattle.std.specs.Prelude.{ℕ, zero, suc, ◌+◌, ◌-◌, ◌/◌, ◌^◌, ◌≤◌, ◌<◌, ◌≡◌, refl, Bool, true, false, List, [], ◌∷◌, ◌++◌}
use Rattle.std.specs.Prelude.{length, get_or, set, take, drop, replicate}
use Rattle.std.specs.Bool.{then_some}
use Rattle.std.proofs.Common.{◌∙◌, append_assoc, add-zero, add_assoc, add-one, arith, length-append, take-append-drop}
use Rattle.std.proofs.Common.{length-take-le, take-suc}
use borrow.Author.Tests.{lt-ltb, le-leb, eq-eqb}
use Rattle.std.proofs.Math.Seq.{drop-append_seam}
use Rattle.std.proofs.lemmas.List.{set_at}
use Rattle.codes.specs.Bytes.{big_endian}
use Rattle.codes.specs.Code.{code_of}
use Rattle.codes.specs.Difference.{has_code}
use Rattle.codes.specs.Reading.{Reading, accepted, read_byte, read_word, read_long, read_delta}
use Rattle.codes.proofs.RoundTrip.{left_after, left-length, read_byte-written, read_word-written, read_long-written, read_delta-16}
use Rattle.codes.proofs.RoundTrip.{read_delta-32}
use Rattle.packet.specs.Ranges.{ListInRange}
use Rattle.packet.specs.declared.csrc.Csrc.{Csrc}
use Rattle.octets.specs.Put.{optional, words, list_bytes}
use Rattle.octets.specs.PutLaws.{words_take}
use Rattle.fields.specs.declared.place.GotList.{GotList}
use Rattle.fields.specs.declared.place.Got.{Got}
use Rattle.fields.specs.Place.{good}
use Rattle.fields.specs.Next.{next, next_as, read_payload, read_version, next_byte, next_word, next_long, next_delta16}
use Rattle.fields.specs.Next.{next_delta32}
use Rattle.fields.specs.Next.{next_payload, next_version, next_list}

-- what is left past xs
pub left-past : (s : List ℕ) (at : ℕ) (xs l : List ℕ) → drop at s ≡ xs ++ l → drop (at + length xs) s ≡ l
left-past s at xs l e = left_after s at (xs ++ l) e (length xs) ∙ drop-append_seam xs l

---- next

-- a step that gives v where the field was sent, and stands past it
abbrev pub stepped : (past : ℕ) → Bool → (v : ℕ) → Got ℕ
stepped past w v = record { place = good past; field = then_some w v }

-- where the reader takes what was written for v, the step gives v and stands past it
pub next-written : (read : ℕ → Reading) (at : ℕ) (w : Bool) (v : ℕ) (bs : List ℕ)
    → (w ≡ true → read at ≡ accepted v (at + length bs))
    → next read (good at) w ≡ stepped (at + length (optional w bs)) w v
unfolding next_as
next-written read at true v bs h = rw (h refl)
next-written read at false v bs h = rw add-zero

---- fields whose form is judged

module _ (s : List ℕ) (at v : ℕ) (rest : List ℕ) where
  pub read_payload-written : v < 128 → drop at s ≡ v ∷ rest → read_payload s at ≡ accepted v (at + 1)
  unfolding read_payload
  read_payload-written h e = rw (read_byte-written s at v rest e, lt-ltb v 128 h)

  -- the first byte of an RTP header, with the eleven fixed bytes after it
  pub read_version-written : v / 64 ≡ 2 → 11 ≤ length rest → drop at s ≡ v ∷ rest → read_version s at ≡ accepted v (at + 1)
  unfolding read_version
  read_version-written h k e =
      let n = left-length s at (v ∷ rest) e (omega arith) in
      rw (le-leb (at + 12) (length s) (omega arith), read_byte-written s at v rest e, eq-eqb (v / 64) 2 h)

---- the steps

-- the first of the bytes left, where the field is sent
left-sent : (s : List ℕ) (at : ℕ) (w : Bool) (bs l : List ℕ) → drop at s ≡ optional w bs ++ l → w ≡ true → drop at s ≡ bs ++ l
left-sent s at true bs l e t = e
left-sent s at false bs l e t = cc

module _ (s : List ℕ) (at : ℕ) (w : Bool) (v : ℕ) (l : List ℕ) where
  pub next_byte-written : drop at s ≡ optional w (v ∷ []) ++ l
      → next_byte s (good at) w ≡ stepped (at + length (optional w (v ∷ []))) w v
  unfolding next_byte
  next_byte-written e =
      next-written (read_byte s) at w v (v ∷ []) (λ t. read_byte-written s at v l (left-sent s at w (v ∷ []) l e t))

  pub next_word-written : v < 2 ^ 16 → drop at s ≡ optional w (big_endian 2 v) ++ l
      → next_word s (good at) w ≡ stepped (at + length (optional w (big_endian 2 v))) w v
  unfolding next_word
  next_word-written h e =
      next-written (read_word s) at w v (big_endian 2 v)
      (λ t. read_word-written s at v l h (left-sent s at w (big_endian 2 v) l e t))

  pub next_long-written : v < 2 ^ 32 → drop at s ≡ optional w (big_endian 4 v) ++ l
      → next_long s (good at) w ≡ stepped (at + length (optional w (big_endian 4 v))) w v
  unfolding next_long
  next_long-written h e =
      next-written (read_long s) at w v (big_endian 4 v)
      (λ t. read_long-written s at v l h (left-sent s at w (big_endian 4 v) l e t))

  pub next_delta16-written : v < 2 ^ 16 → drop at s ≡ optional w (code_of 16 v) ++ l
      → next_delta16 s (good at) w ≡ stepped (at + length (optional w (code_of 16 v))) w v
  unfolding next_delta16
  next_delta16-written h e =
      next-written (read_delta 16 s) at w v (code_of 16 v)
      (λ t. read_delta-16 s at v l h (left-sent s at w (code_of 16 v) l e t))

  pub next_delta32-written : v < 2 ^ 32 → (w ≡ true → has_code 32 v ≡ true) → drop at s ≡ optional w (code_of 32 v) ++ l
      → next_delta32 s (good at) w ≡ stepped (at + length (optional w (code_of 32 v))) w v
  unfolding next_delta32
  next_delta32-written h c e =
      next-written (read_delta 32 s) at w v (code_of 32 v)
      (λ t. read_delta-32 s at v l h (c t) (left-sent s at w (code_of 32 v) l e t))

  pub next_payload-written : v < 128 → drop at s ≡ optional w (v ∷ []) ++ l
      → next_payload s (good at) w ≡ stepped (at + length (optional w (v ∷ []))) w v
  unfolding next_payload
  next_payload-written h e =
      next-written (read_payload s) at w v (v ∷ [])
      (λ t. read_payload-written s at v l h (left-sent s at w (v ∷ []) l e t))

pub next_version-written : (s : List ℕ) (at v : ℕ) (l : List ℕ) → v / 64 ≡ 2 → 11 ≤ length l → drop at s ≡ v ∷ l
    → next_version s (good at) ≡ stepped (at + 1) true v
unfolding next_version
next_version-written s at v l h k e = next-written (read_version s) at true v (v ∷ []) (λ t. read_version-written s at v l h k e)

---- the CSRC list

-- the first n of some words, and zeros past them
abbrev filled : List ℕ → ℕ → List ℕ
filled ws n = take n ws ++ replicate (15 - n) 0

filled_more : (ws : List ℕ) (n : ℕ) → length ws ≡ 15 → n < 15 → set (filled ws n) n (get_or ws n 0) ≡ filled ws (suc n)
filled_more ws n k h =
    let z : 15 - n ≡ suc (15 - suc n) = omega arith in
    let q = length-take-le n ws (omega arith) in
    rw (z, take-suc ws n 0 (omega arith), append_assoc) (set_at (take n ws) 0 (replicate (15 - suc n) 0) (get_or ws n 0) n q)

filled-same : (l : Csrc) → ListInRange l → filled l.words l.count ≡ l.words
filled-same l f = rw (← f.blank) (take-append-drop l.count l.words)

words-suc : (ws : List ℕ) (n : ℕ) → n < length ws → words (take (suc n) ws) ≡ words (take n ws) ++ big_endian 4 (get_or ws n 0)
words-suc ws n h = rw add-one at (words_take ws n h)

-- every word of a list fits
abbrev Words : List ℕ → Type 0
Words ws = (i : ℕ) → get_or ws i 0 < 2 ^ 32

abbrev got_words : ℕ → List ℕ → ℕ → GotList
got_words at ws n = record { place = good (at + length (words (take n ws))); list = record { count = n; words = filled ws n } }

module _ (s : List ℕ) (at : ℕ) (ws : List ℕ) (fifteen : length ws ≡ 15) (fit : Words ws) where
  list-more : (n : ℕ) (l : List ℕ) → n < 15 → drop at s ≡ words (take n ws) ++ (big_endian 4 (get_or ws n 0) ++ l)
      → next_list s (good at) n ≡ got_words at ws n → next_list s (good at) (suc n) ≡ got_words at ws (suc n)
  list-more n l h e ih =
      let x = get_or ws n 0 in
      let o = at + length (words (take n ws)) in
      rw (
        ih,
        next_long-written s o true x l (fit n) (left-past s at (words (take n ws)) (big_endian 4 x ++ l) e),
        filled_more ws n fifteen h,
        words-suc ws n (omega arith),
        length-append (words (take n ws)) (big_endian 4 x),
        add_assoc,
      )

  list-from : (n : ℕ) (l : List ℕ) → n ≤ 15 → drop at s ≡ words (take n ws) ++ l → next_list s (good at) n ≡ got_words at ws n
  list-from zero l h e = rw add-zero
  list-from (suc n) l h e =
      let d = rw (words-suc ws n (omega arith), append_assoc (words (take n ws)) (big_endian 4 (get_or ws n 0)) l) at e in
      list-more n l h d (list-from n (big_endian 4 (get_or ws n 0) ++ l) (omega arith) d)

pub next_list-written : (s : List ℕ) (at : ℕ) (c : Csrc) (l : List ℕ) → ListInRange c → drop at s ≡ list_bytes c ++ l
    → next_list s (good at) c.count ≡ record { place = good (at + length (list_bytes c)); list = c }
next_list-written s at c l f e =
    list-from s at c.words f.size f.each c.count l f.count e ∙ rw (filled-same c f)
