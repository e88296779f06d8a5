-- Iarwennol. The steps of a reading from left to right (rules 3.3, 3.4): one definition, `next`, over what reads the field.
-- Used by the readers of the link layouts (links).
use Rattle.std.specs.Prelude.{ℕ, zero, suc, Bool, true, cond, ◌&&◌, List, eqb, ltb, set}
use Rattle.codes.specs.Numbers.{cut, forbidden}
use Rattle.codes.specs.Reading.{Reading, refused, has, read_byte, read_word, read_long, read_delta}
use Rattle.headers.specs.Rtp.{rtp_first_of}
use Rattle.packet.specs.Csrc.{no_list}
use Rattle.packet.specs.declared.csrc.Csrc.{Csrc}
use Rattle.fields.specs.declared.place.Place.{Place}
use Rattle.fields.specs.declared.place.Got.{Got}
use Rattle.fields.specs.declared.place.GotList.{GotList}
use Rattle.fields.specs.Place.{there, passed, stopped, or_zero}
use Rattle.packet.specs.Refusal.{is_accepted}

---- one step

-- what is made of a reader's answer at a place: the field of a number and the place past it, or a refusal by the answer's number
abbrev pub taken : {A : Type 0} → (ℕ → A) → (at : ℕ) → Reading → Got A
taken of at r = cond (eqb r.number 0) (there r.at (of r.value)) (passed (stopped at r.number))

-- rule 3.3: the field at p where it is wanted; p as it is where it is not, or where a field before it was refused
unfoldable pub next_as : {A : Type 0} → (ℕ → A) → (ℕ → Reading) → Place → Bool → Got A
next_as of read p wanted = cond (is_accepted p.verdict && wanted) (taken of p.cursor.at (read p.cursor.at)) (passed p)

abbrev pub next : (ℕ → Reading) → Place → Bool → Got ℕ
next read p wanted = next_as (λ v. v) read p wanted

---- fields whose form is judged

-- rule 3.4: a field that is there, but not in a form that ok allows, is refused with 5
abbrev pub formed : (ℕ → Bool) → Reading → Reading
formed ok r = cond (eqb r.number 0) (cond (ok r.value) r (refused forbidden)) r

-- rule 6.3: a payload type has its top bit 0
unfoldable pub read_payload : List ℕ → ℕ → Reading
read_payload s at = formed (λ v. ltb v 128) (read_byte s at)

-- rules 3.4, 6.3: the first byte of an RTP header, whose twelve fixed bytes are one field
unfoldable pub read_version : List ℕ → ℕ → Reading
read_version s at = cond (has s at 12) (formed (λ v. eqb (rtp_first_of v).version 2) (read_byte s at)) (refused cut)

---- the steps

unfoldable pub next_byte : List ℕ → Place → Bool → Got ℕ
next_byte s p wanted = next (read_byte s) p wanted

unfoldable pub next_word : List ℕ → Place → Bool → Got ℕ
next_word s p wanted = next (read_word s) p wanted

unfoldable pub next_long : List ℕ → Place → Bool → Got ℕ
next_long s p wanted = next (read_long s) p wanted

unfoldable pub next_delta16 : List ℕ → Place → Bool → Got ℕ
next_delta16 s p wanted = next (read_delta 16 s) p wanted

unfoldable pub next_delta32 : List ℕ → Place → Bool → Got ℕ
next_delta32 s p wanted = next (read_delta 32 s) p wanted

unfoldable pub next_payload : List ℕ → Place → Bool → Got ℕ
next_payload s p wanted = next (read_payload s) p wanted

unfoldable pub next_version : List ℕ → Place → Got ℕ
next_version s p = next (read_version s) p true

---- the CSRC list

-- a list with one word more, 0 where it was refused
abbrev pub with_word : Csrc → Got ℕ → GotList
with_word l g =
    record { place = g.place; list = record { count = suc l.count; words = set l.words l.count (or_zero g.field) } }

-- rules 2.4, 6.4: a whole list: n words in its first places, 0 in the others
abbrev pub next_list : List ℕ → Place → ℕ → GotList
next_list s p zero = record { place = p; list = no_list }
next_list s p (suc n) = let q : GotList = next_list s p n in with_word q.list (next_long s q.place true)
