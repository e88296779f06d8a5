-- Iarwennol. What each loop of a walk over a compressor's table tests, at one place.
-- Used by the contracts of the loops; what they come to together is `sound_of` of the table (proofs/Walk.antt).
-- b, h, w: the row of a place, or the planes.
use Rattle.std.specs.Prelude.{ℕ, ◌+◌, ◌%◌, Bool, not, ◌&&◌, ◌||◌, List, eqb, leb, get_or}
use Rattle.codes.specs.Difference.{has_code}
use Rattle.planes.specs.Planes.{cell}
use Rattle.planes.specs.Planes as planes

-- rules 2.3, 2.4: numbers within their limits, and 0 in an empty context
abbrev pub head_test : (b : List ℕ) → Bool
head_test b =
    leb (get_or b 0 0) 1
    && leb (get_or b 3 0) 3
    && leb (get_or b 4 0) 1
    && leb (get_or b 5 0) 1
    && leb (get_or b 6 0) 1
    && leb (get_or b 7 0) 127
    && leb (get_or b 8 0) 15
    && leb (get_or b 9 0) 1
    && (not (eqb (get_or b 0 0) 0)
    || (eqb (get_or b 1 0) 0
    && eqb (get_or b 2 0) 0
    && eqb (get_or b 3 0) 0
    && eqb (get_or b 4 0) 0
    && eqb (get_or b 5 0) 0
    && eqb (get_or b 6 0) 0
    && eqb (get_or b 7 0) 0
    && eqb (get_or b 8 0) 0
    && eqb (get_or b 9 0) 0))

abbrev pub due_test : ℕ → (b : List ℕ) → Bool
due_test n b =
    leb (get_or b 17 0) (n + 1)
    && leb (get_or b 10 0) n
    && leb (get_or b 11 0) n
    && leb (get_or b 12 0) n
    && leb (get_or b 13 0) n
    && leb (get_or b 14 0) n
    && leb (get_or b 15 0) n
    && leb (get_or b 16 0) n
    && leb (get_or b 18 0) 15
    && leb (get_or b 19 0) 63
    && (not (eqb (get_or b 0 0) 0)
    || (eqb (get_or b 17 0) 0
    && eqb (get_or b 10 0) 0
    && eqb (get_or b 11 0) 0
    && eqb (get_or b 12 0) 0
    && eqb (get_or b 13 0) 0
    && eqb (get_or b 14 0) 0
    && eqb (get_or b 15 0) 0
    && eqb (get_or b 16 0) 0
    && eqb (get_or b 18 0) 0
    && eqb (get_or b 19 0) 0))

abbrev pub short_test : (h b : List ℕ) → Bool
short_test h b =
    (not (eqb (get_or b 0 0) 0)
    || (eqb (get_or h 0 0) 0
    && eqb (get_or h 1 0) 0
    && eqb (get_or h 2 0) 0
    && eqb (get_or h 3 0) 0
    && eqb (get_or h 4 0) 0
    && eqb (get_or h 5 0) 0))
    && eqb (get_or h 1 0 % 2) 0

abbrev pub word_test : (w b : List ℕ) → Bool
word_test w b =
    (not (eqb (get_or b 0 0) 0)
    || (eqb (get_or w 0 0) 0
    && eqb (get_or w 1 0) 0
    && eqb (get_or w 2 0) 0
    && eqb (get_or w 3 0) 0
    && eqb (get_or w 4 0) 0
    && eqb (get_or w 5 0) 0))
    && has_code 32 (get_or w 4 0)

-- place i is in use
abbrev pub used_at : (b : List ℕ) → (i : ℕ) → Bool
used_at b i = not (eqb (cell b 0 i) 0)

-- what is asked of the wide numbers of place i if it is in use: an even port, and a delta that has a code
abbrev pub even_at : (h : List ℕ) → (i : ℕ) → Bool
even_at h i = eqb (cell h 1 i % 2) 0

abbrev pub coded_at : (w : List ℕ) → (i : ℕ) → Bool
coded_at w i = has_code 32 (cell w 4 i)

-- word k of the list of place i: 0 unless the count reaches past it
abbrev pub past_at : (w b : List ℕ) → (k i : ℕ) → Bool
past_at = planes.past_at 6 8
