-- Iarwennol. One changing field, and the small numbers of a context.
-- Each rule once: w is the width of the field, plus the sum of that width, n the repeats.
-- Used by Compressor and Decompressor, and by the code of both ends.
use Rattle.std.specs.Prelude.{ℕ, zero, suc, ◌+◌, ◌-◌, ◌%◌, Bool, cond, not, ◌||◌, eqb, ltb, Option, unwrap_or}
use Rattle.codes.specs.Difference.{difference}

-- rule 8.1: the link sequence after a packet
unfoldable pub next_sequence : ℕ → ℕ
next_sequence s = (s + 1) % 16

-- rule 8.3: the generation of a run that starts afresh
unfoldable pub next_generation : ℕ → ℕ
next_generation g = (g + 1) % 64

-- rule 8.5: a field is not one delta past where the packet before had it
unfoldable pub off_pattern : (w last delta x : ℕ) → Bool
off_pattern w last delta x = not (eqb (difference w last x) delta)

-- rules 8.6, 8.7: a counter after a packet; a fresh change is due in the next n
unfoldable pub counted : (n : ℕ) (fresh : Bool) (due : ℕ) → ℕ
counted n fresh due = cond fresh n (due - 1)

-- rules 8.6, 8.7: due in this packet
unfoldable pub is_due : (fresh : Bool) (due : ℕ) → Bool
is_due fresh due = fresh || ltb 0 due

-- rule 7.2: how far a link sequence is from the last one accepted
unfoldable pub gap : (last q : ℕ) → ℕ
gap last q = (q % 16 + 16 - last % 16) % 16

-- rule 7.3: a field moved on by g steps of d
abbrev pub steps : {A : Type 0} → (A → A → A) → (a d : A) → (g : ℕ) → A
steps plus a d zero = a
steps plus a d (suc g) = plus (steps plus a d g) d

-- rules 7.3, 7.4: a field after a gap of g. Sent whole, it is taken; else it takes g - 1 steps of the delta, and as its last
-- step the difference that was sent, or the delta
unfoldable pub moved_on : {A : Type 0} → (A → A → A) → (g : ℕ) → (last delta : A) → (d whole : Option A) → A
moved_on plus g last delta d whole = unwrap_or whole (plus (steps plus last delta (g - 1)) (unwrap_or d delta))
