-- Iarwennol. The ones' complement sum of 16-bit words, the carry added again after every addition (rule 5.2).
-- Used by the checksums of IP and UDP (headers).
use Rattle.std.specs.Prelude.{ℕ, zero, suc, ◌+◌, ◌-◌, ◌*◌, ◌/◌, ◌%◌, ◌<◌, List, [], ◌∷◌}

-- rule 5.2: two numbers of 16 bits added in ones' complement, the carry at the low end
unfoldable pub plus : ℕ → ℕ → ℕ
plus a b = (a + b) % 65536 + (a + b) / 65536

-- the words of some bytes, big-endian; an odd byte at the end is the high half of a word
abbrev pub words_of : List ℕ → List ℕ
words_of [] = []
words_of (a ∷ []) = a * 256 ∷ []
words_of (a ∷ b ∷ s) = (a * 256 + b) ∷ words_of s

-- words added to a start value, from the left
abbrev pub sum_of : ℕ → List ℕ → ℕ
sum_of start [] = start
sum_of start (w ∷ ws) = sum_of (plus start w) ws

-- rule 5.2: what stands in a checksum's place
abbrev pub complement : ℕ → ℕ
complement x = 65535 - x

---- the same sum folded once, at the end

-- a sum without carries
abbrev pub total : List ℕ → ℕ
total [] = 0
total (w ∷ ws) = w + total ws

-- such a sum as a number of 16 bits: 0 only where it is 0
unfoldable pub folded : ℕ → ℕ
folded zero = zero
folded (suc t) = t % 65535 + 1

-- its carries put back at the low end, once; this can leave one
abbrev pub fold_once : ℕ → ℕ
fold_once t = t % 65536 + t / 65536

-- every number of the list has 16 bits
pub data AllWords : List ℕ → Type 0 where
  none : AllWords []
  more : {w : ℕ} {ws : List ℕ} → w < 65536 → AllWords ws → AllWords (w ∷ ws)
