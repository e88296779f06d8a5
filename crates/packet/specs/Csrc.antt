-- Iarwennol. The CSRC list, compared and replaced whole.
-- Used by the compressor's judgement of a packet (context) and by the link layouts (links).
use Rattle.std.specs.Prelude.{ℕ, Bool, true, false, ◌&&◌, List, [], ◌∷◌, eqb, replicate}
use Rattle.packet.specs.declared.csrc.Csrc.{Csrc}

-- two lists of words are equal
abbrev pub same : List ℕ → List ℕ → Bool
same [] [] = true
same [] (y ∷ ys) = false
same (x ∷ xs) [] = false
same (x ∷ xs) (y ∷ ys) = eqb x y && same xs ys

-- rule 8.7: a CSRC list has not changed: count and all fifteen words are equal
unfoldable pub same_list : Csrc → Csrc → Bool
same_list a b = eqb a.count b.count && same a.words b.words

abbrev pub no_list : Csrc
no_list = record { count = 0; words = replicate 15 0 }
