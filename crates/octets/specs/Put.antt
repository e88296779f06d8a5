-- Iarwennol. What it means to put bytes into an output (rule 3.5), and the bytes of some fields.
-- Used by every function that writes: headers, links and the calls of both ends.
use Rattle.std.specs.Prelude.{ℕ, ◌+◌, ◌≡◌, Bool, cond, List, [], ◌∷◌, ◌++◌, length, drop, take}
use Rattle.std.proofs.lemmas.List.Edits.{sets}
use Rattle.codes.specs.Bytes.{big_endian}
use Rattle.packet.specs.declared.csrc.Csrc.{Csrc}

-- bs was stored in the list before, from at on, which gave the list after; past is the place past it
pub record Wrote (before after : List ℕ) (at past : ℕ) (bs : List ℕ) : Type 0 where
  pub ends : past ≡ at + length bs
  pub holds : after ≡ sets before at bs

-- rule 3.5: a list with bs at its front: the bytes after them stay
abbrev pub fronted : List ℕ → List ℕ → List ℕ
fronted l bs = bs ++ drop (length bs) l

-- some bytes where they are wanted, else none
abbrev pub optional : Bool → List ℕ → List ℕ
optional wanted bs = cond wanted bs []

-- rule 6.7: the bytes of words of 32 bits
abbrev pub words : List ℕ → List ℕ
words [] = []
words (w ∷ ws) = big_endian 4 w ++ words ws

-- rules 6.2, 6.3: the words of a CSRC list, as many as its count says
abbrev pub list_bytes : Csrc → List ℕ
list_bytes l = words (take l.count l.words)
