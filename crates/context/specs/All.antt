-- Iarwennol. A test that every element of a list passes.
-- One definition for every kind of element.
-- Used by the soundness of a CSRC list, and of the tables above.
use Rattle.std.specs.Prelude.{Bool, true, ◌&&◌, List, [], ◌∷◌}

abbrev pub all : {A : Type 0} → (A → Bool) → List A → Bool
all f [] = true
all f (x ∷ xs) = f x && all f xs
