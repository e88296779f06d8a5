-- Iarwennol. The settings of both ends.
-- What an opening makes of two numbers, when settings are sound, and how long a packet may be (rules 1.3, 1.4).
-- Used by the openings of both tables, by their soundness, and by a send and an arrival.
use Rattle.std.specs.Prelude.{ℕ, Bool, cond, ◌&&◌, leb, Option, Some, None}
use Rattle.codes.specs.Numbers.{unsound}
use Rattle.settings.specs.declared.Settings.{Settings}

-- rule 1.3: repeats 0 to 14, contexts 1 to 64
abbrev pub in_range : (n k : ℕ) → Bool
in_range n k = leb n 14 && leb 1 k && leb k 64

-- rule 1.4: how many bytes a packet may have
abbrev pub length_allowed : ℕ → Bool
length_allowed n = leb 1 n && leb n 1500

-- rules 1.3, 2.2
abbrev pub sound : Settings → Bool
sound s = in_range s.repeats s.contexts

---- an opening

-- its answer: its number, 0 where it is accepted; the settings that it gives, none where it is refused
pub record Opening : Type 0 where
  pub number : ℕ
  pub repeats : ℕ
  pub contexts : ℕ

abbrev pub accepted : (n k : ℕ) → Opening
accepted n k = record { number = 0; repeats = n; contexts = k }

-- rule 3.1
abbrev pub refused : ℕ → Opening
refused number = record { number = number; repeats = 0; contexts = 0 }

-- rules 1.3, 3.1: an opening with numbers in range has them as its settings, any other is refused
unfoldable pub open_of : (n k : ℕ) → Opening
open_of n k = cond (in_range n k) (accepted n k) (refused unsound)

-- number and values of each answer
abbrev pub said : Option Settings → Opening
said (Some s) = accepted s.repeats s.contexts
said None = refused unsound
