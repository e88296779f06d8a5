-- Iarwennol. The number of each refusal (rule 3.1). Said here, and by its name everywhere else; 0 is the number of an acceptance.
-- It stands at the bottom because the cursor answers two of them.
use Rattle.std.specs.Prelude.{ℕ}

abbrev pub unsound : ℕ
unsound = 1

abbrev pub bad_length : ℕ
bad_length = 2

abbrev pub unknown_type : ℕ
unknown_type = 3

abbrev pub cut : ℕ
cut = 4

abbrev pub forbidden : ℕ
forbidden = 5

abbrev pub no_such_context : ℕ
no_such_context = 6

abbrev pub unused_code : ℕ
unused_code = 7

abbrev pub not_live : ℕ
not_live = 8

abbrev pub out_of_step : ℕ
out_of_step = 9

abbrev pub too_long : ℕ
too_long = 10

abbrev pub no_room : ℕ
no_room = 11

abbrev pub disproved : ℕ
disproved = 12
