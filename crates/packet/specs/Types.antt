-- Iarwennol. The link types (rule 1.1): each number is said here, and by its name everywhere else.
-- A CONTEXT_STATE has none here: it is handed to a call of its own.
use Rattle.std.specs.Prelude.{ℕ}

abbrev pub plain : ℕ
plain = 0

abbrev pub full_header : ℕ
full_header = 1

abbrev pub compressed_udp : ℕ
compressed_udp = 2

abbrev pub compressed_rtp : ℕ
compressed_rtp = 3
