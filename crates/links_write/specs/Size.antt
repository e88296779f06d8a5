-- Iarwennol. How many bytes a link packet has before what is copied (rules 6.2, 6.3).
-- Used by the calls, which compute the exact length before they write (rule 3.1, refusal 11).
use Rattle.std.specs.Prelude.{ℕ, ◌+◌, ◌*◌, Bool, cond, is_some, length}
use Rattle.packet.specs.declared.parts.Parts.{Parts}
use Rattle.links.specs.Sent.{delta}

-- rule 6.3: UDP checksum, differences of ID and timestamp, ID
abbrev pub changes_size : Bool → Parts → ℕ
changes_size carried h = cond carried 2 0 + length (delta 16 h.did) + length (delta 32 h.dts) + cond (is_some h.id) 2 0

-- rule 6.3: sequence, timestamp, payload type, CSRC list
abbrev pub values_size : Parts → ℕ
values_size h = cond (is_some h.sequence) 2 0 + cond (is_some h.timestamp) 4 0 + cond (is_some h.payload) 1 0 + 4 * h.csrc.count

-- rule 6.3: the context number and two flag bytes, then these
abbrev pub cu_size : Bool → Parts → ℕ
cu_size carried h = 3 + changes_size carried h + values_size h

-- rule 6.2: differences of ID, sequence and timestamp
abbrev pub deltas_size : Parts → ℕ
deltas_size h = length (delta 16 h.did) + length (delta 16 h.dsn) + length (delta 32 h.dts)

-- rule 6.2: context number, flag byte, UDP checksum, second flag byte, differences, CSRC list
abbrev pub cr_size : Bool → Parts → ℕ
cr_size carried h = 2 + cond carried 2 0 + cond h.listed 1 0 + deltas_size h + 4 * h.csrc.count
