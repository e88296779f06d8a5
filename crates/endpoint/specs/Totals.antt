-- Iarwennol. The totals of an endpoint: what counts in which, and where they stop (rules 13.4, 13.5).
-- Used by the definition of every call of an endpoint, and by the statement on histories.
use Rattle.std.specs.Prelude.{ℕ, suc, Bool, true, false, cond, not, ◌&&◌, List, eqb, ltb, get_or}
use Rattle.crtp.specs.Face.{plain, full_header, compressed_udp, compressed_rtp, unsound}
use Rattle.endpoint.specs.declared.totals.Totals.{Totals}

-- rule 13.4: what a call comes to: a packet sent with this link type, a packet rebuilt, a refusal with this number, or nothing that
-- counts
pub data Event : Type 0 where
  sent : (kind : ℕ) → Event
  rebuilt : Event
  refused : (number : ℕ) → Event
  quiet : Event

-- rule 13.4: an accepted send counts by its type
abbrev pub is_sent : (kind : ℕ) → Event → Bool
is_sent k (sent kind) = eqb kind k
is_sent k rebuilt = false
is_sent k (refused n) = false
is_sent k quiet = false

-- rule 13.4: every packet rebuilt, plain ones too
abbrev pub is_rebuilt : Event → Bool
is_rebuilt (sent kind) = false
is_rebuilt rebuilt = true
is_rebuilt (refused n) = false
is_rebuilt quiet = false

-- rule 13.4: every refusal but that of a table that is not sound
abbrev pub is_refused : Event → Bool
is_refused (sent kind) = false
is_refused rebuilt = false
is_refused (refused n) = not (eqb n unsound)
is_refused quiet = false

-- the totals that a list of six numbers holds
abbrev pub totals_of : List ℕ → Totals
totals_of l = record {
  plain = get_or l 0 0;
  full = get_or l 1 0;
  udp = get_or l 2 0;
  rtp = get_or l 3 0;
  rebuilt = get_or l 4 0;
  refused = get_or l 5 0;
}

-- rule 13.5: where a total stops
abbrev pub last : ℕ
last = 4294967295

-- rule 13.5: one more, if it counts and the total has not stopped
abbrev pub more : Bool → ℕ → ℕ
more counts n = cond (counts && ltb n last) (suc n) n

-- rules 13.4, 13.5
abbrev pub tallied : Totals → Event → Totals
tallied t e = record {
  plain = more (is_sent plain e) t.plain;
  full = more (is_sent full_header e) t.full;
  udp = more (is_sent compressed_udp e) t.udp;
  rtp = more (is_sent compressed_rtp e) t.rtp;
  rebuilt = more (is_rebuilt e) t.rebuilt;
  refused = more (is_refused e) t.refused;
}

-- rule 13.1
abbrev pub no_totals : Totals
no_totals = record { plain = 0; full = 0; udp = 0; rtp = 0; rebuilt = 0; refused = 0 }
