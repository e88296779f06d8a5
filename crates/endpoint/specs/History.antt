-- Iarwennol. The totals over whole histories, stated (rules 13.4 to 13.6): for every list of calls from an accepted opening each
-- total is the smaller of 4,294,967,295 and its count. Its proof is `tallies` (proofs/History.antt).
use Rattle.std.specs.Prelude.{ℕ, ◌+◌, ◌≤◌, ◌≡◌, Bool, true, false, cond, List, [], ◌∷◌, eqb, leb}
use Rattle.crtp.specs.Face.{plain, full_header, compressed_udp, compressed_rtp}
use Rattle.crtp.specs.Robust.{Bytes}
use Rattle.endpoint.specs.declared.totals.Totals.{Totals}
use Rattle.endpoint.specs.declared.answer.Endpoint.{Endpoint}
use Rattle.endpoint.specs.Totals.{Event, sent, rebuilt, refused, quiet, is_sent, is_rebuilt, is_refused, last}
use Rattle.endpoint.specs.Answer.{Result}
use Rattle.endpoint.specs.Calls.{judged, context_state, open_of, wire_of, radio_of, report_of}

---- The list of calls

-- a packet from the wire, a packet with any type from the radio, a report; any bytes, and an output of any length
pub data Call : Type 0 where
  wire : (packet output : Bytes) → Call
  radio : (kind : ℕ) (bytes output : Bytes) → Call
  report : (output : Bytes) → Call

abbrev pub answer : Endpoint → Call → Result
answer e (wire p output) = wire_of e p.list output.list
answer e (radio kind s output) = radio_of e kind s.list output.list
answer e (report output) = report_of e output.list

-- a call finds the endpoint that the one before it left, whether that was refused or not
abbrev pub after : Endpoint → List Call → Endpoint
after e [] = e
after e (x ∷ xs) = after (answer e x).endpoint xs

---- The history

-- rule 13.4: what a call comes to, by what it answered
abbrev pub event_of : Call → Result → Event
event_of (wire p output) r = judged r.number (sent r.kind)
event_of (radio kind s output) r = judged r.number (cond (eqb kind context_state) quiet rebuilt)
event_of (report output) r = judged r.number quiet

abbrev pub history : Endpoint → List Call → List Event
history e [] = []
history e (x ∷ xs) = event_of x (answer e x) ∷ history (answer e x).endpoint xs

-- how many in a history are so
abbrev pub count : (Event → Bool) → List Event → ℕ
count is [] = 0
count is (x ∷ xs) = cond (is x) 1 0 + count is xs

-- an accepted send, whatever its link type
abbrev pub is_send : Event → Bool
is_send (sent kind) = true
is_send rebuilt = false
is_send (refused n) = false
is_send quiet = false

---- The claim

-- rule 13.5
abbrev pub stopped : ℕ → ℕ
stopped n = cond (leb n last) n last

-- rule 13.5: each total is its count, or where it stopped
pub record Tallied (t : Totals) (h : List Event) : Type 0 where
  pub plain : t.plain ≡ stopped (count (is_sent plain) h)
  pub full : t.full ≡ stopped (count (is_sent full_header) h)
  pub udp : t.udp ≡ stopped (count (is_sent compressed_udp) h)
  pub rtp : t.rtp ≡ stopped (count (is_sent compressed_rtp) h)
  pub rebuilt : t.rebuilt ≡ stopped (count is_rebuilt h)
  pub refused : t.refused ≡ stopped (count is_refused h)

-- rule 13.6: while none of the four has stopped, they are together the accepted sends
pub record Unstopped (h : List Event) : Type 0 where
  pub plain : count (is_sent plain) h ≤ last
  pub full : count (is_sent full_header) h ≤ last
  pub udp : count (is_sent compressed_udp) h ≤ last
  pub rtp : count (is_sent compressed_rtp) h ≤ last

abbrev pub all_sent : Totals → ℕ
all_sent t = t.plain + t.full + t.udp + t.rtp

pub record Counted (t : Totals) (h : List Event) : Type 0 where
  pub each : Tallied t h
  pub together : Unstopped h → all_sent t ≡ count is_send h

-- rules 13.5, 13.6: from an accepted opening, whatever the endpoint held before it
abbrev pub Tallies : Type 0
Tallies =
    (e : Endpoint) (n k : ℕ) → (open_of e n k).number ≡ 0 → (xs : List Call)
    → let o = (open_of e n k).endpoint in Counted (after o xs).totals (history o xs)
