-- Iarwennol. Robustness of two endpoints that face each other, stated (rules 13.7, 13.8): each direction by itself. What is asked
-- of one direction is what crtp asks of a link; nothing is asked of the other. What is claimed is what the receiving endpoint's own
-- call answers. Read crtp's Unsaved.antt first, since neither saves nor loads are among these calls; the proof is `facing`
-- (proofs/Facing.antt).
use Rattle.std.specs.Prelude.{ℕ, ◌≡◌, Bool, true, false, cond, List, [], ◌∷◌, ◌++◌, map, eqb, length, take, get_or}
use Rattle.crtp.specs.Face.{Settings}
use Rattle.crtp.specs.Robust.{Bytes, Sent, Bounded}
use Rattle.crtp.specs.Unsaved as crtp
use Rattle.crtp.specs.Unsaved.{Ordered, lost, losses, AllFit}
use Rattle.endpoint.specs.declared.answer.Endpoint.{Endpoint}
use Rattle.endpoint.specs.Answer.{Result}
use Rattle.endpoint.specs.Calls.{context_state, open_of, radio_of}
use Rattle.endpoint.specs.History as one

---- The two endpoints

pub data Side : Type 0 where
  near : Side
  far : Side

-- the one on the other side
abbrev pub across : Side → Side
across near = far
across far = near

-- what there is of one side: its endpoint, and what its accepted sends gave out so far, in order
pub record Half : Type 0 where
  pub endpoint : Endpoint
  pub sent : List Sent

abbrev pub World : Type 0
World = Side → Half

abbrev pub same : Side → Side → Bool
same near near = true
same near far = false
same far near = false
same far far = true

abbrev pub with : World → Side → Half → World
with w s h x = cond (same s x) h (w x)

---- The list of calls

-- rule 13.7: a call at either side, any packet from its wire or its radio or a report; and the arrival from the radio of what the
-- i-th accepted send across gave out, with its very type and bytes
pub data Call : Type 0 where
  at : Side → one.Call → Call
  arrival : Side → (i : ℕ) (output : Bytes) → Call

abbrev pub given : List ℕ → Result → List Sent
given p r = cond (eqb r.number 0) (record { packet = p; kind = r.kind; bytes = take r.length r.output } ∷ []) []

abbrev pub sent_after : List Sent → one.Call → Result → List Sent
sent_after es (one.wire p output) r = es ++ given p.list r
sent_after es (one.radio kind s output) r = es
sent_after es (one.report output) r = es

-- the i-th packet that a side gave out
abbrev pub sent_at : World → Side → ℕ → Sent
sent_at w s i = get_or (w s).sent i (record { packet = []; kind = 0; bytes = [] })

-- rule 13.7: what an arrival at a side answers
abbrev pub answer : World → Side → (i : ℕ) (output : Bytes) → Result
answer w s i output =
    let e = sent_at w (across s) i in
    radio_of (w s).endpoint e.kind e.bytes output.list

abbrev pub step : World → Call → World
step w (at s x) =
    let r = one.answer (w s).endpoint x in
    with w s (record { endpoint = r.endpoint; sent = sent_after (w s).sent x r })
step w (arrival s i output) = with w s (record { endpoint = (answer w s i output).endpoint; sent = (w s).sent })

abbrev pub after : World → List Call → World
after w [] = w
after w (x ∷ xs) = after (step w x) xs

---- One direction: from side d to the one across

-- a call at the sending side, as a call of crtp's: its sends and the requests that reach it count, its arrivals and reports do not
abbrev pub sending : one.Call → crtp.Call
sending (one.wire p output) = crtp.send p output
sending (one.radio kind s output) = cond (eqb kind context_state) (crtp.request s) crtp.other
sending (one.report output) = crtp.other

-- rule 13.7: a call seen from that direction; at the receiving side the arrivals count, and nothing else
abbrev pub seen : Side → Call → crtp.Call
seen d (at s x) = cond (same d s) (sending x) crtp.other
seen d (arrival s i output) = cond (same d s) crtp.other (crtp.arrival i output)

-- the tables of that direction, and what was given out
abbrev pub view : Side → World → crtp.World
view d w = record {
  compressor = (w d).endpoint.compressor;
  decompressor = (w (across d)).endpoint.decompressor;
  sent = (w d).sent;
}

-- rule 13.7: at the receiving side, what the radio brings besides the arrivals is for the compressor
abbrev pub asks : one.Call → Bool
asks (one.wire p output) = true
asks (one.radio kind s output) = eqb kind context_state
asks (one.report output) = true

abbrev pub proper : Side → Call → Bool
proper d (at s x) = cond (same d s) true (asks x)
proper d (arrival s i output) = true

abbrev pub AllProper : Side → List Call → Type 0
AllProper d [] = Unit {0}
AllProper d (x ∷ xs) = (proper d x ≡ true) × AllProper d xs

---- The claim

-- rule 10.5: accepted, with as many bytes as the packet that went in, and the same
pub record Rebuilt (packet : List ℕ) (r : Result) : Type 0 where
  pub accepted : r.number ≡ 0
  pub whole : r.length ≡ length packet
  pub exact : take (length packet) r.output ≡ packet

-- rule 13.8: an arrival across from d that is not lost is rebuilt; all: the whole list
abbrev pub Right : Side → (all : List Call) → World → Call → Type 0
Right d all w (at s x) = Unit {0}
Right d all w (arrival s i output) =
    same d s ≡ false → lost (map (seen d) all) i (length (sent_at w d i).packet) ≡ false
    → Rebuilt (sent_at w d i).packet (answer w s i output)

abbrev pub Exact : Side → (all : List Call) → World → List Call → Type 0
Exact d all w [] = Unit {0}
Exact d all w (x ∷ xs) = Right d all w x × Exact d all (step w x) xs

-- rule 13.7: both endpoints were opened with these settings and accepted them, whatever they held before
pub record Opened (s : Settings) (w : World) : Type 0 where
  pub earlier : Side → Endpoint
  pub accepted : (x : Side) → (open_of (earlier x) s.repeats s.contexts).number ≡ 0
  pub opened : (x : Side) → (w x).endpoint ≡ (open_of (earlier x) s.repeats s.contexts).endpoint
  pub nothing : (x : Side) → (w x).sent ≡ []

-- rule 13.7: all that is asked, for the direction from d
pub record Premises (s : Settings) (d : Side) (w : World) (xs : List Call) : Type 0 where
  pub opened : Opened s w
  pub proper : AllProper d xs
  pub ordered : Ordered (view d w) 0 (map (seen d) xs)
  pub bounded : (c : ℕ) → Bounded s.repeats (losses c (map (seen d) xs) 0 (after w xs d).sent)
  pub fits : AllFit (map (seen d) xs) (after w xs d).sent (map (seen d) xs)

-- rule 13.8
abbrev pub Facing : Type 0
Facing = (s : Settings) (d : Side) (w : World) (xs : List Call) → Premises s d w xs → Exact d xs w xs
