-- Iarwennol. Robustness of lists without saves and loads, stated (rules 10.1 to 10.5 and 10.9): what is lost is told by the
-- arrivals of the list. Read Robust first, whose words for bytes, for what was sent and for openings it shares; its proof is
-- `unsaved` (proofs/Unsaved.antt), which also shows that such a list meets the premises of Robust.
-- Used by endpoint, whose calls are such lists for each direction.
use Rattle.std.specs.Prelude.{ℕ, suc, ◌≤◌, ◌<◌, ◌≡◌, Bool, true, false, cond, List, [], ◌∷◌, ◌++◌, eqb, ltb, length, get_or, take}
use Rattle.settings.specs.declared.Settings.{Settings}
use Rattle.compressor.specs.declared.table.Table as compressor
use Rattle.compressor.specs.Send.{send_of}
use Rattle.compressor.specs.Request.{request_of}
use Rattle.decompressor.specs.declared.table.Table as decompressor
use Rattle.decompressor.specs.Answer as receiving
use Rattle.decompressor.specs.Receive.{receive_of}
use Rattle.crtp.specs.Robust.{Bytes, Sent, given_out, context_of, is_on, Bounded, Gap, checksum_fits, Rebuilt, Opened}

---- The list of calls

-- rule 10.1: a send of any bytes; a request of any bytes; the arrival of what the i-th accepted send gave out (the first is the
-- 0th); a call that leaves both tables, as a report does. Sends and arrivals have an output of any length
pub data Call : Type 0 where
  send : (packet output : Bytes) → Call
  request : (bytes : Bytes) → Call
  arrival : (i : ℕ) (output : Bytes) → Call
  other : Call

-- both ends' tables, and what was given out so far, in order
pub record World : Type 0 where
  pub compressor : compressor.Table
  pub decompressor : decompressor.Table
  pub sent : List Sent

-- the i-th packet given out
abbrev pub sent_in : List Sent → ℕ → Sent
sent_in es i = get_or es i (record { packet = []; kind = 0; bytes = [] })

abbrev pub sent_at : World → ℕ → Sent
sent_at w i = sent_in w.sent i

-- rule 10.2: what an arrival of it answers, which hands over the very type and bytes
abbrev pub answer : World → (i : ℕ) (output : Bytes) → receiving.Result
answer w i output = receive_of w.decompressor (sent_at w i).kind (sent_at w i).bytes output.list

-- rule 10.1: an end goes on with what its call before left behind, whether that one was refused or not
abbrev pub step : World → Call → World
step w (send p output) =
    let r = send_of w.compressor p.list output.list in
    record { compressor = r.table; decompressor = w.decompressor; sent = w.sent ++ given_out p.list r }
step w (request q) =
    record { compressor = (request_of w.compressor q.list).table; decompressor = w.decompressor; sent = w.sent }
step w (arrival i output) = record { compressor = w.compressor; decompressor = (answer w i output).table; sent = w.sent }
step w other = w

abbrev pub after : World → List Call → World
after w [] = w
after w (x ∷ xs) = after (step w x) xs

---- Arrivals

-- rule 10.2: each is of a send that was accepted before it; what was sent first arrives first, and nothing twice. m: the first that
-- may arrive
abbrev pub Ordered : World → (m : ℕ) → List Call → Type 0
Ordered w m [] = Unit {0}
Ordered w m (send p output ∷ xs) = Ordered (step w (send p output)) m xs
Ordered w m (request q ∷ xs) = Ordered (step w (request q)) m xs
Ordered w m (arrival i output ∷ xs) = (m ≤ i) × (i < length w.sent) × Ordered (step w (arrival i output)) (suc i) xs
Ordered w m (other ∷ xs) = Ordered w m xs

---- What is lost

-- rule 10.3: whether the i-th packet, of so many bytes, is lost: in the order of the list, the first arrival of it or of a later
-- one decides. It arrives with less output than it had bytes; or a later one comes first
abbrev pub lost : List Call → (i size : ℕ) → Bool
lost [] i size = false
lost (send p output ∷ xs) i size = lost xs i size
lost (request q ∷ xs) i size = lost xs i size
lost (arrival k output ∷ xs) i size = cond (eqb k i) (ltb (length output.list) size) (cond (ltb i k) true (lost xs i size))
lost (other ∷ xs) i size = lost xs i size

---- How many may be lost

-- rule 10.4: a mark for each packet of a context number, as they were sent: whether it is lost; i: the first one's number
abbrev pub losses : (context : ℕ) → List Call → (i : ℕ) → List Sent → List Bool
losses c xs i [] = []
losses c xs i (e ∷ es) =
    cond (is_on (context_of e) c) (lost xs i (length e.packet) ∷ losses c xs (suc i) es) (losses c xs (suc i) es)

---- What may follow a gap

-- rule 10.9: if the last packet sent before the i-th on its context number is lost, the UDP checksum of the i-th fits; all: the
-- whole list, es: all that was given out
abbrev pub Fits : (all : List Call) → (es : List Sent) → (i : ℕ) → Type 0
Fits all es i =
    (c : ℕ) → is_on (context_of (sent_in es i)) c ≡ true → Gap (losses c all 0 (take i es)) → checksum_fits (sent_in es i).packet
    ≡ true

-- of every arrival, with room or without
abbrev pub AllFit : (all : List Call) → (es : List Sent) → List Call → Type 0
AllFit all es [] = Unit {0}
AllFit all es (send p output ∷ xs) = AllFit all es xs
AllFit all es (request q ∷ xs) = AllFit all es xs
AllFit all es (arrival i output ∷ xs) = Fits all es i × AllFit all es xs
AllFit all es (other ∷ xs) = AllFit all es xs

---- The claim

-- rule 10.5: every arrival that is not lost is rebuilt; all: the whole list
abbrev pub Exact : (all : List Call) → World → List Call → Type 0
Exact all w [] = Unit {0}
Exact all w (send p output ∷ xs) = Exact all (step w (send p output)) xs
Exact all w (request q ∷ xs) = Exact all (step w (request q)) xs
Exact all w (arrival i output ∷ xs) =
    (lost all i (length (sent_at w i).packet) ≡ false → Rebuilt (sent_at w i).packet (answer w i output))
    × Exact all (step w (arrival i output)) xs
Exact all w (other ∷ xs) = Exact all w xs

-- rules 10.1 to 10.4 and 10.9: all that is asked
pub record Premises (s : Settings) (w : World) (xs : List Call) : Type 0 where
  pub opened : Opened s w.compressor w.decompressor
  pub nothing : w.sent ≡ []
  pub ordered : Ordered w 0 xs
  pub bounded : (c : ℕ) → Bounded s.repeats (losses c xs 0 (after w xs).sent)
  pub fits : AllFit xs (after w xs).sent xs

-- rule 10.5: then every arrival that is not lost is rebuilt
abbrev pub Unsaved : Type 0
Unsaved = (s : Settings) (w : World) (xs : List Call) → Premises s w xs → Exact xs w xs
