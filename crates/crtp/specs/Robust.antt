-- Iarwennol. Robustness, stated (rules 10.1 to 10.5, 10.7 and 10.9): one claim about whole lists of calls, over bytes, about the
-- very definitions that the contracts of the calls cite. This file can be read alone; its proof is `robust` (proofs/Robust.antt).
-- Unsaved has the claim for lists without saves and loads, where what is lost can be told by the arrivals alone.
use Rattle.std.specs.Prelude.{ℕ, suc, ◌≤◌, ◌<◌, ◌≡◌, Bool, true, false, cond, not, ◌||◌, List, [], ◌∷◌, ◌++◌, eqb, ltb, length}
use Rattle.std.specs.Prelude.{get_or, take, replicate}
use Rattle.std.proofs.Math.Option.{Option, none, some}
use Rattle.codes.specs.Bytes.{AllBytes}
use Rattle.codes.specs.Reading.{word_at}
use Rattle.headers.specs.UdpChecksum.{udp_right}
use Rattle.settings.specs.declared.Settings.{Settings}
use Rattle.compressor.specs.declared.table.Table as compressor
use Rattle.compressor.specs.Answer as sending
use Rattle.compressor.specs.Table as compressing
use Rattle.compressor.specs.Send.{send_of}
use Rattle.compressor.specs.Request.{request_of}
use Rattle.decompressor.specs.declared.table.Table as decompressor
use Rattle.decompressor.specs.Answer as receiving
use Rattle.decompressor.specs.Table as decompressing
use Rattle.decompressor.specs.Receive.{receive_of}
use Rattle.saves.specs.Saves.{save_of, load_of}

-- any bytes
pub record Bytes : Type 0 where
  pub list : List ℕ
  pub small : AllBytes list

---- The list of calls

-- rule 10.1: a send of any bytes; a request of any bytes; the arrival of what the i-th accepted send gave out (the first is the
-- 0th); a save of the decompressor's table; a load of the bytes that the i-th accepted save gave out, handed any table; a call that
-- leaves both tables, as a report does. Sends, arrivals and saves have an output of any length
pub data Call : Type 0 where
  send : (packet output : Bytes) → Call
  request : (bytes : Bytes) → Call
  arrival : (i : ℕ) (output : Bytes) → Call
  save : (output : Bytes) → Call
  load : (i : ℕ) (handed : decompressor.Table) → Call
  other : Call

-- a packet that an accepted send was handed, and what it gave out: link type and bytes
pub record Sent : Type 0 where
  pub packet : List ℕ
  pub kind : ℕ
  pub bytes : List ℕ

-- rule 10.7: the bytes that an accepted save gave out, and the line of the table that it saved
pub record Saved : Type 0 where
  pub bytes : List ℕ
  pub line : List ℕ

-- Both ends' tables, and what was given out so far, in order. Rule 10.7: the line of a decompressor's table has the numbers of the
-- packets that arrived with room in the row of tables that led to it, the last one first
pub record World : Type 0 where
  pub compressor : compressor.Table
  pub decompressor : decompressor.Table
  pub sent : List Sent
  pub line : List ℕ  -- of the decompressor's table
  pub saved : List Saved
  pub next : ℕ  -- the first packet that may arrive: one more than the last that did

abbrev pub given_out : List ℕ → sending.Result → List Sent
given_out p r = cond (eqb r.number 0) (record { packet = p; kind = r.kind; bytes = take r.length r.output } ∷ []) []

abbrev pub saved_by : (line : List ℕ) → receiving.Result → List Saved
saved_by line r = cond (eqb r.number 0) (record { bytes = take r.length r.output; line = line } ∷ []) []

-- the i-th packet given out, and the i-th save
abbrev pub sent_at : World → ℕ → Sent
sent_at w i = get_or w.sent i (record { packet = []; kind = 0; bytes = [] })

abbrev pub saved_at : World → ℕ → Saved
saved_at w i = get_or w.saved i (record { bytes = []; line = [] })

-- rule 10.2: what an arrival of it answers, which hands over the very type and bytes
abbrev pub answer : World → (i : ℕ) (output : Bytes) → receiving.Result
answer w i output = receive_of w.decompressor (sent_at w i).kind (sent_at w i).bytes output.list

-- rule 10.1: an end goes on with what its call before left behind, whether that one was refused or not; a load alone may be handed
-- another table. Rule 10.7: an arrival with room puts its packet into the line, a save notes the line, a load puts it back
abbrev pub step : World → Call → World
step w (send p output) =
    let r = send_of w.compressor p.list output.list in
    record {
      compressor = r.table;
      decompressor = w.decompressor;
      sent = w.sent ++ given_out p.list r;
      line = w.line;
      saved = w.saved;
      next = w.next;
    }
step w (request q) = record {
  compressor = (request_of w.compressor q.list).table;
  decompressor = w.decompressor;
  sent = w.sent;
  line = w.line;
  saved = w.saved;
  next = w.next;
}
step w (arrival i output) = record {
  compressor = w.compressor;
  decompressor = (answer w i output).table;
  sent = w.sent;
  line = cond (ltb (length output.list) (length (sent_at w i).packet)) w.line (i ∷ w.line);
  saved = w.saved;
  next = suc i;
}
step w (save output) =
    let r = save_of w.decompressor output.list in
    record {
      compressor = w.compressor;
      decompressor = r.table;
      sent = w.sent;
      line = w.line;
      saved = w.saved ++ saved_by w.line r;
      next = w.next;
    }
step w (load i handed) = record {
  compressor = w.compressor;
  decompressor = (load_of handed (saved_at w i).bytes).table;
  sent = w.sent;
  line = (saved_at w i).line;
  saved = w.saved;
  next = w.next;
}
step w other = w

abbrev pub after : World → List Call → World
after w [] = w
after w (x ∷ xs) = after (step w x) xs

-- each call of a list, in the world that it finds
abbrev pub Always : (World → Call → Type 0) → World → List Call → Type 0
Always R w [] = Unit {0}
Always R w (x ∷ xs) = R w x × Always R (step w x) xs

---- What is lost

-- rule 10.3: the context number that a link packet's bytes name, where its type has it; a plain one is on none
abbrev pub context_of : Sent → Option ℕ
context_of e = cond (eqb e.kind 0) none (cond (eqb e.kind 1) (some (get_or e.bytes 3 0)) (some (get_or e.bytes 0 0)))

abbrev pub is_on : Option ℕ → ℕ → Bool
is_on none c = false
is_on (some d) c = eqb d c

abbrev pub has : (line : List ℕ) → ℕ → Bool
has [] m = false
has (k ∷ ks) m = cond (eqb k m) true (has ks m)

-- rules 10.3, 10.7: when a later packet arrives, a packet is lost if the line has it not: it did not arrive, or arrived without
-- room, or arrived only on the way to a table that a load has since put away
abbrev pub lost : (line : List ℕ) → ℕ → Bool
lost line m = not (has line m)

---- How many may be lost

-- rule 10.4: a mark for each packet of a context number, as they were sent: whether it is lost; i: the first one's number
abbrev pub losses : (context : ℕ) (line : List ℕ) (i : ℕ) → List Sent → List Bool
losses c line i [] = []
losses c line i (e ∷ es) = cond (is_on (context_of e) c) (lost line i ∷ losses c line (suc i) es) (losses c line (suc i) es)

-- rule 10.4: at most n in a row are lost
abbrev pub Bounded : ℕ → List Bool → Type 0
Bounded n marks = (a b : List Bool) → marks ≡ a ++ (replicate (suc n) true ++ b) → ⊥

---- What may follow a gap

-- rule 10.9: the last packet of a context number is lost
abbrev pub Gap : List Bool → Type 0
Gap marks = (a : List Bool) × (marks ≡ a ++ (true ∷ []))

-- rule 10.9: a packet's UDP checksum is blank, or right
abbrev pub checksum_fits : (packet : List ℕ) → Bool
checksum_fits p = eqb (word_at p 26) 0 || udp_right p

---- Arrivals and loads

pub record Proper (n : ℕ) (w : World) (i : ℕ) : Type 0 where
  -- rule 10.2: it is of a send that was accepted before it; what was sent first arrives first, and nothing twice
  pub given : i < length w.sent
  pub order : w.next ≤ i
  -- rule 10.4: of the packets sent before it, for every context number
  pub bounded : (c : ℕ) → Bounded n (losses c w.line 0 (take i w.sent))
  -- rule 10.9: if the last packet sent before it on its context number is lost, its UDP checksum fits; with room or without
  pub fits : (c : ℕ) → is_on (context_of (sent_at w i)) c ≡ true → Gap (losses c w.line 0 (take i w.sent))
      → checksum_fits (sent_at w i).packet ≡ true

-- rules 10.1, 10.2: each arrival is so, and each load is of a save that was accepted before it
abbrev pub Allowed : (n : ℕ) → World → Call → Type 0
Allowed n w (send p output) = Unit {0}
Allowed n w (request q) = Unit {0}
Allowed n w (arrival i output) = Proper n w i
Allowed n w (save output) = Unit {0}
Allowed n w (load i handed) = i < length w.saved
Allowed n w other = Unit {0}

---- The claim

-- rule 10.5: accepted, with as many bytes as the packet that went in, and the same
pub record Rebuilt (packet : List ℕ) (r : receiving.Result) : Type 0 where
  pub accepted : r.number ≡ 0
  pub whole : r.length ≡ length packet
  pub exact : take (length packet) r.output ≡ packet

-- rule 10.5: an arrival with room is rebuilt
abbrev pub Exact : World → Call → Type 0
Exact w (send p output) = Unit {0}
Exact w (request q) = Unit {0}
Exact w (arrival i output) =
    length (sent_at w i).packet ≤ length output.list → Rebuilt (sent_at w i).packet (answer w i output)
Exact w (save output) = Unit {0}
Exact w (load i handed) = Unit {0}
Exact w other = Unit {0}

-- rule 10.1: both ends were opened with these settings and accepted them, whatever their tables held before
pub record Opened (s : Settings) (t : compressor.Table) (d : decompressor.Table) : Type 0 where
  pub earlier_c : compressor.Table
  pub earlier_d : decompressor.Table
  pub accepted_c : (compressing.open_of earlier_c s.repeats s.contexts).number ≡ 0
  pub accepted_d : (decompressing.open_of earlier_d s.repeats s.contexts).number ≡ 0
  pub compressor : t ≡ (compressing.open_of earlier_c s.repeats s.contexts).table
  pub decompressor : d ≡ (decompressing.open_of earlier_d s.repeats s.contexts).table

-- nothing sent, arrived or saved yet
abbrev pub fresh : compressor.Table → decompressor.Table → World
fresh t d = record { compressor = t; decompressor = d; sent = []; line = []; saved = []; next = 0 }

-- rules 10.1 to 10.4, 10.7 and 10.9: all that is asked
pub record Premises (s : Settings) (t : compressor.Table) (d : decompressor.Table) (xs : List Call) : Type 0 where
  pub opened : Opened s t d
  pub allowed : Always (Allowed s.repeats) (fresh t d) xs

-- rule 10.5: then every arrival with room is rebuilt
abbrev pub Robust : Type 0
Robust = (s : Settings) (t : compressor.Table) (d : decompressor.Table) (xs : List Call) →
    Premises s t d xs → Always Exact (fresh t d) xs
