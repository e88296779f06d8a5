-- Iarwennol. Lists of calls at any two ends of a link (rules 10.1 to 10.5, 10.7): what is sent, what arrives, what is lost, and
-- the claim that what is not lost is rebuilt.
-- P: a packet; L: what a send gives out; B: an output; Q: a request; F: what a save gives out; C, D: the tables of compressor and
-- decompressor; SA, Ra: the answers of a send and of an arrival.
-- Used by crtp, which names its two ends; the statement over bytes there can be read without this file.
use Rattle.std.specs.Prelude.{◌≡◌, Bool, true, false, cond, not, List, [], ◌∷◌, ◌++◌, ℕ, suc, ◌≤◌, ◌<◌, ltb, eqb, length, get_or}
use Rattle.std.specs.Prelude.{replicate}
use Rattle.std.proofs.Math.Option.{Option, none, some}
use Rattle.std.proofs.Math.Seq.{slice}

---- Calls, and the world that they find

-- Rule 10.1: a send; a request; the arrival of what the i-th accepted send gave out (the first is the 0th). At the decompressor
-- also: a save of its table; a load of what the i-th accepted save gave out, handed any table. And a call that leaves both tables,
-- as a report does, or one at another pair of ends.
pub data Call (P B Q D : Type 0) : Type 0 where
  send_call : (p : P) (b : B) → Call P B Q D
  request_call : (q : Q) → Call P B Q D
  arrival_call : (i : ℕ) (b : B) → Call P B Q D
  save_call : (b : B) → Call P B Q D
  load_call : (i : ℕ) (d : D) → Call P B Q D
  other_call : Call P B Q D

-- what an accepted send was handed, and what it gave out
pub record Sent (P L : Type 0) : Type 0 where
  pub orig : P
  pub link : L

-- rule 10.7: what an accepted save gave out, and the line of the table that it saved
pub record Save (F : Type 0) : Type 0 where
  pub form : F
  pub line : List ℕ

-- Rule 10.7: the line of a table has the numbers of the packets that arrived with room in the row of tables that led to it, the
-- last one first.
pub record World (P L F C D : Type 0) : Type 0 where
  pub compressor : C
  pub log : List (Sent P L)  -- what accepted sends gave out so far, in order
  pub decompressor : D
  pub line : List ℕ  -- the line of the decompressor's table
  pub saves : List (Save F)  -- the accepted saves so far, in order
  pub next : ℕ  -- the first packet that may arrive: one more than the last that did

---- The two ends, by their calls

pub record Ends (P L B Q F C D SA Ra : Type 0) : Type 1 where
  pub size : P → ℕ
  pub room : B → ℕ
  pub context : L → Option ℕ  -- the context number that a link packet is on
  pub send : C → P → B → SA
  pub compressor : SA → C  -- the table that the call returned
  pub out : SA → Option L  -- what it gave out; none: refused
  pub request : C → Q → C
  pub receive : D → L → B → Ra
  pub decompressor : Ra → D
  pub save : D → B → Option F  -- what it gave out; none: refused
  pub load : D → F → D
  pub Right : P → Ra → Type 0  -- accepted, with this packet
  pub Lacking : Ra → Type 0  -- refused for want of room
  pub Fit : P → Type 0  -- may arrive right after a gap
  pub nothing : Sent P L
  pub no_form : F

abbrev pub logged : {P L : Type 0} → Option L → P → List (Sent P L)
logged none p = []
logged (some l) p = record { orig = p; link = l } ∷ []

abbrev pub saved : {F : Type 0} → Option F → List ℕ → List (Save F)
saved none line = []
saved (some f) line = record { form = f; line = line } ∷ []

---- What is lost

abbrev pub is_on : Option ℕ → ℕ → Bool
is_on none c = false
is_on (some d) c = eqb d c

abbrev pub has : List ℕ → ℕ → Bool
has [] m = false
has (k ∷ ks) m = cond (eqb k m) true (has ks m)

-- A table has lost every packet that is not in its line: one that did not arrive and one that arrived without room (rule 10.3), and
-- one that arrived only on the way to a table that a load has since put away (rule 10.7).
abbrev pub lost : (line : List ℕ) → ℕ → Bool
lost line m = not (has line m)

-- rule 10.4: at most n in a row are lost
abbrev pub Bounded : ℕ → List Bool → Type 0
Bounded n ms = (a b : List Bool) → ms ≡ a ++ (replicate (suc n) true ++ b) → ⊥

-- the last one is lost
abbrev pub Gap : List Bool → Type 0
Gap ms = (a : List Bool) × (ms ≡ a ++ (true ∷ []))

module _ {P L B Q F C D SA Ra : Type 0} (ε : Ends P L B Q F C D SA Ra) where
  -- rule 10.4: of the packets on context c, in the order sent, which are gone; i: the first one's number
  abbrev pub losses : (c : ℕ) (gone : ℕ → Bool) (i : ℕ) → List (Sent P L) → List Bool
  losses c gone i [] = []
  losses c gone i (e ∷ es) = cond (is_on (ε.context e.link) c) (gone i ∷ losses c gone (suc i) es) (losses c gone (suc i) es)

  -- at an arrival of packet i: of the packets sent before it, from number `from` on, which are lost
  abbrev pub losses_at : (from c : ℕ) → World P L F C D → (i : ℕ) → List Bool
  losses_at from c w i = losses c (lost w.line) from (slice from i w.log)

  ---- What a call does

  abbrev pub packet_at : World P L F C D → ℕ → P
  packet_at w i = (get_or w.log i ε.nothing).orig

  abbrev pub link_at : World P L F C D → ℕ → L
  link_at w i = (get_or w.log i ε.nothing).link

  abbrev pub save_at : World P L F C D → ℕ → Save F
  save_at w i = get_or w.saves i (record { form = ε.no_form; line = [] })

  -- rule 10.2: an arrival's answer: the decompressor is handed what the send gave out
  abbrev pub arrived : World P L F C D → (i : ℕ) (b : B) → Ra
  arrived w i b = ε.receive w.decompressor (link_at w i) b

  -- rule 10.1: the two ends after a call
  abbrev pub step : World P L F C D → Call P B Q D → World P L F C D
  step w (send_call p b) =
      let o = ε.send w.compressor p b in
      record {
        compressor = ε.compressor o;
        log = w.log ++ logged (ε.out o) p;
        decompressor = w.decompressor;
        line = w.line;
        saves = w.saves;
        next = w.next;
      }
  step w (request_call q) = record {
    compressor = ε.request w.compressor q;
    log = w.log;
    decompressor = w.decompressor;
    line = w.line;
    saves = w.saves;
    next = w.next;
  }
  step w (arrival_call i b) = record {
    compressor = w.compressor;
    log = w.log;
    decompressor = ε.decompressor (arrived w i b);
    line = cond (ltb (ε.room b) (ε.size (packet_at w i))) w.line (i ∷ w.line);
    saves = w.saves;
    next = suc i;
  }
  step w (save_call b) = record {
    compressor = w.compressor;
    log = w.log;
    decompressor = w.decompressor;
    line = w.line;
    saves = w.saves ++ saved (ε.save w.decompressor b) w.line;
    next = w.next;
  }
  step w (load_call i d) = record {
    compressor = w.compressor;
    log = w.log;
    decompressor = ε.load d (save_at w i).form;
    line = (save_at w i).line;
    saves = w.saves;
    next = w.next;
  }
  step w other_call = w

  abbrev pub final : World P L F C D → List (Call P B Q D) → World P L F C D
  final w [] = w
  final w (x ∷ xs) = final (step w x) xs

  -- every call of a list, with the world that it finds
  abbrev pub Always : (World P L F C D → Call P B Q D → Type 0) → World P L F C D → List (Call P B Q D) → Type 0
  Always R w [] = Unit {0}
  Always R w (x ∷ xs) = R w x × Always R (step w x) xs

  ---- The premises, as to context c, counting the packets from number `from` on

  pub record Proper (n from c : ℕ) (w : World P L F C D) (i : ℕ) : Type 0 where
    -- rule 10.2: the send was accepted and came before it; what was sent later has not arrived yet, nor this one before
    pub sent : i < length w.log
    pub order : w.next ≤ i
    -- rule 10.4: of the packets on c sent before it at most n in a row are lost
    pub bounded : Bounded n (losses_at from c w i)
    -- on c, right after a gap, it is fit for that
    pub fit : is_on (ε.context (link_at w i)) c ≡ true → Gap (losses_at from c w i) → ε.Fit (packet_at w i)

  -- each arrival is proper, and each load is of an accepted save earlier in the list
  abbrev pub Allowed : (n from c : ℕ) → World P L F C D → Call P B Q D → Type 0
  Allowed n from c w (send_call p b) = Unit {0}
  Allowed n from c w (request_call q) = Unit {0}
  Allowed n from c w (arrival_call i b) = Proper n from c w i
  Allowed n from c w (save_call b) = Unit {0}
  Allowed n from c w (load_call i d) = i < length w.saves
  Allowed n from c w other_call = Unit {0}

  ---- The claim

  -- a link packet of p is answered rightly by a decompressor's table, whatever the output
  abbrev pub Answers : P → L → D → Type 0
  Answers p l v = (b : B) →
      (ε.size p ≤ ε.room b → ε.Right p (ε.receive v l b)) × (ε.room b < ε.size p → ε.Lacking (ε.receive v l b))

  -- the arrivals among the calls, with what is claimed of them
  abbrev pub AtArrival : (World P L F C D → (i : ℕ) (b : B) → Type 0) → World P L F C D → Call P B Q D → Type 0
  AtArrival R w (send_call p b) = Unit {0}
  AtArrival R w (request_call q) = Unit {0}
  AtArrival R w (arrival_call i b) = R w i b
  AtArrival R w (save_call b) = Unit {0}
  AtArrival R w (load_call i d) = Unit {0}
  AtArrival R w other_call = Unit {0}

  -- rule 10.5: with room it is right
  abbrev pub Exact : World P L F C D → (i : ℕ) (b : B) → Type 0
  Exact w i b = ε.size (packet_at w i) ≤ ε.room b → ε.Right (packet_at w i) (arrived w i b)

  -- with room or without, it finds a table that answers it rightly
  abbrev pub Answered : World P L F C D → (i : ℕ) (b : B) → Type 0
  Answered w i b = Answers (packet_at w i) (link_at w i) w.decompressor

  abbrev pub fresh : C → D → World P L F C D
  fresh s v = record { compressor = s; log = []; decompressor = v; line = []; saves = []; next = 0 }

  -- Rules 10.1 to 10.5, from two tables on: a list that is allowed as to every context number has every arrival with room right.
  abbrev pub Faithful : ℕ → C → D → Type 0
  Faithful n s v = (xs : List (Call P B Q D)) →
      ((c : ℕ) → Always (Allowed n 0 c) (fresh s v) xs) → Always (AtArrival Exact) (fresh s v) xs
