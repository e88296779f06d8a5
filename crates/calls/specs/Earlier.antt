-- Iarwennol. The claim for lists without saves and loads, in the words of rules 10.2 to 10.5 and 10.9: what is lost is found by
-- going through the list's arrivals. The claim of Calls implies it (proofs/Earlier.antt).
-- Used by crtp, whose statement over bytes has these words.
use Rattle.std.specs.Prelude.{◌≡◌, Bool, true, false, cond, List, [], ◌∷◌, ℕ, suc, ◌≤◌, ◌<◌, ltb, eqb, length, get_or, take}
use Rattle.calls.specs.Calls.{Call, send_call, request_call, arrival_call, save_call, load_call, other_call, Sent, World, Ends}
use Rattle.calls.specs.Calls.{is_on, Bounded, Gap, packet_at, arrived, step, final, fresh}

-- an arrival: of the index-th packet given out, with the output handed over
pub record Arrival (B : Type 0) : Type 0 where
  pub index : ℕ
  pub buffer : B

module _ {P L B Q F C D SA Ra : Type 0} (ε : Ends P L B Q F C D SA Ra) where
  abbrev pub arrivals : List (Call P B Q D) → List (Arrival B)
  arrivals [] = []
  arrivals (send_call p b ∷ xs) = arrivals xs
  arrivals (request_call q ∷ xs) = arrivals xs
  arrivals (arrival_call i b ∷ xs) = record { index = i; buffer = b } ∷ arrivals xs
  arrivals (save_call b ∷ xs) = arrivals xs
  arrivals (load_call i d ∷ xs) = arrivals xs
  arrivals (other_call ∷ xs) = arrivals xs

  -- Rule 10.3: whether the i-th packet, of that length when it went in, is lost. The first arrival of it or of one sent later
  -- decides: if it is the packet itself, it is lost where the output is shorter than the packet; if it is a later one, it is lost.
  abbrev pub lost_in : List (Arrival B) → (i len : ℕ) → Bool
  lost_in [] i len = false
  lost_in (a ∷ ar) i len = cond (eqb a.index i) (ltb (ε.room a.buffer) len) (cond (ltb i a.index) true (lost_in ar i len))

  -- rule 10.4: the packets on context c in the order sent: which are lost. i is the first one's number
  abbrev pub marks : (c : ℕ) → List (Arrival B) → (i : ℕ) → List (Sent P L) → List Bool
  marks c ar i [] = []
  marks c ar i (e ∷ es) =
      cond (is_on (ε.context e.link) c) (lost_in ar i (ε.size e.orig) ∷ marks c ar (suc i) es) (marks c ar (suc i) es)

  -- rule 10.2: an arrival is of a send that was accepted before it; what was sent first arrives first, and nothing twice. And there
  -- are no saves and no loads. m: the first that may arrive
  abbrev pub Lawful : World P L F C D → (m : ℕ) → List (Call P B Q D) → Type 0
  Lawful w m [] = Unit {0}
  Lawful w m (send_call p b ∷ xs) = Lawful (step ε w (send_call p b)) m xs
  Lawful w m (request_call q ∷ xs) = Lawful (step ε w (request_call q)) m xs
  Lawful w m (arrival_call i b ∷ xs) = (m ≤ i) × (i < length w.log) × Lawful (step ε w (arrival_call i b)) (suc i) xs
  Lawful w m (save_call b ∷ xs) = ⊥
  Lawful w m (load_call i d ∷ xs) = ⊥
  Lawful w m (other_call ∷ xs) = Lawful w m xs

  -- Rule 10.9: where the i-th packet arrives right after a gap on context c, it is fit for that; all: the arrivals of the list,
  -- log: all that was given out. And the same of some arrivals
  abbrev pub FitAt : (c : ℕ) → (all : List (Arrival B)) → (log : List (Sent P L)) → (i : ℕ) → Type 0
  FitAt c all log i =
      is_on (ε.context (get_or log i ε.nothing).link) c ≡ true → Gap (marks c all 0 (take i log)) →
      ε.Fit (get_or log i ε.nothing).orig

  abbrev pub FitIn : (c : ℕ) → (all : List (Arrival B)) → (log : List (Sent P L)) → List (Arrival B) → Type 0
  FitIn c all log [] = Unit {0}
  FitIn c all log (a ∷ ar) = FitAt c all log a.index × FitIn c all log ar

  -- rule 10.5: each arrival that is not lost is right; ar: all the arrivals of the list
  abbrev pub ExactIn : List (Arrival B) → World P L F C D → List (Call P B Q D) → Type 0
  ExactIn ar w [] = Unit {0}
  ExactIn ar w (send_call p b ∷ xs) = ExactIn ar (step ε w (send_call p b)) xs
  ExactIn ar w (request_call q ∷ xs) = ExactIn ar (step ε w (request_call q)) xs
  ExactIn ar w (arrival_call i b ∷ xs) =
      (lost_in ar i (ε.size (packet_at ε w i)) ≡ false → ε.Right (packet_at ε w i) (arrived ε w i b))
      × ExactIn ar (step ε w (arrival_call i b)) xs
  ExactIn ar w (save_call b ∷ xs) = ExactIn ar (step ε w (save_call b)) xs
  ExactIn ar w (load_call i d ∷ xs) = ExactIn ar (step ε w (load_call i d)) xs
  ExactIn ar w (other_call ∷ xs) = ExactIn ar w xs

  -- rules 10.2 to 10.5 and 10.9: the claim, from two tables on
  abbrev pub Earlier : ℕ → C → D → Type 0
  Earlier n s v = (xs : List (Call P B Q D)) →
      Lawful (fresh ε s v) 0 xs →
      ((c : ℕ) → Bounded n (marks c (arrivals xs) 0 (final ε (fresh ε s v) xs).log)) →
      ((c : ℕ) → FitIn c (arrivals xs) (final ε (fresh ε s v) xs).log (arrivals xs)) →
      ExactIn (arrivals xs) (fresh ε s v) xs
