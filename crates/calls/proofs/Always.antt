-- Iarwennol. Every call of a list, with the world that it finds: how claims of single calls make claims of lists. Assumes nothing.
-- Used by the theorem (Faithful), and by the corollary over bytes (crtp).
use mathlib.Core.List.{List, [], ◌∷◌, ◌++◌}
use Prim.Native.Nat.{ℕ}
use Rattle.calls.specs.Calls.{Call, send_call, request_call, arrival_call, save_call, load_call, other_call, World, Ends, step}
use Rattle.calls.specs.Calls.{final, Always, AtArrival}

module _ {P L B Q F C D SA Ra : Type 0} (ε : Ends P L B Q F C D SA Ra) where
  module _ (R : World P L F C D → Call P B Q D → Type 0) where
    -- one call among them, and those before it
    pub always-at : (xs ys : List (Call P B Q D)) (x : Call P B Q D) (w : World P L F C D) → Always ε R w (xs ++ (x ∷ ys)) →
        R (final ε w xs) x
    always-at [] ys x w a = a.0
    always-at (z ∷ xs) ys x w a = always-at xs ys x (step ε w z) a.1

    pub always-map : (S : World P L F C D → Call P B Q D → Type 0) → ((w : World P L F C D) (x : Call P B Q D) → R w x → S w x) →
        (xs : List (Call P B Q D)) (w : World P L F C D) → Always ε R w xs → Always ε S w xs
    always-map S f [] w a = tt
    always-map S f (x ∷ xs) w a = (f w x a.0, always-map S f xs (step ε w x) a.1)

    -- what a call asks, by what was kept up to it
    pub always-keep : (S : World P L F C D → Call P B Q D → Type 0) (K : World P L F C D → Type 0) →
        ((w : World P L F C D) (x : Call P B Q D) → K w → R w x → S w x × K (step ε w x)) →
        (xs : List (Call P B Q D)) (w : World P L F C D) → K w → Always ε R w xs → Always ε S w xs
    always-keep S K f [] w k a = tt
    always-keep S K f (x ∷ xs) w k a = ((f w x k a.0).0, always-keep S K f xs (step ε w x) (f w x k a.0).1 a.1)

  -- for every context number
  pub always-each : (R : ℕ → World P L F C D → Call P B Q D → Type 0) (xs : List (Call P B Q D)) (w : World P L F C D) →
      ((c : ℕ) → Always ε (R c) w xs) → Always ε (λ v x. (c : ℕ) → R c v x) w xs
  always-each R [] w a = tt
  always-each R (x ∷ xs) w a = (λ c. (a c).0, always-each R xs (step ε w x) (λ c. (a c).1))

  -- at arrivals
  pub arrival-map : (R S : World P L F C D → ℕ → B → Type 0) → ((w : World P L F C D) (i : ℕ) (b : B) → R w i b → S w i b) →
      (w : World P L F C D) (x : Call P B Q D) → AtArrival ε R w x → AtArrival ε S w x
  arrival-map R S f w (send_call p b) a = tt
  arrival-map R S f w (request_call q) a = tt
  arrival-map R S f w (arrival_call i b) a = f w i b a
  arrival-map R S f w (save_call b) a = tt
  arrival-map R S f w (load_call i d) a = tt
  arrival-map R S f w other_call a = tt

  arrival-each : (R : ℕ → World P L F C D → ℕ → B → Type 0) (w : World P L F C D) (x : Call P B Q D) →
      ((c : ℕ) → AtArrival ε (R c) w x) → AtArrival ε (λ v i b. (c : ℕ) → R c v i b) w x
  arrival-each R w (send_call p b) a = tt
  arrival-each R w (request_call q) a = tt
  arrival-each R w (arrival_call i b) a = a
  arrival-each R w (save_call b) a = tt
  arrival-each R w (load_call i d) a = tt
  arrival-each R w other_call a = tt

  pub arrivals-map : (R S : World P L F C D → ℕ → B → Type 0) → ((w : World P L F C D) (i : ℕ) (b : B) → R w i b → S w i b) →
      (xs : List (Call P B Q D)) (w : World P L F C D) → Always ε (AtArrival ε R) w xs → Always ε (AtArrival ε S) w xs
  arrivals-map R S f = always-map (AtArrival ε R) (AtArrival ε S) (arrival-map R S f)

  pub arrivals-each : (R : ℕ → World P L F C D → ℕ → B → Type 0) (xs : List (Call P B Q D)) (w : World P L F C D) →
      ((c : ℕ) → Always ε (AtArrival ε (R c)) w xs) → Always ε (AtArrival ε (λ v i b. (c : ℕ) → R c v i b)) w xs
  arrivals-each R xs w a =
      always-map (λ v x. (c : ℕ) → AtArrival ε (R c) v x) (AtArrival ε (λ v i b. (c : ℕ) → R c v i b)) (arrival-each R) xs w
      (always-each (λ c. AtArrival ε (R c)) xs w a)
