-- Iarwennol. The literal reading of what a load undoes (rule 10.8): a packet that was rebuilt between a save and a load of what it
-- gave out is lost for ever after, even where a table that was saved after the packet is loaded later. It counts more losses than
-- the line does (rule 10.7), so it asks more of the radio; the claim of Calls implies the claim in this reading
-- (proofs/Literal.antt).
-- Used by crtp, for its two ends.
use Rattle.std.specs.Prelude.{◌≡◌, Bool, true, false, not, ◌&&◌, ◌||◌, List, [], ◌∷◌, ◌++◌, ℕ, ◌≤◌, ◌<◌, ltb, eqb, length, get_or}
use Rattle.std.proofs.Math.Option.{Option, none, some}
use Rattle.std.proofs.Math.Seq.{slice}
use Rattle.calls.specs.Calls.{Call, send_call, request_call, arrival_call, save_call, load_call, other_call, World, Ends, is_on}
use Rattle.calls.specs.Calls.{Bounded, Gap, losses, packet_at, link_at, step, Always, AtArrival, Exact, fresh}

---- What is lost

-- what is counted beside the world, which has no word for it
pub record Tally : Type 0 where
  pub rebuilt : ℕ → Bool  -- the packets that arrived with room so far
  pub undone : ℕ → Bool  -- those of them that a load undid
  pub before : List (ℕ → Bool)  -- of each accepted save, the packets that had arrived with room before it

abbrev pub untold : Tally
untold = record { rebuilt = λ m. false; undone = λ m. false; before = [] }

abbrev pub lost_by : Tally → ℕ → Bool
lost_by t m = not (t.rebuilt m) || t.undone m

abbrev pub noted : {F : Type 0} → Option F → (ℕ → Bool) → List (ℕ → Bool)
noted none r = []
noted (some f) r = r ∷ []

module _ {P L B Q F C D SA Ra : Type 0} (ε : Ends P L B Q F C D SA Ra) where
  -- a load undoes every packet that arrived with room and had not done so before the save
  abbrev pub count : World P L F C D → Tally → Call P B Q D → Tally
  count w t (send_call p b) = t
  count w t (request_call q) = t
  count w t (arrival_call i b) =
      let roomy = not (ltb (ε.room b) (ε.size (packet_at ε w i))) in
      record { rebuilt = λ m. (eqb i m && roomy) || t.rebuilt m; undone = t.undone; before = t.before }
  count w t (save_call b) =
      let more = noted (ε.save w.decompressor b) t.rebuilt in
      record { rebuilt = t.rebuilt; undone = t.undone; before = t.before ++ more }
  count w t (load_call i d) =
      let had = get_or t.before i (λ m. false) in
      record { rebuilt = t.rebuilt; undone = λ m. t.undone m || (t.rebuilt m && not (had m)); before = t.before }
  count w t other_call = t

  ---- The premises, as to context c; they differ from those of Calls in what is lost alone

  pub record ProperBy (n c : ℕ) (w : World P L F C D) (t : Tally) (i : ℕ) : Type 0 where
    pub sent : i < length w.log
    pub order : w.next ≤ i
    pub bounded : Bounded n (losses ε c (lost_by t) 0 (slice 0 i w.log))
    pub fit : is_on (ε.context (link_at ε w i)) c ≡ true → Gap (losses ε c (lost_by t) 0 (slice 0 i w.log)) →
        ε.Fit (packet_at ε w i)

  abbrev pub AllowedBy : (n c : ℕ) → World P L F C D → Tally → Call P B Q D → Type 0
  AllowedBy n c w t (send_call p b) = Unit {0}
  AllowedBy n c w t (request_call q) = Unit {0}
  AllowedBy n c w t (arrival_call i b) = ProperBy n c w t i
  AllowedBy n c w t (save_call b) = Unit {0}
  AllowedBy n c w t (load_call i d) = i < length w.saves
  AllowedBy n c w t other_call = Unit {0}

  abbrev pub AlwaysBy : (n c : ℕ) → World P L F C D → Tally → List (Call P B Q D) → Type 0
  AlwaysBy n c w t [] = Unit {0}
  AlwaysBy n c w t (x ∷ xs) = AllowedBy n c w t x × AlwaysBy n c (step ε w x) (count w t x) xs

  ---- The claim

  -- rule 10.8: with losses counted so, every arrival with room is right
  abbrev pub Literal : ℕ → C → D → Type 0
  Literal n s v = (xs : List (Call P B Q D)) →
      ((c : ℕ) → AlwaysBy n c (fresh ε s v) untold xs) → Always ε (AtArrival ε (Exact ε)) (fresh ε s v) xs
