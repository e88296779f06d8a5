-- Iarwennol. A corollary of robustness, stated (rule 10.6): what an arrival rebuilds to depends on the sends and requests alone,
-- not on what else arrived, was lost, saved or loaded. Its proof is `alike` (proofs/Alike.antt).
use Rattle.std.specs.Prelude.{ℕ, ◌≡◌, List, [], ◌∷◌, ◌++◌, take}
use Rattle.settings.specs.declared.Settings.{Settings}
use Rattle.compressor.specs.declared.table.Table as compressor
use Rattle.decompressor.specs.declared.table.Table as decompressor
use Rattle.decompressor.specs.Answer as receiving
use Rattle.crtp.specs.Robust.{Bytes, Call, send, request, arrival, save, load, other, after, answer, fresh, Premises}

-- a list's sends and requests, in order
abbrev pub asked : List Call → List Call
asked [] = []
asked (send p output ∷ xs) = send p output ∷ asked xs
asked (request q ∷ xs) = request q ∷ asked xs
asked (arrival i output ∷ xs) = asked xs
asked (save output ∷ xs) = asked xs
asked (load i handed ∷ xs) = asked xs
asked (other ∷ xs) = asked xs

-- an arrival of the i-th packet somewhere in a list
pub record Arrival (xs : List Call) (i : ℕ) : Type 0 where
  pub before : List Call
  pub output : Bytes
  pub later : List Call
  pub here : xs ≡ before ++ (arrival i output ∷ later)

-- what it answers, in the world that the calls before it left
abbrev pub answer_of : compressor.Table → decompressor.Table → (xs : List Call) (i : ℕ) → Arrival xs i → receiving.Result
answer_of t d xs i a = answer (after (fresh t d) a.before) i a.output

-- the same length, and the same bytes
pub record Same (r q : receiving.Result) : Type 0 where
  pub length : r.length ≡ q.length
  pub bytes : take r.length r.output ≡ take q.length q.output

-- rule 10.6: two lists with the same sends and requests, each meeting the premises: an arrival of the same send that is accepted in
-- both gives out the same packet
abbrev pub Alike : Type 0
Alike =
    (s : Settings) (t u : compressor.Table) (d e : decompressor.Table) (xs ys : List Call) → Premises s t d xs → Premises s u e ys
    → asked xs ≡ asked ys → (i : ℕ) (a : Arrival xs i) (b : Arrival ys i) → (answer_of t d xs i a).number ≡ 0
    → (answer_of u e ys i b).number ≡ 0 → Same (answer_of t d xs i a) (answer_of u e ys i b)
