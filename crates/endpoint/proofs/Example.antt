-- Iarwennol. The premises on two endpoints can be met in one direction while they are missed in the other. Assumes nothing.
-- From near to far goes crtp's own example, with what is lost in it; from far to near the first three packets are lost, the fourth
-- is refused, near reports it, and the report reaches far; then the radio brings near a packet that nobody sent. N 1, K 2.
use Prim.Native.Nat.{ℕ}
use mathlib.Core.Path.{◌≡◌, refl, sym, ap, ◌∙◌, subst}
use mathlib.Core.Bool.{Bool, true, cond, ◌&&◌, and-eq-true_iff}
use mathlib.Core.List.{List, [], ◌∷◌, ◌++◌, map}
use lib.Dec.{eqb}
use Rattle.crtp.specs.Face.{first_refusal}
use Rattle.crtp.specs.Robust.{Bounded}
use Rattle.crtp.specs.Unsaved as unsaved
use Rattle.crtp.specs.Unsaved.{losses, AllFit}
use Rattle.crtp.specs.Example.{packet0, packet1, packet2, packet3, packet4, packet5, odd, asks, asks_first, Shown}
use Rattle.crtp.proofs.Example as crtp
use Rattle.crtp.proofs.Example.{bytes, wide, narrow, chosen}
use Rattle.endpoint.specs.declared.answer.Endpoint.{Endpoint}
use Rattle.endpoint.specs.Totals.{no_totals}
use Rattle.endpoint.specs.Answer.{Result}
use Rattle.endpoint.specs.Calls.{open_of}
use Rattle.endpoint.specs.History.{wire, radio, report}
use Rattle.endpoint.specs.Facing as facing
use Rattle.endpoint.specs.Facing.{Side, near, far, World, Call, at, arrival, answer, step, after, seen, view, AllProper}
use Rattle.endpoint.specs.Facing.{Exact, Opened, Premises}
use Rattle.endpoint.proofs.Facing.{AllTyped, typed-step, view-after, arrival-rebuilds, none-typed}
use Rattle.endpoint.proofs.Facing as proved

---- The endpoints

abbrev fresh : Endpoint
fresh = record { compressor = (crtp.start).compressor; decompressor = (crtp.start).decompressor; totals = no_totals }

abbrev start : World
start x = record { endpoint = fresh; sent = [] }

---- The calls

-- three packets from far to near do not arrive
abbrev before : List Call
before =
    at near (wire (bytes packet0 refl) wide)
    ∷ at far (wire (bytes packet0 refl) wide)
    ∷ at near (wire (bytes packet1 refl) wide)
    ∷ at far (wire (bytes packet1 refl) wide)
    ∷ arrival far 1 wide
    ∷ at far (wire (bytes packet2 refl) wide)
    ∷ at near (wire (bytes packet2 refl) wide)
    ∷ at near (wire (bytes packet3 refl) wide)
    ∷ at near (radio 4 (bytes asks refl) wide)
    ∷ at near (wire (bytes packet4 refl) wide)
    ∷ arrival far 3 wide
    ∷ at far (wire (bytes packet3 refl) wide)
    ∷ []

-- the fourth does, and is reported
abbrev calls : List Call
calls =
    before
    ++ (arrival near 3 wide
    ∷ at near (report wide)
    ∷ at far (radio 4 (bytes asks_first refl) wide)
    ∷ arrival far 4 narrow
    ∷ at near (wire (bytes packet5 refl) wide)
    ∷ [])

-- then near gets what nobody sent
abbrev list : List Call
list =
    calls
    ++ (at near (radio 7 (bytes odd refl) wide)
    ∷ at near (wire (bytes odd refl) wide)
    ∷ arrival far 5 wide
    ∷ arrival far 6 wide
    ∷ [])

---- From near to far

-- what the endpoints were before their opening: anything that crtp's example was before its
abbrev earlier : Endpoint
earlier = record { compressor = (crtp.opened).earlier_c; decompressor = (crtp.opened).earlier_d; totals = no_totals }

both-accepted : (a b : ℕ) → a ≡ 0 → b ≡ 0 → first_refusal a b ≡ 0
both-accepted a b x y = rw (x, y)

chosen-when : (n : ℕ) (e f : Endpoint) → n ≡ 0 → e ≡ cond (eqb n 0) e f
chosen-when n e f z = rw z

accepted : (open_of earlier chosen.repeats chosen.contexts).number ≡ 0
unfolding open_of
accepted = both-accepted _ _ (crtp.opened).accepted_c (crtp.opened).accepted_d

opens : fresh ≡ (open_of earlier chosen.repeats chosen.contexts).endpoint
unfolding open_of
opens =
    (λ j. record { compressor = (crtp.opened).compressor j; decompressor = (crtp.opened).decompressor j; totals = no_totals })
    ∙ chosen-when _ _ _ (both-accepted _ _ (crtp.opened).accepted_c (crtp.opened).accepted_d)

opened : Opened chosen start
opened = record { earlier = λ x. earlier; accepted = λ x. accepted; opened = λ x. opens; nothing = λ x. refl }

typed : AllTyped start
typed = none-typed chosen start opened

-- a list is tested call by call
abbrev are_proper : Side → List Call → Bool
are_proper d [] = true
are_proper d (x ∷ xs) = facing.proper d x && are_proper d xs

proper-all : (d : Side) (xs : List Call) → are_proper d xs ≡ true → AllProper d xs
proper-all d [] e = tt
proper-all d (x ∷ xs) e =
    let p = (and-eq-true_iff (facing.proper d x) (are_proper d xs)).0 e in
    (p.0, proper-all d xs p.1)

proper : AllProper near list
proper = proper-all near list refl

-- what near gave out is what crtp's example gave out
given-near : unsaved.after crtp.start crtp.list ≡ view near (after start list)
given-near = view-after near list start typed proper

bounded-near : (c : ℕ) → Bounded chosen.repeats (losses c (map (seen near) list) 0 (after start list near).sent)
bounded-near c =
    subst (λ (v : unsaved.World). Bounded chosen.repeats (losses c crtp.list 0 v.sent)) given-near ((crtp.premises).bounded c)

premises : Premises chosen near start list
premises = record {
  opened = opened;
  proper = proper;
  ordered = (crtp.premises).ordered;
  bounded = bounded-near;
  fits = subst (λ (v : unsaved.World). AllFit crtp.list v.sent crtp.list) given-near (crtp.premises).fits;
}

-- so every arrival at far that is not lost is rebuilt there
exact : Exact near list start list
exact = proved.facing chosen near start list premises

---- From far to near

proper-back : AllProper far calls
proper-back = proper-all far calls refl

given-far : unsaved.after crtp.start crtp.missed ≡ view far (after start calls)
given-far = view-after far calls start typed proper-back

-- more are lost than there may be
too_many : Bounded chosen.repeats (losses 0 (map (seen far) calls) 0 (after start calls far).sent) → ⊥
too_many b = crtp.too_many (subst (λ (v : unsaved.World). Bounded 1 (losses 0 crtp.missed 0 v.sent)) (sym given-far) b)

proper-before : AllProper far before
proper-before = proper-all far before refl

typed-before : (xs : List Call) (w : World) → AllTyped w → AllTyped (after w xs)
typed-before [] w t = t
typed-before (x ∷ xs) w t = typed-before xs (step w x) (typed-step w x t)

abbrev first : List Shown → ℕ
first [] = 0
first (x ∷ xs) = x.number

-- the only packet that arrives is refused with 8: its context is empty
refused : (answer (after start before) near 3 wide).number ≡ 8
refused =
    ap (λ (r : Result). r.number) (arrival-rebuilds (after start before) (typed-before before start typed) near 3 wide)
    ∙ subst (λ (v : unsaved.World). (unsaved.answer v 3 wide).number ≡ 8) (view-after far before start typed proper-before)
    (ap first (crtp.computed).refused)
