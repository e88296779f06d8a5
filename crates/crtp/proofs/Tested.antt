-- Iarwennol. A test of the premises, for a list that is written out and uses context 0 alone. Assumes nothing.
-- Used by the example of a list that meets them (Example).
use Prim.Native.Nat.{ℕ, suc}
use mathlib.Core.Path.{◌≡◌, refl, sym, ap, ◌∙◌, subst}
use mathlib.Core.Bool.{Bool, true, false, cond, not, ◌&&◌, ◌||◌, and-eq-true_iff, false≢true}
use mathlib.Core.List.{List, [], ◌∷◌, ◌++◌}
use mathlib.Core.Option.{Option, none, some}
use borrow.Author.Tests.{ltb-true, leb-true, eqb-true}
use lib.Dec.{eqb, ltb, leb}
use lib.ListN.{length, take}
use Rattle.crtp.specs.Robust.{Call, send, request, arrival, save, load, other, Sent, World, sent_at, step, Always, context_of}
use Rattle.crtp.specs.Robust.{is_on, lost, losses, Bounded, Gap, checksum_fits, Proper, Allowed}
use Rattle.crtp.specs.Unsaved as unsaved
use Rattle.crtp.proofs.Calm.{calm, bounded-calm}

---- Packets that are plain or on context 0

abbrev only_zero : Option ℕ → Bool
only_zero none = true
only_zero (some d) = eqb d 0

abbrev on_zero : List Sent → Bool
on_zero [] = true
on_zero (e ∷ es) = only_zero (context_of e) && on_zero es

cond-none : (b : Bool) → ◌≡◌ {A = List Bool} [] (cond b [] [])
cond-none true = refl
cond-none false = refl

cond-mark : (b m : Bool) (xs ys : List Bool) → xs ≡ cond b ys [] → cond b (m ∷ xs) xs ≡ cond b (m ∷ ys) []
cond-mark true m xs ys e = ap {B = List Bool} (λ r. m ∷ r) e
cond-mark false m xs ys e = e

-- one packet more, as context c sees it and as context 0 does
mark-zero : (o : Option ℕ) (c : ℕ) (m : Bool) (xs ys : List Bool) → only_zero o ≡ true → xs ≡ cond (eqb 0 c) ys []
    → cond (is_on o c) (m ∷ xs) xs ≡ cond (eqb 0 c) (cond (is_on o 0) (m ∷ ys) ys) []
mark-zero none c m xs ys h e = e
mark-zero (some d) c m xs ys h e =
    subst (λ (k : ℕ). cond (eqb k c) (m ∷ xs) xs ≡ cond (eqb 0 c) (cond (eqb k 0) (m ∷ ys) ys) []) (sym (eqb-true d 0 h))
    (cond-mark (eqb 0 c) m xs ys e)

-- another context than 0 has no marks
losses-zero : (c : ℕ) (line : List ℕ) (i : ℕ) (es : List Sent) → on_zero es ≡ true
    → losses c line i es ≡ cond (eqb 0 c) (losses 0 line i es) []
losses-zero c line i [] h = cond-none (eqb 0 c)
losses-zero c line i (e ∷ es) h =
    let p = (and-eq-true_iff (only_zero (context_of e)) (on_zero es)).0 h in
    mark-zero (context_of e) c (lost line i) (losses c line (suc i) es) (losses 0 line (suc i) es) p.0
    (losses-zero c line (suc i) es p.1)

bounded-zero : (n : ℕ) (marks : List Bool) → calm n 0 marks ≡ true → (b : Bool) → Bounded n (cond b marks [])
bounded-zero n marks h true = bounded-calm n marks h
bounded-zero n marks h false = bounded-calm n [] refl

---- Right after a gap

-- whether the last of some marks is a loss; m: the one before them
abbrev last_lost : (m : Bool) → List Bool → Bool
last_lost m [] = m
last_lost m (x ∷ xs) = last_lost x xs

last-lost : (m : Bool) (a : List Bool) → last_lost m (a ++ (true ∷ [])) ≡ true
last-lost m [] = refl
last-lost m (x ∷ a) = last-lost x a

gap-last : (marks : List Bool) → Gap marks → last_lost false marks ≡ true
gap-last marks g = ap (last_lost false) g.1 ∙ last-lost false g.0

-- a packet of context o, after such marks of context 0
abbrev pub fits_after : Option ℕ → (marks : List Bool) → (packet : List ℕ) → Bool
fits_after o marks p = not (is_on o 0 && last_lost false marks) || checksum_fits p

fits_by : (on gap fits : Bool) → (not (on && gap) || fits) ≡ true → on ≡ true → gap ≡ true → fits ≡ true
fits_by true true fits t x y = t
fits_by true false fits t x y = absurd (false≢true y)
fits_by false gap fits t x y = absurd (false≢true x)

fits_on : (o : Option ℕ) (marks : List Bool) (p : List ℕ) → fits_after o marks p ≡ true → (c : ℕ) (b : Bool) → eqb 0 c ≡ b
    → is_on o c ≡ true → Gap (cond b marks []) → checksum_fits p ≡ true
fits_on o marks p t c true z on gap =
    fits_by (is_on o 0) (last_lost false marks) (checksum_fits p) t (ap (is_on o) (eqb-true 0 c z) ∙ on) (gap-last marks gap)
fits_on o marks p t c false z on gap = absurd (false≢true (gap-last [] gap))

-- of any context: another than 0 has no marks
pub fits-tested : (o : Option ℕ) (marks : List Bool) (p : List ℕ) → fits_after o marks p ≡ true → (c : ℕ) → is_on o c ≡ true
    → Gap (cond (eqb 0 c) marks []) → checksum_fits p ≡ true
fits-tested o marks p t c = fits_on o marks p t c (eqb 0 c) refl

---- The test

-- what is lost on context 0 when packet i arrives
abbrev pub gone : World → (i : ℕ) → List Bool
gone w i = losses 0 w.line 0 (take i w.sent)

-- its checksum fits where it must
abbrev is_fit : World → (i : ℕ) → Bool
is_fit w i = fits_after (context_of (sent_at w i)) (gone w i) (sent_at w i).packet

module _ (n : ℕ) where
  -- everything but that
  abbrev pub is_orderly : World → (i : ℕ) → Bool
  is_orderly w i = ltb i (length w.sent) && (leb w.next i && (on_zero (take i w.sent) && calm n 0 (gone w i)))

  abbrev is_proper : World → (i : ℕ) → Bool
  is_proper w i = is_orderly w i && is_fit w i

  abbrev is_allowed : World → Call → Bool
  is_allowed w (send p output) = true
  is_allowed w (request q) = true
  is_allowed w (arrival i output) = is_proper w i
  is_allowed w (save output) = true
  is_allowed w (load i handed) = ltb i (length w.saved)
  is_allowed w other = true

  abbrev pub are_allowed : World → List Call → Bool
  are_allowed w [] = true
  are_allowed w (x ∷ xs) = is_allowed w x && are_allowed (step w x) xs

  proper-tested : (w : World) (i : ℕ) → is_proper w i ≡ true → Proper n w i
  proper-tested w i h =
      let f = (and-eq-true_iff (is_orderly w i) (is_fit w i)).0 h in
      let p = (and-eq-true_iff (ltb i (length w.sent)) _).0 f.0 in
      let q = (and-eq-true_iff (leb w.next i) _).0 p.1 in
      let r = (and-eq-true_iff (on_zero (take i w.sent)) _).0 q.1 in
      record {
        given = ltb-true i (length w.sent) p.0;
        order = leb-true w.next i q.0;
        bounded = λ c. subst (Bounded n) (sym (marks c r.0)) (bounded-zero n (gone w i) r.1 (eqb 0 c));
        fits = λ c on gap. fits-tested (context_of (sent_at w i)) (gone w i) (sent_at w i).packet f.1 c on
            (subst Gap (marks c r.0) gap);
      }
    where
      marks : (c : ℕ) → on_zero (take i w.sent) ≡ true
          → losses c w.line 0 (take i w.sent) ≡ cond (eqb 0 c) (gone w i) []
      marks c z = losses-zero c w.line 0 (take i w.sent) z

  allowed-tested : (w : World) (x : Call) → is_allowed w x ≡ true → Allowed n w x
  allowed-tested w (send p output) h = tt
  allowed-tested w (request q) h = tt
  allowed-tested w (arrival i output) h = proper-tested w i h
  allowed-tested w (save output) h = tt
  allowed-tested w (load i handed) h = ltb-true i (length w.saved) h
  allowed-tested w other h = tt

  pub all_tested : (xs : List Call) (w : World) → are_allowed w xs ≡ true → Always (Allowed n) w xs
  all_tested [] w h = tt
  all_tested (x ∷ xs) w h =
      let p = (and-eq-true_iff (is_allowed w x) (are_allowed (step w x) xs)).0 h in
      (allowed-tested w x p.0, all_tested xs (step w x) p.1)

---- Lists without saves and loads: what is asked right after a gap

losses-unsaved : (c : ℕ) (xs : List unsaved.Call) (i : ℕ) (es : List Sent) → on_zero es ≡ true
    → unsaved.losses c xs i es ≡ cond (eqb 0 c) (unsaved.losses 0 xs i es) []
losses-unsaved c xs i [] h = cond-none (eqb 0 c)
losses-unsaved c xs i (e ∷ es) h =
    let p = (and-eq-true_iff (only_zero (context_of e)) (on_zero es)).0 h in
    mark-zero (context_of e) c (unsaved.lost xs i (length e.packet)) (unsaved.losses c xs (suc i) es)
    (unsaved.losses 0 xs (suc i) es) p.0 (losses-unsaved c xs (suc i) es p.1)

module _ (all : List unsaved.Call) (es : List Sent) where
  abbrev gone_in : (i : ℕ) → List Bool
  gone_in i = unsaved.losses 0 all 0 (take i es)

  abbrev fits_in : (i : ℕ) → Bool
  fits_in i =
      on_zero (take i es) && fits_after (context_of (unsaved.sent_in es i)) (gone_in i) (unsaved.sent_in es i).packet

  abbrev pub are_fit : List unsaved.Call → Bool
  are_fit [] = true
  are_fit (unsaved.send p output ∷ xs) = are_fit xs
  are_fit (unsaved.request q ∷ xs) = are_fit xs
  are_fit (unsaved.arrival i output ∷ xs) = fits_in i && are_fit xs
  are_fit (unsaved.other ∷ xs) = are_fit xs

  fits_in-tested : (i : ℕ) → fits_in i ≡ true → unsaved.Fits all es i
  fits_in-tested i h c on gap =
      let p = (and-eq-true_iff (on_zero (take i es)) _).0 h in
      fits-tested (context_of (unsaved.sent_in es i)) (gone_in i) (unsaved.sent_in es i).packet p.1 c on
      (subst Gap (losses-unsaved c all 0 (take i es) p.0) gap)

  pub all_fit : (xs : List unsaved.Call) → are_fit xs ≡ true → unsaved.AllFit all es xs
  all_fit [] h = tt
  all_fit (unsaved.send p output ∷ xs) h = all_fit xs h
  all_fit (unsaved.request q ∷ xs) h = all_fit xs h
  all_fit (unsaved.arrival i output ∷ xs) h =
      let p = (and-eq-true_iff (fits_in i) (are_fit xs)).0 h in
      (fits_in-tested i p.0, all_fit xs p.1)
  all_fit (unsaved.other ∷ xs) h = all_fit xs h
