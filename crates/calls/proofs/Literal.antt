-- Iarwennol. The claim of Calls implies the claim in the literal reading of loads, which counts more losses. Assumes nothing.
-- What the line of a table has lost, the tally has lost; and marks of which fewer are lost keep every bound.
-- Used by the theorem over bytes (crtp).
use mathlib.Core.Path.{◌≡◌, refl, sym, ap, ◌∙◌, subst}
use mathlib.Core.Bool.{Bool, true, false, cond, not, ◌&&◌, ◌||◌, false≢true}
use mathlib.Core.List.{List, [], ◌∷◌, ◌++◌, append-nil}
use mathlib.Core.Option.{Option, none, some}
use Prim.Native.Nat.{ℕ, zero, suc, ◌≤◌, ◌<◌}
use native.Mathlib.Omega.{arith}
use native.Mathlib.Decide.{dec_le}
use lib.Dec.{ltb, eqb}
use lib.ListN.{length, get_or, replicate, length-append, get_or-append}
use lib.Seq.{slice, get_or_at}
use Rattle.calls.specs.Calls.{Call, send_call, request_call, arrival_call, save_call, load_call, other_call, Sent, Save, World}
use Rattle.calls.specs.Calls.{Ends, is_on, has, lost, Bounded, Gap, saved, losses, packet_at, save_at, step, Always, Proper}
use Rattle.calls.specs.Calls.{Allowed, fresh, Faithful}
use Rattle.calls.specs.Literal.{Tally, untold, lost_by, noted, count, ProperBy, AllowedBy, AlwaysBy, Literal}

---- Marks of which fewer are lost

-- as many marks, and what is lost in the first is lost in the second
abbrev Fewer : List Bool → List Bool → Type 0
Fewer [] [] = Unit {0}
Fewer [] (y ∷ ys) = ⊥
Fewer (x ∷ xs) [] = ⊥
Fewer (x ∷ xs) (y ∷ ys) = (x ≡ true → y ≡ true) × Fewer xs ys

-- marks in two parts, of which the second has lost at least what r has
record Parted (r ys : List Bool) : Type 0 where
  front : List Bool
  back : List Bool
  whole : ys ≡ front ++ back
  fewer : Fewer r back

fewer-append : (p r ys : List Bool) → Fewer (p ++ r) ys → Parted r ys
fewer-append [] r ys f = record { front = []; back = ys; whole = refl; fewer = f }
fewer-append (x ∷ p) r [] f = absurd f
fewer-append (x ∷ p) r (y ∷ ys) f =
    let q = fewer-append p r ys f.1 in
    record { front = y ∷ q.front; back = q.back; whole = ap {B = List Bool} (λ l. y ∷ l) q.whole; fewer = q.fewer }

fewer-run : (k : ℕ) (r ys : List Bool) → Fewer (replicate k true ++ r) ys →
    (b : List Bool) × (ys ≡ replicate k true ++ b) × Fewer r b
fewer-run zero r ys f = (ys, refl, f)
fewer-run (suc k) r [] f = absurd f
fewer-run (suc k) r (y ∷ ys) f =
    let q = fewer-run k r ys f.1 in
    (q.0, (λ i. f.0 refl i ∷ q.1 i), q.2)

fewer-none : (ys : List Bool) → Fewer [] ys → ys ≡ []
fewer-none [] f = refl
fewer-none (y ∷ ys) f = absurd f

bounded-fewer : (n : ℕ) (xs ys : List Bool) → Fewer xs ys → Bounded n ys → Bounded n xs
bounded-fewer n xs ys f h a b e =
    let q = fewer-append a (replicate (suc n) true ++ b) ys (subst (λ (l : List Bool). Fewer l ys) e f) in
    let r = fewer-run (suc n) b q.back q.fewer in
    h q.front r.0 (q.whole ∙ ap {B = List Bool} (λ l. q.front ++ l) r.1)

gap-fewer : (xs ys : List Bool) → Fewer xs ys → Gap xs → Gap ys
gap-fewer xs ys f g =
    let q = fewer-append g.0 (true ∷ []) ys (subst (λ (l : List Bool). Fewer l ys) g.1 f) in
    let r = fewer-run 1 [] q.back q.fewer in (
      q.front,
      q.whole ∙ ap {B = List Bool} (λ l. q.front ++ l)
          (r.1 ∙ ap {B = List Bool} (λ l. true ∷ l) (fewer-none r.0 r.2)),
    )

---- Of one packet: r, it arrived with room; u, a load undid it; l, it is in the line

-- an arrival of it (here) or of another, without room (short) or with it
told_line : (here short : Bool) (l r u : Bool) → (not l ≡ true → (not r || u) ≡ true) →
    not (cond short l (cond here true l)) ≡ true → (not ((here && not short) || r) || u) ≡ true
told_line true true l r u h e = h e
told_line true false l r u h e = absurd (false≢true e)
told_line false true l r u h e = h e
told_line false false l r u h e = h e

-- a load; x: it had arrived with room before that save, y: before another
undone-now : (r u x : Bool) → (not x || u) ≡ true → (not r || (u || (r && not x))) ≡ true
undone-now true true x e = refl
undone-now true false true e = absurd (false≢true e)
undone-now true false false e = refl
undone-now false u x e = refl

undone-each : (r u x y : Bool) → (not y || u) ≡ true → (not y || (u || (r && not x))) ≡ true
undone-each r true x true e = refl
undone-each r false x true e = absurd (false≢true e)
undone-each r u x false e = refl

module _ {P L B Q F C D SA Ra : Type 0} (ε : Ends P L B Q F C D SA Ra) where
  losses-fewer : (c : ℕ) (x y : ℕ → Bool) (i : ℕ) (es : List (Sent P L)) → ((m : ℕ) → x m ≡ true → y m ≡ true) →
      Fewer (losses ε c x i es) (losses ε c y i es)
  losses-fewer c x y i [] h = tt
  losses-fewer c x y i (e ∷ es) h = by (is_on (ε.context e.link) c) (losses-fewer c x y (suc i) es h)
    where
      by : (on : Bool) → Fewer (losses ε c x (suc i) es) (losses ε c y (suc i) es) →
          Fewer (cond on (x i ∷ losses ε c x (suc i) es) (losses ε c x (suc i) es))
          (cond on (y i ∷ losses ε c y (suc i) es) (losses ε c y (suc i) es))
      by true f = (h i, f)
      by false f = f

  ---- What the line has lost, the tally has lost

  abbrev no_save : Save F
  no_save = record { form = ε.no_form; line = [] }

  abbrev never : ℕ → Bool
  never k = false

  -- a saved line, against what had arrived before the save
  abbrev Covers : (undone : ℕ → Bool) → List ℕ → (ℕ → Bool) → Type 0
  Covers undone line r = (m : ℕ) → lost line m ≡ true → (not (r m) || undone m) ≡ true

  -- so it is with the table at hand, and with every table that was saved
  record Told (w : World P L F C D) (t : Tally) : Type 0 where
    now : Covers t.undone w.line t.rebuilt
    even : length w.saves ≡ length t.before
    each : (i : ℕ) → i < length w.saves → Covers t.undone (save_at ε w i).line (get_or t.before i never)

  line-cond : (short : Bool) (line : List ℕ) (i m : ℕ) →
      has (cond short line (i ∷ line)) m ≡ cond short (has line m) (cond (eqb i m) true (has line m))
  line-cond true line i m = refl
  line-cond false line i m = refl

  told-arrival : (w : World P L F C D) (t : Tally) (i : ℕ) (b : B) → Told w t →
      Told (step ε w (arrival_call i b)) (count ε w t (arrival_call i b))
  told-arrival w t i b a = record {
    now = λ m e.
        told_line (eqb i m) (ltb (ε.room b) (ε.size (packet_at ε w i))) (has w.line m) (t.rebuilt m) (t.undone m) (a.now m)
        (ap not (sym (line-cond (ltb (ε.room b) (ε.size (packet_at ε w i))) w.line i m)) ∙ e);
    even = a.even;
    each = a.each;
  }

  -- a save
  module _ (w : World P L F C D) (t : Tally) (a : Told w t) where
    abbrev Each : List (Save F) → List (ℕ → Bool) → Type 0
    Each xs rs = (i : ℕ) → i < length xs → Covers t.undone (get_or xs i no_save).line (get_or rs i never)

    each_more : (f : F) → Each (w.saves ++ (record { form = f; line = w.line } ∷ [])) (t.before ++ (t.rebuilt ∷ []))
    each_more f i h = by (dec_le (suc i) (length w.saves))
      where
        x : Save F
        x = record { form = f; line = w.line }

        by : Dec (suc i ≤ length w.saves) →
            Covers t.undone (get_or (w.saves ++ (x ∷ [])) i no_save).line (get_or (t.before ++ (t.rebuilt ∷ [])) i never)
        by (yes l) =
            let q = a.even in
            let r = get_or-append t.before (t.rebuilt ∷ []) never i (omega arith) in
            rw (get_or-append w.saves (x ∷ []) no_save i l, r) (a.each i l)
        by (no l) =
            let q = a.even in
            let z = length-append w.saves (x ∷ []) in
            let e : length w.saves ≡ i = omega arith in
            let e' : length t.before ≡ i = omega arith in
            rw (get_or_at w.saves x [] no_save i e, get_or_at t.before t.rebuilt [] never i e') a.now

    each-save : (o : Option F) → Each (w.saves ++ saved o w.line) (t.before ++ noted o t.rebuilt)
    each-save none = rw (append-nil w.saves, append-nil t.before) a.each
    each-save (some f) = each_more f

    even-save : (o : Option F) → length (w.saves ++ saved o w.line) ≡ length (t.before ++ noted o t.rebuilt)
    even-save none = rw (append-nil w.saves, append-nil t.before) a.even
    even-save (some f) =
        let q = a.even in
        let x = length-append w.saves (record { form = f; line = w.line } ∷ []) in
        let y = length-append t.before (t.rebuilt ∷ []) in
        omega arith

    told-save : (b : B) → Told (step ε w (save_call b)) (count ε w t (save_call b))
    told-save b =
        let o = ε.save w.decompressor b in
        record { now = a.now; even = even-save o; each = each-save o }

    -- a load
    told-load : (i : ℕ) (d : D) → i < length w.saves → Told (step ε w (load_call i d)) (count ε w t (load_call i d))
    told-load i d h = record {
      now = λ m e. undone-now (t.rebuilt m) (t.undone m) (get_or t.before i never m) (a.each i h m e);
      even = a.even;
      each = λ k l m e. undone-each (t.rebuilt m) (t.undone m) (get_or t.before i never m) (get_or t.before k never m)
          (a.each k l m e);
    }

  told-step : (n c : ℕ) (w : World P L F C D) (t : Tally) (x : Call P B Q D) → Told w t → AllowedBy ε n c w t x →
      Told (step ε w x) (count ε w t x)
  told-step n c w t (send_call p b) a ok = record { now = a.now; even = a.even; each = a.each }
  told-step n c w t (request_call q) a ok = record { now = a.now; even = a.even; each = a.each }
  told-step n c w t (arrival_call i b) a ok = told-arrival w t i b a
  told-step n c w t (save_call b) a ok = told-save w t a b
  told-step n c w t (load_call i d) a ok = told-load w t a i d ok
  told-step n c w t other_call a ok = a

  ---- The premises

  proper-told : (n c : ℕ) (w : World P L F C D) (t : Tally) (i : ℕ) → Told w t → ProperBy ε n c w t i → Proper ε n 0 c w i
  proper-told n c w t i a ok = record {
    sent = ok.sent;
    order = ok.order;
    bounded = bounded-fewer n (losses ε c (lost w.line) 0 es) (losses ε c (lost_by t) 0 es) fewer ok.bounded;
    fit = λ on gap. ok.fit on (gap-fewer (losses ε c (lost w.line) 0 es) (losses ε c (lost_by t) 0 es) fewer gap);
  }
    where
      es : List (Sent P L)
      es = slice 0 i w.log

      fewer : Fewer (losses ε c (lost w.line) 0 es) (losses ε c (lost_by t) 0 es)
      fewer = losses-fewer c (lost w.line) (lost_by t) 0 es a.now

  allowed-told : (n c : ℕ) (w : World P L F C D) (t : Tally) (x : Call P B Q D) → Told w t → AllowedBy ε n c w t x →
      Allowed ε n 0 c w x
  allowed-told n c w t (send_call p b) a ok = tt
  allowed-told n c w t (request_call q) a ok = tt
  allowed-told n c w t (arrival_call i b) a ok = proper-told n c w t i a ok
  allowed-told n c w t (save_call b) a ok = tt
  allowed-told n c w t (load_call i d) a ok = ok
  allowed-told n c w t other_call a ok = tt

  always-told : (n c : ℕ) (xs : List (Call P B Q D)) (w : World P L F C D) (t : Tally) → Told w t → AlwaysBy ε n c w t xs →
      Always ε (Allowed ε n 0 c) w xs
  always-told n c [] w t a ok = tt
  always-told n c (x ∷ xs) w t a ok =
      (allowed-told n c w t x a ok.0, always-told n c xs (step ε w x) (count ε w t x) (told-step n c w t x a ok.0) ok.1)

  pub literal : (n : ℕ) (s : C) (v : D) → Faithful ε n s v → Literal ε n s v
  literal n s v claim xs ok =
      claim xs (λ c. always-told n c xs (fresh ε s v) untold
      (record { now = λ m e. refl; even = refl; each = λ i h. absurd (omega arith) }) (ok c))
