-- Iarwennol. The claim of Calls implies the claim for lists without saves and loads, in the words of Earlier. Assumes nothing.
-- Without loads a packet before the one that arrives is lost by the list's arrivals exactly if it is not in the line.
-- Used by the theorem over bytes (crtp).
use mathlib.Core.Path.{◌≡◌, refl, sym, ap, ◌∙◌, subst}
use mathlib.Core.Bool.{Bool, true, false}
use mathlib.Core.List.{List, [], ◌∷◌, ◌++◌, append_assoc, append-nil}
use Prim.Native.Nat.{ℕ, suc, ◌+◌, ◌-◌, ◌≤◌, ◌<◌}
use native.Mathlib.Omega.{arith}
use native.Mathlib.Decide.{dec_le}
use lib.Dec.{ltb}
use lib.ListN.{length, get_or, take, drop, length-append, take-append-drop, get_or-append}
use lib.Seq.{slice, length-take-le, get_or-take, take-append-le}
use borrow.Author.Tests.{ltb-false, le-ltb, lt-ltb, ne_eqb, eq-eqb}
use Rattle.calls.specs.Calls.{Call, send_call, request_call, arrival_call, save_call, load_call, other_call, Sent, World, Ends}
use Rattle.calls.specs.Calls.{is_on, has, lost, Bounded, Gap, losses, logged, packet_at, link_at, step, final, Always, Proper}
use Rattle.calls.specs.Calls.{Allowed, AtArrival, Exact, fresh, Faithful}
use Rattle.calls.specs.Earlier.{Arrival, arrivals, lost_in, marks, Lawful, FitAt, FitIn, ExactIn, Earlier}
use Rattle.calls.proofs.Marks.{bounded-front, cond-front, line_before, line_after, line-here}

module _ {P L B Q F C D SA Ra : Type 0} (ε : Ends P L B Q F C D SA Ra) where
  -- an arrival of packet i, and what is lost: a packet after it, before it, and itself
  lost-after : (i : ℕ) (b : B) (ar : List (Arrival B)) (k len : ℕ) → i < k →
      lost_in ε (record { index = i; buffer = b } ∷ ar) k len ≡ lost_in ε ar k len
  lost-after i b ar k len h = rw (ne_eqb i k (omega arith), le-ltb k i (omega arith))

  lost-before : (i : ℕ) (b : B) (ar : List (Arrival B)) (k len : ℕ) → k < i →
      lost_in ε (record { index = i; buffer = b } ∷ ar) k len ≡ true
  lost-before i b ar k len h = rw (ne_eqb i k (omega arith), lt-ltb k i h)

  lost-itself : (i : ℕ) (b : B) (ar : List (Arrival B)) (len : ℕ) →
      lost_in ε (record { index = i; buffer = b } ∷ ar) i len ≡ ltb (ε.room b) len
  lost-itself i b ar len = rw (eq-eqb i i refl)

  -- what was given out before stays
  grows : (xs : List (Call P B Q D)) (w : World P L F C D) → (more : List (Sent P L)) × ((final ε w xs).log ≡ w.log ++ more)
  grows [] w = ([], sym (append-nil w.log))
  grows (send_call p b ∷ xs) w =
      let g = grows xs (step ε w (send_call p b)) in
      (logged (ε.out (ε.send w.compressor p b)) p ++ g.0, g.1 ∙ append_assoc w.log _ g.0)
  grows (request_call q ∷ xs) w = grows xs (step ε w (request_call q))
  grows (arrival_call i b ∷ xs) w = grows xs (step ε w (arrival_call i b))
  grows (save_call b ∷ xs) w = grows xs (step ε w (save_call b))
  grows (load_call i d ∷ xs) w = grows xs (step ε w (load_call i d))
  grows (other_call ∷ xs) w = grows xs w

  module _ (all : List (Arrival B)) where
    marks-append : (c i k : ℕ) (es fs : List (Sent P L)) → i + length es ≡ k →
        marks ε c all i (es ++ fs) ≡ marks ε c all i es ++ marks ε c all k fs
    marks-append c i k [] fs h = let e : i ≡ k = omega arith in ap {B = List Bool} (λ r. marks ε c all r fs) e
    marks-append c i k (e ∷ es) fs h =
        rw (marks-append c (suc i) k es fs (omega arith))
        (cond-front (is_on (ε.context e.link) c) (lost_in ε all i (ε.size e.orig)) (marks ε c all (suc i) es)
        (marks ε c all k fs))

    -- the two ways to count, packet by packet
    marks-same : (c : ℕ) (gone : ℕ → Bool) (i : ℕ) (es : List (Sent P L)) →
        ((k : ℕ) → i ≤ k → k < i + length es → lost_in ε all k (ε.size (get_or es (k - i) ε.nothing).orig) ≡ gone k) →
        marks ε c all i es ≡ losses ε c gone i es
    marks-same c gone i [] same = refl
    marks-same c gone i (e ∷ es) same = rw (here, marks-same c gone (suc i) es later)
      where
        here : lost_in ε all i (ε.size e.orig) ≡ gone i
        here =
            let z : i - i ≡ 0 = omega arith in
            subst (λ (m : ℕ). lost_in ε all i (ε.size (get_or (e ∷ es) m ε.nothing).orig) ≡ gone i) z
            (same i (omega arith) (omega arith))

        later : (k : ℕ) → suc i ≤ k → k < suc i + length es →
            lost_in ε all k (ε.size (get_or es (k - suc i) ε.nothing).orig) ≡ gone k
        later k low high =
            let z : k - i ≡ suc (k - suc i) = omega arith in
            subst (λ (m : ℕ). lost_in ε all k (ε.size (get_or (e ∷ es) m ε.nothing).orig) ≡ gone k) z
            (same k (omega arith) (omega arith))

    ---- Along the list

    -- the packets before the first that may arrive are judged alike; what comes later is judged by the arrivals that are left
    record Alike (w : World P L F C D) (xs : List (Call P B Q D)) : Type 0 where
      past : (k : ℕ) → k < w.next → lost_in ε all k (ε.size (packet_at ε w k)) ≡ lost w.line k
      rest : (k len : ℕ) → w.next ≤ k → lost_in ε all k len ≡ lost_in ε (arrivals ε xs) k len
      below : (k : ℕ) → w.next ≤ k → has w.line k ≡ false
      most : w.next ≤ length w.log

    module _ (w : World P L F C D) (i : ℕ) (b : B) (xs : List (Call P B Q D)) (a : Alike w (arrival_call i b ∷ xs))
        (order : w.next ≤ i) (inside : i < length w.log) where
      past-now : (k : ℕ) → k < i → lost_in ε all k (ε.size (packet_at ε w k)) ≡ lost w.line k
      past-now k h = by (dec_le (suc k) w.next)
        where
          by : Dec (suc k ≤ w.next) → lost_in ε all k (ε.size (packet_at ε w k)) ≡ lost w.line k
          by (yes l) = a.past k l
          by (no l) =
              a.rest k (ε.size (packet_at ε w k)) (omega arith) ∙ lost-before i b (arrivals ε xs) k (ε.size (packet_at ε w k)) h
              ∙ rw (a.below k (omega arith))

      itself : lost_in ε all i (ε.size (packet_at ε w i)) ≡ ltb (ε.room b) (ε.size (packet_at ε w i))
      itself = a.rest i (ε.size (packet_at ε w i)) order ∙ lost-itself i b (arrivals ε xs) (ε.size (packet_at ε w i))

      below-now : (k : ℕ) → i ≤ k → has w.line k ≡ false
      below-now k h = a.below k (omega arith)

      past_next : (k : ℕ) → k < suc i → lost_in ε all k (ε.size (packet_at ε w k)) ≡ lost (step ε w (arrival_call i b)).line k
      past_next k h = by (dec_le (suc k) i)
        where
          here : k ≡ i → lost_in ε all k (ε.size (packet_at ε w k)) ≡ lost (step ε w (arrival_call i b)).line k
          here e = rw e (itself ∙ sym (line-here w.line i below-now (ltb (ε.room b) (ε.size (packet_at ε w i)))))

          by : Dec (suc k ≤ i) → lost_in ε all k (ε.size (packet_at ε w k)) ≡ lost (step ε w (arrival_call i b)).line k
          by (yes l) = past-now k l ∙ sym (line_before w.line i (ltb (ε.room b) (ε.size (packet_at ε w i))) k l)
          by (no l) = here (omega arith)

      alike-arrival : Alike (step ε w (arrival_call i b)) xs
      alike-arrival = record {
        past = past_next;
        rest = λ k len h. a.rest k len (omega arith) ∙ lost-after i b (arrivals ε xs) k len h;
        below = line_after w.line i below-now (ltb (ε.room b) (ε.size (packet_at ε w i)));
        most = inside;
      }

      -- the marks of the packets before it are the front of all marks
      front : (c : ℕ) → marks ε c all 0 (take i w.log) ≡ losses ε c (lost w.line) 0 (slice 0 i w.log)
      front c = marks-same c (lost w.line) 0 (take i w.log) same
        where
          same : (k : ℕ) → 0 ≤ k → k < 0 + length (take i w.log) →
              lost_in ε all k (ε.size (get_or (take i w.log) (k - 0) ε.nothing).orig) ≡ lost w.line k
          same k low high =
              let l : length (take i w.log) ≡ i = length-take-le i w.log (omega arith) in
              let z : k - 0 ≡ k = omega arith in
              let g : get_or (take i w.log) k ε.nothing ≡ get_or w.log k ε.nothing = get_or-take i w.log k ε.nothing
              (omega arith) in
              rw (z, g) (past-now k (omega arith))

      bounded-now : (n c : ℕ) (more : List (Sent P L)) → Bounded n (marks ε c all 0 (w.log ++ more)) →
          Bounded n (losses ε c (lost w.line) 0 (slice 0 i w.log))
      bounded-now n c more h =
          let l : length (take i w.log) ≡ i = length-take-le i w.log (omega arith) in
          rw (sym (front c))
          (bounded-front n (marks ε c all 0 (take i w.log)) (marks ε c all i (drop i w.log ++ more))
          (subst (Bounded n)
          (ap {B = List Bool} (λ r. marks ε c all 0 r)
          (ap {B = List (Sent P L)} (λ r. r ++ more) (sym (take-append-drop i w.log))
          ∙ append_assoc (take i w.log) (drop i w.log) more)
          ∙ marks-append c 0 i (take i w.log) (drop i w.log ++ more) (omega arith)) h))

      fit-now : (c : ℕ) (more : List (Sent P L)) → FitAt ε c all (w.log ++ more) i → is_on (ε.context (link_at ε w i)) c ≡ true →
          Gap (losses ε c (lost w.line) 0 (slice 0 i w.log)) → ε.Fit (packet_at ε w i)
      fit-now c more f on gap =
          let e = get_or-append w.log more ε.nothing i inside in
          let t = take-append-le i w.log more (omega arith) in
          subst (λ (x : Sent P L). ε.Fit x.orig) e
          (f (subst (λ (x : Sent P L). is_on (ε.context x.link) c ≡ true) (sym e) on)
          (subst (λ (l : List (Sent P L)). Gap (marks ε c all 0 l)) (sym t) (subst Gap (sym (front c)) gap)))

    alike-send : (w : World P L F C D) (p : P) (b : B) (xs : List (Call P B Q D)) → Alike w (send_call p b ∷ xs) →
        Alike (step ε w (send_call p b)) xs
    alike-send w p b xs a = record {
      past = λ k h. subst (λ (e : Sent P L). lost_in ε all k (ε.size e.orig) ≡ lost w.line k)
          (sym (stays k (omega (arith, a.most)))) (a.past k h);
      rest = a.rest;
      below = a.below;
      most = let h = length-append w.log new in omega (arith, a.most);
    }
      where
        new : List (Sent P L)
        new = logged (ε.out (ε.send w.compressor p b)) p

        stays : (k : ℕ) → k < length w.log → get_or (w.log ++ new) k ε.nothing ≡ get_or w.log k ε.nothing
        stays k h = get_or-append w.log new ε.nothing k h

    alike-request : (w : World P L F C D) (q : Q) (xs : List (Call P B Q D)) → Alike w (request_call q ∷ xs) →
        Alike (step ε w (request_call q)) xs
    alike-request w q xs a = record { past = a.past; rest = a.rest; below = a.below; most = a.most }

    alike-other : (w : World P L F C D) (xs : List (Call P B Q D)) → Alike w (other_call ∷ xs) → Alike w xs
    alike-other w xs a = record { past = a.past; rest = a.rest; below = a.below; most = a.most }

    -- the premises of Calls
    module _ (n c : ℕ) where
      allowed-arrival : (w : World P L F C D) (i : ℕ) (b : B) (xs : List (Call P B Q D)) → Alike w (arrival_call i b ∷ xs) →
          w.next ≤ i → i < length w.log →
          Bounded n (marks ε c all 0 (final ε w (arrival_call i b ∷ xs)).log) →
          FitAt ε c all (final ε w (arrival_call i b ∷ xs)).log i → Proper ε n 0 c w i
      allowed-arrival w i b xs a order inside h f =
          let g = grows (arrival_call i b ∷ xs) w in
          record {
            sent = inside;
            order = order;
            bounded = bounded-now w i b xs a order inside n c g.0 (rw g.1 at h);
            fit = fit-now w i b xs a order inside c g.0 (rw g.1 at f);
          }

      allowed_all : (xs : List (Call P B Q D)) (w : World P L F C D) → Lawful ε w w.next xs → Alike w xs →
          Bounded n (marks ε c all 0 (final ε w xs).log) → FitIn ε c all (final ε w xs).log (arrivals ε xs) →
          Always ε (Allowed ε n 0 c) w xs
      allowed_all [] w law a h f = tt
      allowed_all (send_call p b ∷ xs) w law a h f = (tt, allowed_all xs (step ε w (send_call p b)) law (alike-send w p b xs a) h f)
      allowed_all (request_call q ∷ xs) w law a h f =
          (tt, allowed_all xs (step ε w (request_call q)) law (alike-request w q xs a) h f)
      allowed_all (arrival_call i b ∷ xs) w law a h f = (
        allowed-arrival w i b xs a law.0 law.1 h f.0,
        allowed_all xs (step ε w (arrival_call i b)) law.2
            (alike-arrival w i b xs a law.0 law.1) h f.1,
      )
      allowed_all (save_call b ∷ xs) w law a h f = absurd law
      allowed_all (load_call i d ∷ xs) w law a h f = absurd law
      allowed_all (other_call ∷ xs) w law a h f = (tt, allowed_all xs w law (alike-other w xs a) h f)

    -- an arrival that is not lost has room
    exact-all : (xs : List (Call P B Q D)) (w : World P L F C D) → Lawful ε w w.next xs → Alike w xs →
        Always ε (AtArrival ε (Exact ε)) w xs → ExactIn ε all w xs
    exact-all [] w law a h = tt
    exact-all (send_call p b ∷ xs) w law a h = exact-all xs (step ε w (send_call p b)) law (alike-send w p b xs a) h.1
    exact-all (request_call q ∷ xs) w law a h = exact-all xs (step ε w (request_call q)) law (alike-request w q xs a) h.1
    exact-all (arrival_call i b ∷ xs) w law a h = (
      λ kept. h.0 (ltb-false _ _ (sym (itself w i b xs a law.0 law.1) ∙ kept)),
      exact-all xs (step ε w (arrival_call i b)) law.2 (alike-arrival w i b xs a law.0 law.1) h.1,
    )
    exact-all (save_call b ∷ xs) w law a h = absurd law
    exact-all (load_call i d ∷ xs) w law a h = absurd law
    exact-all (other_call ∷ xs) w law a h = exact-all xs w law (alike-other w xs a) h.1

  -- the premises of Earlier give those of Calls, and the claim of Calls that of Earlier
  module _ (n : ℕ) (s : C) (v : D) where
    alike-fresh : (xs : List (Call P B Q D)) → Alike (arrivals ε xs) (fresh ε s v) xs
    alike-fresh xs =
        record { past = λ k h. absurd (omega arith); rest = λ k len h. refl; below = λ k h. refl; most = omega arith }

    pub earlier-allowed : (xs : List (Call P B Q D)) → Lawful ε (fresh ε s v) 0 xs →
        ((c : ℕ) → Bounded n (marks ε c (arrivals ε xs) 0 (final ε (fresh ε s v) xs).log)) →
        ((c : ℕ) → FitIn ε c (arrivals ε xs) (final ε (fresh ε s v) xs).log (arrivals ε xs)) →
        (c : ℕ) → Always ε (Allowed ε n 0 c) (fresh ε s v) xs
    earlier-allowed xs law bounded fits c =
        allowed_all (arrivals ε xs) n c xs (fresh ε s v) law (alike-fresh xs) (bounded c) (fits c)

    pub earlier : Faithful ε n s v → Earlier ε n s v
    earlier claim xs law bounded fits =
        exact-all (arrivals ε xs) xs (fresh ε s v) law (alike-fresh xs) (claim xs (earlier-allowed xs law bounded fits))
