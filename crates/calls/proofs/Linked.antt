-- Iarwennol. One context: how the relation of the two tables goes along the packets given out, those that are lost and those that
-- arrive. Assumes nothing.
-- Used by the theorem (Faithful).
use mathlib.Core.Path.{◌≡◌, refl, sym, ap, ◌∙◌, subst}
use mathlib.Core.Bool.{Bool, true, false, cond}
use mathlib.Core.List.{List, [], ◌∷◌, ◌++◌, append-nil}
use mathlib.Core.Option.{Option, none, some}
use Prim.Native.Nat.{ℕ, zero, suc, ◌+◌, ◌-◌, ◌≤◌, ◌<◌}
use native.Mathlib.Omega.{arith}
use lib.Dec.{ltb, eqb}
use lib.ListN.{length, get_or, drop, length-append}
use lib.Seq.{slice, drop-cons, drop-append-le, length-slice}
use borrow.Author.Tests.{ltb-true, ltb-false}
use Rattle.calls.specs.Calls.{Sent, Ends, is_on, has, lost, Bounded, Gap, losses, Answers}
use Rattle.calls.proofs.Laws.{Laws, sent_by, Gives, taken}
use Rattle.calls.proofs.Trail.{Trail, stays, asked, refused, join, First, first}
use Rattle.calls.proofs.Marks.{run, run_more, run-gap, bounded-front, bounded-run, slice-grow, losses-same, losses-more}
use Rattle.calls.proofs.Marks.{line_before, line_after, line-here}

-- whether an arrival bears on context c: it is on c, or it is plain
abbrev pub concerns : Option ℕ → ℕ → Bool
concerns none c = true
concerns (some d) c = eqb d c

module _ {P L B Q F C D SA Ra : Type 0} {n : ℕ} {ε : Ends P L B Q F C D SA Ra} {Start : C → Type 0} {Fine : D → Type 0}
    {Rel : ℕ → ℕ → D → C → Type 0} (laws : Laws n ε Start Fine Rel) where
  ---- A way on which nothing is given out

  pub start-quiet : {s t : C} → Trail ε s [] t → Start s → Start t
  start-quiet (stays s) h = h
  start-quiet (asked s q x) h = start-quiet x (laws.asks_start s q h)
  start-quiet (refused s p b e x) h = start-quiet x (laws.sends_start s p b h)

  rel-quiet : (c j : ℕ) (v : D) {s t : C} → Trail ε s [] t → Rel c j v s → Rel c j v t
  rel-quiet c j v (stays s) r = r
  rel-quiet c j v (asked s q x) r = rel-quiet c j v x (laws.asks c j v s q r)
  rel-quiet c j v (refused s p b e x) r = rel-quiet c j v x (laws.refuses c j v s p b e r)

  module _ (c : ℕ) where
    ---- One packet, with the marks of those before it

    -- related, if the marks are bounded: the bound is known only where a packet arrives
    abbrev pub Near : List Bool → D → C → Type 0
    Near ms v s = Bounded n ms → Rel c (run 0 ms) v s

    module _ (v : D) (s : C) (p : P) (b : B) (l : L) (gives : Gives ε s p b l) (ms : List Bool) (near : Near ms v s) where
      few : Bounded n (ms ++ (true ∷ [])) → suc (run 0 ms) ≤ n
      few h = subst (λ (j : ℕ). j ≤ n) (run_more 0 ms true) (bounded-run n (ms ++ (true ∷ [])) h)

      -- it does not arrive
      near-lost : (on : Bool) → is_on (ε.context l) c ≡ on → Near (ms ++ cond on (true ∷ []) []) v (sent_by ε s p b)
      near-lost true e h =
          rw (run_more 0 ms true) (laws.loses c (run 0 ms) v s p b l gives e (near (bounded-front n ms (true ∷ []) h)) (few h))
      near-lost false e h =
          rw (append-nil ms) (laws.others c (run 0 ms) v s p b l gives e (near (rw (append-nil ms) at h)))

      -- it arrives: without room (short), or with it
      module _ (fit : is_on (ε.context l) c ≡ true → Gap ms → ε.Fit p) (b' : B) where
        near-here : (on short : Bool) → is_on (ε.context l) c ≡ on → ltb (ε.room b') (ε.size p) ≡ short →
            Near (ms ++ cond on (short ∷ []) []) (taken ε v l b') (sent_by ε s p b)
        near-here true true e k h =
            rw (run_more 0 ms true)
            (laws.shorts c (run 0 ms) v s p b l gives e (near (bounded-front n ms (true ∷ []) h)) (few h)
            (λ g. fit e (run-gap ms g)) b' (ltb-true _ _ k))
        near-here true false e k h =
            rw (run_more 0 ms false)
            (laws.takes c (run 0 ms) v s p b l gives e (near (bounded-front n ms (false ∷ []) h))
            (λ g. fit e (run-gap ms g)) b' (ltb-false _ _ k)).1
        near-here false short e k h =
            rw (append-nil ms) (laws.passes c (run 0 ms) v s p b l gives e (near (rw (append-nil ms) at h)) b')

      answers-here : Start s → Fine v → (is_on (ε.context l) c ≡ true → Gap ms → ε.Fit p) → Bounded n ms →
          (o : Option ℕ) → ε.context l ≡ o → concerns o c ≡ true → Answers ε p l v
      answers-here start fine fit h none e k b' =
          (laws.plains v s p b l start gives e fine b', laws.plain_lacks v s p b l start gives e fine b')
      answers-here start fine fit h (some d) e k b' =
          let on : is_on (ε.context l) c ≡ true = rw e k in (
            λ r. (laws.takes c (run 0 ms) v s p b l gives on (near h) (λ g. fit on (run-gap ms g)) b' r).0,
            laws.lacks c (run 0 ms) v s p b l gives on (near h) (λ g. fit on (run-gap ms g)) b',
          )

    ---- A table and the packets given out, counted from number `from` on

    module _ (from : ℕ) where
      abbrev pub marks : List (Sent P L) → (at : ℕ) → List ℕ → List Bool
      marks log at line = losses ε c (lost line) from (slice from at log)

      -- The table v, with its line, has behind it the packets before number `at`: there the compressor's table was `state`, from
      -- which it came to `now` by the others.
      pub record Linked (log : List (Sent P L)) (now : C) (at : ℕ) (v : D) (line : List ℕ) : Type 0 where
        pub least : from ≤ at
        pub most : at ≤ length log
        pub state : C
        pub start : Start state
        pub trail : Trail ε state (drop at log) now
        pub below : (m : ℕ) → at ≤ m → has line m ≡ false
        pub near : Near (marks log at line) v state

      module _ (log : List (Sent P L)) (now : C) (at : ℕ) (v : D) (line : List ℕ) (k : Linked log now at v line) where
        -- more is given out
        pub linked-grow : (new : List (Sent P L)) (now' : C) → Trail ε now new now' → Linked (log ++ new) now' at v line
        linked-grow new now' x = record {
          least = k.least;
          most = let h = length-append log new in omega (arith, k.most);
          state = k.state;
          start = k.start;
          trail = subst (λ (es : List (Sent P L)). Trail ε k.state es now') (sym (drop-append-le at log new k.most))
              (join ε k.trail x);
          below = k.below;
          near = rw (slice-grow from at log new k.most) k.near;
        }

        module _ (inside : at < length log) where
          abbrev pub e : Sent P L
          e = get_or log at ε.nothing

          pub head : First ε k.state e (drop (suc at) log) now
          head = first ε (subst (λ (es : List (Sent P L)). Trail ε k.state es now) (drop-cons log at ε.nothing inside)
              k.trail)

          pub head-start : Start head.state
          head-start = start-quiet head.reached k.start

          head_near : Near (marks log at line) v head.state
          head_near h = rel-quiet c _ v head.reached (k.near h)

          -- the next packet does not arrive
          lost-near : Near (marks log (suc at) line) v (sent_by ε head.state e.orig head.output)
          lost-near =
              rw (losses-more ε c (lost line) from at log k.least inside, k.below at (omega arith))
              (near-lost v head.state e.orig head.output e.link head.gives (marks log at line) head_near
              (is_on (ε.context e.link) c) refl)

          pub linked-lost : Linked log now (suc at) v line
          linked-lost = record {
            least = omega (arith, k.least);
            most = inside;
            state = sent_by ε head.state e.orig head.output;
            start = laws.sends_start head.state e.orig head.output head-start;
            trail = head.rest;
            below = λ m h. k.below m (omega arith);
            near = lost-near;
          }

          -- the next packet arrives, with the output b
          module _ (fit : is_on (ε.context e.link) c ≡ true → Gap (marks log at line) → ε.Fit e.orig) where
            pub answers_next : Fine v → Bounded n (marks log at line) → concerns (ε.context e.link) c ≡ true →
                Answers ε e.orig e.link v
            answers_next fine h =
                answers-here v head.state e.orig head.output e.link head.gives
                (marks log at line) head_near head-start fine fit h
                (ε.context e.link) refl

            module _ (b : B) where
              abbrev short : Bool
              short = ltb (ε.room b) (ε.size e.orig)

              abbrev line' : List ℕ
              line' = cond short line (at ∷ line)

              before_same : marks log at line' ≡ marks log at line
              before_same =
                  let h : length (slice from at log) ≡ at - from = length-slice from at log k.most in
                  losses-same ε c (lost line') (lost line) at from (slice from at log) (line_before line at short)
                  (omega (arith, k.least))

              marks-next : marks log (suc at) line' ≡ marks log at line ++ cond (is_on (ε.context e.link) c) (short ∷ []) []
              marks-next =
                  losses-more ε c (lost line') from at log k.least inside
                  ∙ ap {B = List Bool} (λ r. r ++ cond (is_on (ε.context e.link) c) (lost line' at ∷ []) []) before_same
                  ∙ ap {B = List Bool} (λ r. marks log at line ++ cond (is_on (ε.context e.link) c) (r ∷ []) [])
                  (line-here line at k.below short)

              pub fine-next : Fine v → Fine (taken ε v e.link b)
              fine-next h = laws.receives_fine v head.state e.orig head.output e.link head-start head.gives h b

              pub linked-next : Linked log now (suc at) (taken ε v e.link b) line'
              linked-next = record {
                least = omega (arith, k.least);
                most = inside;
                state = sent_by ε head.state e.orig head.output;
                start = laws.sends_start head.state e.orig head.output head-start;
                trail = head.rest;
                below = line_after line at k.below short;
                near = subst (λ (ms : List Bool). Near ms (taken ε v e.link b)
                    (sent_by ε head.state e.orig head.output))
                    (sym marks-next)
                    (near-here v head.state e.orig head.output e.link head.gives
                    (marks log at line) head_near fit b
                    (is_on (ε.context e.link) c) short refl refl);
              }

      -- all packets up to number i are lost
      pub linked-reach : (log : List (Sent P L)) (now : C) (v : D) (line : List ℕ) (i d at : ℕ) → at + d ≡ i → i ≤ length log →
          Linked log now at v line → Linked log now i v line
      linked-reach log now v line i zero at e h k = let q : at ≡ i = omega arith in subst (λ (m : ℕ). Linked log now m v line) q k
      linked-reach log now v line i (suc d) at e h k = linked-reach log now v line i d (suc at) (omega arith) h
          (linked-lost log now at v line k (omega arith))
