-- Iarwennol. The claims of Calls, proved of any two ends that meet the Laws. Assumes nothing.
-- `goes` speaks of one context and of the packets from any number on, `answered` and `faithful` of all contexts from the start on.
-- Used by the crate that names two ends (crtp).
use mathlib.Core.Path.{◌≡◌, refl, sym, subst}
use mathlib.Core.Bool.{true}
use mathlib.Core.List.{List, [], ◌∷◌, ◌++◌, append-nil}
use mathlib.Core.Option.{Option, none, some}
use Prim.Native.Nat.{ℕ, suc, ◌-◌, ◌≤◌, ◌<◌}
use native.Mathlib.Omega.{arith}
use native.Mathlib.Decide.{dec_le}
use lib.ListN.{length, get_or, length-append, get_or-append}
use lib.Seq.{get_or_at}
use borrow.Author.Tests.{eq-eqb}
use Rattle.calls.specs.Calls.{Call, send_call, request_call, arrival_call, save_call, load_call, other_call, Sent, Save, World}
use Rattle.calls.specs.Calls.{Ends, saved, link_at, save_at, step, Always, Proper, Allowed, AtArrival, Exact, Answered, fresh}
use Rattle.calls.specs.Calls.{Faithful}
use Rattle.calls.proofs.Always.{always-keep, arrivals-map, arrivals-each}
use Rattle.calls.proofs.Laws.{Laws}
use Rattle.calls.proofs.Trail.{Trail, stays, asked, sends}
use Rattle.calls.proofs.Linked.{concerns, Linked, linked-grow, linked-reach, linked-next, answers_next, fine-next}

module _ {P L B Q F C D SA Ra : Type 0} {n : ℕ} {ε : Ends P L B Q F C D SA Ra} {Start : C → Type 0} {Fine : D → Type 0}
    {Rel : ℕ → ℕ → D → C → Type 0} (laws : Laws n ε Start Fine Rel) where
  ---- One context, counted from number `from` on

  module _ (c from : ℕ) where
    -- a table with its line: the packets given out, the compressor's table, and the first packet that may arrive
    pub record Tied (log : List (Sent P L)) (now : C) (next : ℕ) (v : D) (line : List ℕ) : Type 0 where
      pub fine : Fine v
      pub at : ℕ
      pub soon : at ≤ next
      pub linked : Linked laws c from log now at v line

    -- what a save gave out stands for such a table
    pub record Stored (log : List (Sent P L)) (now : C) (next : ℕ) (x : Save F) : Type 0 where
      pub table : D
      pub back : (d : D) → ε.load d x.form ≡ table
      pub tied : Tied log now next table x.line

    pub record Kept (w : World P L F C D) : Type 0 where
      pub now : Tied w.log w.compressor w.next w.decompressor w.line
      pub stored : (i : ℕ) → i < length w.saves → Stored w.log w.compressor w.next (save_at ε w i)

    ---- The compressor's calls

    module _ (log : List (Sent P L)) (now : C) (next : ℕ) (new : List (Sent P L)) (now' : C) (way : Trail ε now new now') where
      tied-sent : (v : D) (line : List ℕ) → Tied log now next v line → Tied (log ++ new) now' next v line
      tied-sent v line t = record {
        fine = t.fine;
        at = t.at;
        soon = t.soon;
        linked = linked-grow laws c from log now t.at v line t.linked new now' way;
      }

      stored-sent : (x : Save F) → Stored log now next x → Stored (log ++ new) now' next x
      stored-sent x s = record { table = s.table; back = s.back; tied = tied-sent s.table x.line s.tied }

    kept_send : (w : World P L F C D) (p : P) (b : B) → Kept w → Kept (step ε w (send_call p b))
    kept_send w p b k = record {
      now = tied-sent w.log w.compressor w.next _ _ (sends ε w.compressor p b) w.decompressor w.line k.now;
      stored = λ i h. stored-sent w.log w.compressor w.next _ _ (sends ε w.compressor p b) (save_at ε w i)
          (k.stored i h);
    }

    kept-request : (w : World P L F C D) (q : Q) → Kept w → Kept (step ε w (request_call q))
    kept-request w q k = subst Kept world_is (record {
      now = tied-sent w.log w.compressor w.next [] _ way w.decompressor w.line k.now;
      stored = λ i h. stored-sent w.log w.compressor w.next [] _ way (save_at ε w i) (k.stored i h);
    })
      where
        way : Trail ε w.compressor [] (ε.request w.compressor q)
        way = asked w.compressor q (stays (ε.request w.compressor q))

        world_is : record {
          compressor = ε.request w.compressor q;
          log = w.log ++ [];
          decompressor = w.decompressor;
          line = w.line;
          saves = w.saves;
          next = w.next;
        } ≡ step ε w (request_call q)
        world_is = λ i. record {
          compressor = ε.request w.compressor q;
          log = append-nil w.log i;
          decompressor = w.decompressor;
          line = w.line;
          saves = w.saves;
          next = w.next;
        }

    ---- An arrival

    module _ (w : World P L F C D) (i : ℕ) (b : B) (ok : Proper ε n from c w i) where
      -- a table that was saved waits on
      stored-arrival : (x : Save F) → Stored w.log w.compressor w.next x → Stored w.log w.compressor (suc i) x
      stored-arrival x s = record {
        table = s.table;
        back = s.back;
        tied = record {
          fine = s.tied.fine;
          at = s.tied.at;
          soon = omega (arith, s.tied.soon, ok.order);
          linked = s.tied.linked;
        };
      }

      module _ (k : Kept w) where
        -- the packets before it that did not arrive are lost
        reached : Linked laws c from w.log w.compressor i w.decompressor w.line
        reached =
            linked-reach laws c from w.log w.compressor w.decompressor w.line i (i - k.now.at) k.now.at
            (omega (arith, k.now.soon, ok.order)) (omega (arith, ok.sent)) k.now.linked

        answers-arrival : concerns (ε.context (link_at ε w i)) c ≡ true → Answered ε w i b
        answers-arrival =
            answers_next laws c from w.log w.compressor i w.decompressor w.line reached ok.sent ok.fit
            k.now.fine ok.bounded

        kept-arrival : Kept (step ε w (arrival_call i b))
        kept-arrival = record {
          now = record {
            fine = fine-next laws c from w.log w.compressor i w.decompressor w.line reached ok.sent ok.fit b
                k.now.fine;
            at = suc i;
            soon = omega arith;
            linked = linked-next laws c from w.log w.compressor i w.decompressor w.line reached ok.sent
                ok.fit b;
          };
          stored = λ m h. stored-arrival (save_at ε w m) (k.stored m h);
        }

    ---- A save, and a load

    module _ (w : World P L F C D) (k : Kept w) where
      abbrev Held : List (Save F) → Type 0
      Held xs = (i : ℕ) → i < length xs →
          Stored w.log w.compressor w.next (get_or xs i (record { form = ε.no_form; line = [] }))

      held_more : (x : Save F) → Stored w.log w.compressor w.next x → Held (w.saves ++ (x ∷ []))
      held_more x s i h = by (dec_le (suc i) (length w.saves))
        where
          by : Dec (suc i ≤ length w.saves) →
              Stored w.log w.compressor w.next (get_or (w.saves ++ (x ∷ [])) i (record { form = ε.no_form; line = [] }))
          by (yes l) = rw (get_or-append w.saves (x ∷ []) (record { form = ε.no_form; line = [] }) i l) (k.stored i l)
          by (no l) =
              let q = length-append w.saves (x ∷ []) in
              let e : length w.saves ≡ i = omega arith in
              rw (get_or_at w.saves x [] (record { form = ε.no_form; line = [] }) i e) s

      held-save : (b : B) (o : Option F) → ε.save w.decompressor b ≡ o → Held (w.saves ++ saved o w.line)
      held-save b none e = rw (append-nil w.saves) k.stored
      held-save b (some f) e =
          held_more (record { form = f; line = w.line })
          (record { table = w.decompressor; back = laws.loads w.decompressor b f k.now.fine e; tied = k.now })

      kept-save : (b : B) → Kept (step ε w (save_call b))
      kept-save b = record { now = k.now; stored = held-save b (ε.save w.decompressor b) refl }

      kept-load : (i : ℕ) (d : D) → i < length w.saves → Kept (step ε w (load_call i d))
      kept-load i d h = record {
        now = subst (λ (v : D). Tied w.log w.compressor w.next v (save_at ε w i).line) (sym ((k.stored i h).back d))
            (k.stored i h).tied;
        stored = k.stored;
      }

    ---- Every call of a list

    abbrev pub Settled : World P L F C D → (i : ℕ) (b : B) → Type 0
    Settled w i b = concerns (ε.context (link_at ε w i)) c ≡ true → Answered ε w i b

    goes_on : (w : World P L F C D) (x : Call P B Q D) → Kept w → Allowed ε n from c w x →
        AtArrival ε Settled w x × Kept (step ε w x)
    goes_on w (send_call p b) k ok = (tt, kept_send w p b k)
    goes_on w (request_call q) k ok = (tt, kept-request w q k)
    goes_on w (arrival_call i b) k ok = (answers-arrival w i b ok k, kept-arrival w i b ok k)
    goes_on w (save_call b) k ok = (tt, kept-save w k b)
    goes_on w (load_call i d) k ok = (tt, kept-load w k i d ok)
    goes_on w other_call k ok = (tt, k)

    pub goes : (xs : List (Call P B Q D)) (w : World P L F C D) → Kept w → Always ε (Allowed ε n from c) w xs →
        Always ε (AtArrival ε Settled) w xs
    goes = always-keep ε (Allowed ε n from c) (AtArrival ε Settled) Kept goes_on

  ---- All contexts

  -- the context by which an arrival is judged
  abbrev judge : Option ℕ → ℕ
  judge none = 0
  judge (some d) = d

  judges : (o : Option ℕ) → concerns o (judge o) ≡ true
  judges none = refl
  judges (some d) = eq-eqb d d refl

  module _ (s : C) (v : D) (start : Start s) (fine : Fine v) (related : (c : ℕ) → Rel c 0 v s) where
    kept_fresh : (c : ℕ) → Kept c 0 (fresh ε s v)
    kept_fresh c = record {
      now = record {
        fine = fine;
        at = 0;
        soon = omega arith;
        linked = record {
          least = omega arith;
          most = omega arith;
          state = s;
          start = start;
          trail = stays s;
          below = λ m h. refl;
          near = λ h. related c;
        };
      };
      stored = λ i h. absurd (omega arith);
    }

    -- from tables that are related on, every arrival is answered rightly, and so the two ends are faithful
    pub answered : (xs : List (Call P B Q D)) → ((c : ℕ) → Always ε (Allowed ε n 0 c) (fresh ε s v) xs) →
        Always ε (AtArrival ε (Answered ε)) (fresh ε s v) xs
    answered xs ok =
        arrivals-map ε (λ w i b. (c : ℕ) → Settled c 0 w i b) (Answered ε)
        (λ w i b h. h (judge (ε.context (link_at ε w i))) (judges (ε.context (link_at ε w i)))) xs (fresh ε s v)
        (arrivals-each ε (λ c. Settled c 0) xs (fresh ε s v) (λ c. goes c 0 xs (fresh ε s v) (kept_fresh c) (ok c)))

    pub faithful : Faithful ε n s v
    faithful xs ok = arrivals-map ε (Answered ε) (Exact ε) (λ w i b h. (h b).0) xs (fresh ε s v) (answered xs ok)
