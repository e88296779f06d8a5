-- Iarwennol. The statement over bytes is the claim about lists of calls at two ends that are named here. Assumes nothing.
-- Used by the theorem (Robust), its corollary (Alike) and the claim without saves (Unsaved); the laws of the two ends are in Laws.
use Prim.Native.Nat.{ℕ, zero, suc, ◌<◌}
use mathlib.Core.Path.{◌≡◌, refl, sym, ap, ◌∙◌, subst}
use mathlib.Core.Bool.{Bool, true, false, cond}
use mathlib.Core.List.{List, [], ◌∷◌, ◌++◌, map, map-append}
use mathlib.Core.Option.{Option, none, some}
use lib.Dec.{eqb}
use lib.ListN.{length, get_or, take, length-map, get_or-map}
use Rattle.codes.specs.Bytes as bytes
use Rattle.compressor.specs.declared.table.Table as compressor
use Rattle.compressor.specs.Answer as sending
use Rattle.compressor.specs.Send.{send_of}
use Rattle.compressor.specs.Request.{request_of}
use Rattle.decompressor.specs.declared.table.Table as decompressor
use Rattle.decompressor.specs.Answer as receiving
use Rattle.decompressor.specs.Receive.{receive_of}
use Rattle.saves.specs.Saves.{save_of, load_of}
use Rattle.saves.proofs.SavesLaws.{table-save_of}
use Rattle.calls.specs.Calls as calls
use Rattle.calls.proofs.Always.{always-each}
use Rattle.crtp.specs.Robust.{Bytes, Call, send, request, arrival, save, load, other, Sent, Saved, World, given_out, saved_by}
use Rattle.crtp.specs.Robust.{sent_at, saved_at, answer, step, after, Always, context_of, is_on, has, losses, Bounded, Gap}
use Rattle.crtp.specs.Robust.{checksum_fits, Proper, Allowed, Rebuilt, Exact, fresh}

---- The two ends

-- a link packet: its type and its bytes
pub record Frame : Type 0 where
  pub kind : ℕ
  pub bytes : List ℕ

abbrev pub frame_of : sending.Result → Option Frame
frame_of r = cond (eqb r.number 0) (some (record { kind = r.kind; bytes = take r.length r.output })) none

-- what a save gave out
abbrev pub form_of : receiving.Result → Option (List ℕ)
form_of r = cond (eqb r.number 0) (some (take r.length r.output)) none

-- what was handed in and what it became, in the words of the statement
abbrev pub sent_of : calls.Sent Bytes Frame → Sent
sent_of e = record { packet = e.orig.list; kind = e.link.kind; bytes = e.link.bytes }

abbrev saved_of : calls.Save (List ℕ) → Saved
saved_of x = record { bytes = x.form; line = x.line }

abbrev pub frame_context : Frame → Option ℕ
frame_context f = context_of (record { packet = []; kind = f.kind; bytes = f.bytes })

abbrev no_bytes : Bytes
no_bytes = record { list = []; small = bytes.none }

-- a packet whose UDP checksum is blank or right may arrive right after a gap
abbrev pub ends : calls.Ends Bytes Frame Bytes Bytes (List ℕ) compressor.Table decompressor.Table sending.Result receiving.Result
ends = record {
  size = λ p. length p.list;
  room = λ b. length b.list;
  context = frame_context;
  send = λ t p b. send_of t p.list b.list;
  compressor = λ r. r.table;
  out = frame_of;
  request = λ t q. (request_of t q.list).table;
  receive = λ t f b. receive_of t f.kind f.bytes b.list;
  decompressor = λ r. r.table;
  save = λ t b. form_of (save_of t b.list);
  load = λ t f. (load_of t f).table;
  Right = λ p r. Rebuilt p.list r;
  Lacking = λ r. r.number ≡ 11;
  Fit = λ p. checksum_fits p.list ≡ true;
  nothing = record { orig = no_bytes; link = record { kind = 0; bytes = [] } };
  no_form = [];
}

abbrev pub Ends·World : Type 0
Ends·World = calls.World Bytes Frame (List ℕ) compressor.Table decompressor.Table

abbrev pub Ends·Call : Type 0
Ends·Call = calls.Call Bytes Bytes Bytes decompressor.Table

---- Calls and worlds of the statement

abbrev pub call_of : Call → Ends·Call
call_of (send p output) = calls.send_call p output
call_of (request q) = calls.request_call q
call_of (arrival i output) = calls.arrival_call i output
call_of (save output) = calls.save_call output
call_of (load i handed) = calls.load_call i handed
call_of other = calls.other_call

abbrev pub world_of : Ends·World → World
world_of w = record {
  compressor = w.compressor;
  decompressor = w.decompressor;
  sent = map sent_of w.log;
  line = w.line;
  saved = map saved_of w.saves;
  next = w.next;
}

abbrev stepped : Ends·World → Call → Ends·World
stepped w x = calls.step ends w (call_of x)

given-logged : (p : Bytes) (r : sending.Result) → given_out p.list r ≡ map sent_of (calls.logged (frame_of r) p)
given-logged p r = by (eqb r.number 0)
  where
    by : (b : Bool) → cond b (record { packet = p.list; kind = r.kind; bytes = take r.length r.output } ∷ []) []
        ≡ map sent_of (calls.logged (cond b (some (record { kind = r.kind; bytes = take r.length r.output })) none) p)
    by true = refl
    by false = refl

saved-noted : (line : List ℕ) (r : receiving.Result) → saved_by line r ≡ map saved_of (calls.saved (form_of r) line)
saved-noted line r = by (eqb r.number 0)
  where
    by : (b : Bool) → cond b (record { bytes = take r.length r.output; line = line } ∷ []) []
        ≡ map saved_of (calls.saved (cond b (some (take r.length r.output)) none) line)
    by true = refl
    by false = refl

pub sent_at-world_of : (w : Ends·World) (i : ℕ) → sent_at (world_of w) i ≡ sent_of (get_or w.log i ends.nothing)
sent_at-world_of w i = get_or-map sent_of w.log i ends.nothing

saved_at-world_of : (w : Ends·World) (i : ℕ) → saved_at (world_of w) i ≡ saved_of (calls.save_at ends w i)
saved_at-world_of w i = get_or-map saved_of w.saves i (record { form = []; line = [] })

pub answer-world_of : (w : Ends·World) (i : ℕ) (output : Bytes) → answer (world_of w) i output ≡ calls.arrived ends w i output
answer-world_of w i output = rw (sent_at-world_of w i)

pub rebuilt-world_of : (w : Ends·World) (i : ℕ) (output : Bytes)
    → Rebuilt (calls.packet_at ends w i).list (calls.arrived ends w i output)
    → Rebuilt (sent_at (world_of w) i).packet (answer (world_of w) i output)
rebuilt-world_of w i output r = rw (sent_at-world_of w i) r

pub sent-more : (log : List (calls.Sent Bytes Frame)) (p : Bytes) (r : sending.Result)
    → map sent_of log ++ given_out p.list r ≡ map sent_of (log ++ calls.logged (frame_of r) p)
sent-more log p r = rw (map-append sent_of log (calls.logged (frame_of r) p), given-logged p r)

saved-more : (saves : List (calls.Save (List ℕ))) (line : List ℕ) (r : receiving.Result)
    → map saved_of saves ++ saved_by line r ≡ map saved_of (saves ++ calls.saved (form_of r) line)
saved-more saves line r = rw (map-append saved_of saves (calls.saved (form_of r) line), saved-noted line r)

step-world_of : (w : Ends·World) (x : Call) → step (world_of w) x ≡ world_of (stepped w x)
step-world_of w (send p output) = rw (sent-more w.log p (send_of w.compressor p.list output.list))
step-world_of w (request q) = refl
step-world_of w (arrival i output) = rw (sent_at-world_of w i)
step-world_of w (save output) =
    rw (saved-more w.saves w.line (save_of w.decompressor output.list), table-save_of w.decompressor output.list)
step-world_of w (load i handed) = rw (saved_at-world_of w i)
step-world_of w other = refl

pub after-world_of : (xs : List Call) (w : Ends·World) → after (world_of w) xs ≡ world_of (calls.final ends w (map call_of xs))
after-world_of [] w = refl
after-world_of (x ∷ xs) w = ap (λ (v : World). after v xs) (step-world_of w x) ∙ after-world_of xs (stepped w x)

---- What holds of every call here holds of every call there, and back

module _ (R : World → Call → Type 0) (S : Ends·World → Ends·Call → Type 0) where
  always-calls : ((w : Ends·World) (x : Call) → R (world_of w) x → S w (call_of x)) → (xs : List Call) (w : Ends·World)
      → Always R (world_of w) xs → calls.Always ends S w (map call_of xs)
  always-calls f [] w a = tt
  always-calls f (x ∷ xs) w a =
      (f w x a.0, always-calls f xs (stepped w x) (subst (λ (v : World). Always R v xs) (step-world_of w x) a.1))

  calls-always : ((w : Ends·World) (x : Call) → S w (call_of x) → R (world_of w) x) → (xs : List Call) (w : Ends·World)
      → calls.Always ends S w (map call_of xs) → Always R (world_of w) xs
  calls-always f [] w a = tt
  calls-always f (x ∷ xs) w a =
      (f w x a.0, subst (λ (v : World). Always R v xs) (sym (step-world_of w x)) (calls-always f xs (stepped w x) a.1))

---- The premises

pub is_on-same : (o : Option ℕ) (c : ℕ) → is_on o c ≡ calls.is_on o c
is_on-same none c = refl
is_on-same (some d) c = refl

has_same : (line : List ℕ) (m : ℕ) → has line m ≡ calls.has line m
has_same [] m = refl
has_same (k ∷ ks) m = rw (has_same ks m)

pub map-take : {A B : Type 0} (f : A → B) (n : ℕ) (xs : List A) → take n (map f xs) ≡ map f (take n xs)
map-take f zero xs = refl
map-take f (suc n) [] = refl
map-take {B = B} f (suc n) (x ∷ xs) = ap {B = List B} (λ r. f x ∷ r) (map-take f n xs)

losses-same : (c : ℕ) (line : List ℕ) (i : ℕ) (es : List (calls.Sent Bytes Frame))
    → losses c line i (map sent_of es) ≡ calls.losses ends c (calls.lost line) i es
losses-same c line i [] = refl
losses-same c line i (e ∷ es) = rw (is_on-same (context_of (sent_of e)) c, has_same line i, losses-same c line (suc i) es)

losses-world_of : (c : ℕ) (w : Ends·World) (i : ℕ)
    → losses c w.line 0 (take i (map sent_of w.log)) ≡ calls.losses_at ends 0 c w i
losses-world_of c w i =
    ap (λ (es : List Sent). losses c w.line 0 es) (map-take sent_of i w.log) ∙ losses-same c w.line 0 (take i w.log)

-- what is asked of a packet right after a gap, here and there
module _ (c : ℕ) (w : Ends·World) (i : ℕ) where
  on-world_of : is_on (context_of (sent_at (world_of w) i)) c ≡ calls.is_on (frame_context (calls.link_at ends w i)) c
  on-world_of =
      ap (λ (e : Sent). is_on (context_of e) c) (sent_at-world_of w i) ∙ is_on-same (frame_context (calls.link_at ends w i)) c

  abbrev Asked : Type 0
  Asked =
      is_on (context_of (sent_at (world_of w) i)) c ≡ true → Gap (losses c w.line 0 (take i (map sent_of w.log)))
      → checksum_fits (sent_at (world_of w) i).packet ≡ true

  abbrev Asked·ends : Type 0
  Asked·ends =
      calls.is_on (frame_context (calls.link_at ends w i)) c ≡ true → Gap (calls.losses_at ends 0 c w i)
      → checksum_fits (calls.packet_at ends w i).list ≡ true

  fits-ends : Asked → Asked·ends
  fits-ends f on gap =
      subst (λ (e : Sent). checksum_fits e.packet ≡ true) (sent_at-world_of w i)
      (f (on-world_of ∙ on) (subst Gap (sym (losses-world_of c w i)) gap))

  fits-world_of : Asked·ends → Asked
  fits-world_of f on gap =
      subst (λ (e : Sent). checksum_fits e.packet ≡ true) (sym (sent_at-world_of w i))
      (f (sym on-world_of ∙ on) (subst Gap (losses-world_of c w i) gap))

module _ (n : ℕ) where
  proper-ends : (c : ℕ) (w : Ends·World) (i : ℕ) → Proper n (world_of w) i → calls.Proper ends n 0 c w i
  proper-ends c w i p = record {
    sent = rw (length-map w.log sent_of) at p.given;
    order = p.order;
    bounded = subst (Bounded n) (losses-world_of c w i) (p.bounded c);
    fit = fits-ends c w i (p.fits c);
  }

  allowed-ends : (c : ℕ) (w : Ends·World) (x : Call) → Allowed n (world_of w) x → calls.Allowed ends n 0 c w (call_of x)
  allowed-ends c w (send p output) a = tt
  allowed-ends c w (request q) a = tt
  allowed-ends c w (arrival i output) a = proper-ends c w i a
  allowed-ends c w (save output) a = tt
  allowed-ends c w (load i handed) a = subst (λ (k : ℕ). i < k) (length-map w.saves saved_of) a
  allowed-ends c w other a = tt

  -- and back, from every context number
  proper-world_of : (w : Ends·World) (i : ℕ) → ((c : ℕ) → calls.Proper ends n 0 c w i) → Proper n (world_of w) i
  proper-world_of w i p = record {
    given = rw (length-map w.log sent_of) (p 0).sent;
    order = (p 0).order;
    bounded = λ c. subst (Bounded n) (sym (losses-world_of c w i)) (p c).bounded;
    fits = λ c. fits-world_of c w i (p c).fit;
  }

  allowed-world_of : (w : Ends·World) (x : Call) → ((c : ℕ) → calls.Allowed ends n 0 c w (call_of x)) → Allowed n (world_of w) x
  allowed-world_of w (send p output) a = tt
  allowed-world_of w (request q) a = tt
  allowed-world_of w (arrival i output) a = proper-world_of w i a
  allowed-world_of w (save output) a = tt
  allowed-world_of w (load i handed) a = subst (λ (k : ℕ). i < k) (sym (length-map w.saves saved_of)) (a 0)
  allowed-world_of w other a = tt

---- The claim

exact-world_of : (w : Ends·World) (x : Call) → calls.AtArrival ends (calls.Exact ends) w (call_of x) → Exact (world_of w) x
exact-world_of w (send p output) a = tt
exact-world_of w (request q) a = tt
exact-world_of w (arrival i output) a = λ room. rebuilt-world_of w i output (a (rw (sent_at-world_of w i) at room))
exact-world_of w (save output) a = tt
exact-world_of w (load i handed) a = tt
exact-world_of w other a = tt

---- From tables with nothing sent yet

module _ (n : ℕ) (t : compressor.Table) (d : decompressor.Table) (xs : List Call) where
  abbrev start : Ends·World
  start = calls.fresh ends t d

  -- the premises over bytes are the premises at the two ends
  pub allowed-to-ends : Always (Allowed n) (fresh t d) xs
      → (c : ℕ) → calls.Always ends (calls.Allowed ends n 0 c) start (map call_of xs)
  allowed-to-ends a c = always-calls (Allowed n) (calls.Allowed ends n 0 c) (allowed-ends n c) xs start a

  pub allowed-from-ends : ((c : ℕ) → calls.Always ends (calls.Allowed ends n 0 c) start (map call_of xs))
      → Always (Allowed n) (fresh t d) xs
  allowed-from-ends a =
      calls-always (Allowed n) (λ w x. (c : ℕ) → calls.Allowed ends n 0 c w x) (allowed-world_of n) xs start
      (always-each ends (calls.Allowed ends n 0) (map call_of xs) start a)

  -- and the claim there is the claim over bytes
  pub exact-from-ends : calls.Faithful ends n t d → Always (Allowed n) (fresh t d) xs → Always Exact (fresh t d) xs
  exact-from-ends claim a =
      calls-always Exact (calls.AtArrival ends (calls.Exact ends)) exact-world_of xs start
      (claim (map call_of xs) (allowed-to-ends a))
