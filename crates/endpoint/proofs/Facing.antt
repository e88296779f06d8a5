-- Iarwennol. The theorem on two endpoints that face each other: each direction by itself is robust. Assumes nothing.
-- Seen from one direction, every call is a call of crtp's on the tables of that direction, or leaves them (view-step); so crtp's
-- own theorem is the theorem here.
use Prim.Native.Nat.{ℕ, zero, suc, ◌≤◌}
use mathlib.Core.Path.{◌≡◌, refl, sym, ap, ◌∙◌, subst}
use mathlib.Core.Bool.{Bool, true, false, cond, true≢false}
use mathlib.Core.List.{List, [], ◌∷◌, ◌++◌, map}
use native.Mathlib.Omega.{arith}
use borrow.Author.Tests.{ne_eqb}
use lib.Dec.{eqb}
use lib.ListN.{length, take, get_or}
use Rattle.crtp.specs.Face.{Settings, CompressorTable, DecompressorTable, compressed_rtp, first_refusal-accepted}
use Rattle.crtp.specs.Face.{open_compressor_of, open_decompressor_of, send_of-type, request_of, receive_of, table-report_of}
use Rattle.crtp.specs.Face as face
use Rattle.crtp.specs.Robust as robust
use Rattle.crtp.specs.Robust.{Bytes, Sent}
use Rattle.crtp.specs.Unsaved as crtp
use Rattle.crtp.proofs.Unsaved.{unsaved}
use Rattle.endpoint.specs.declared.answer.Endpoint.{Endpoint}
use Rattle.endpoint.specs.Totals.{rebuilt}
use Rattle.endpoint.specs.Answer.{Result}
use Rattle.endpoint.specs.Calls.{context_state, requested_by, answered_by, open_of, wire_of, radio_of, report_of}
use Rattle.endpoint.specs.History as one
use Rattle.endpoint.specs.Facing.{Side, near, far, across, Half, World, with, Call, at, arrival, given, sent_after, sent_at}
use Rattle.endpoint.specs.Facing.{answer, step, after, sending, seen, view, asks, proper, AllProper, Rebuilt, Right, Exact}
use Rattle.endpoint.specs.Facing.{Opened, Facing}

---- What was given out has a link type of a packet's

abbrev pub Typed : List Sent → Type 0
Typed [] = Unit {0}
Typed (e ∷ es) = (e.kind ≤ compressed_rtp) × Typed es

typed-append : (es fs : List Sent) → Typed es → Typed fs → Typed (es ++ fs)
typed-append [] fs t u = u
typed-append (e ∷ es) fs t u = (t.0, typed-append es fs t.1 u)

typed_at : (es : List Sent) (i : ℕ) → Typed es → (get_or es i (record { packet = []; kind = 0; bytes = [] })).kind ≤ compressed_rtp
typed_at [] i t = omega arith
typed_at (e ∷ es) zero t = t.0
typed_at (e ∷ es) (suc i) t = typed_at es i t.1

typed-given : (p : List ℕ) (r : Result) → r.kind ≤ compressed_rtp → Typed (given p r)
typed-given p r h = by (eqb r.number 0)
  where
    by : (b : Bool) → Typed (cond b (record { packet = p; kind = r.kind; bytes = take r.length r.output } ∷ []) [])
    by true = (h, tt)
    by false = tt

typed-after : (e : Endpoint) (es : List Sent) (x : one.Call) → Typed es → Typed (sent_after es x (one.answer e x))
unfolding wire_of
typed-after e es (one.wire p output) t =
    typed-append es (given p.list (wire_of e p.list output.list)) t
    (typed-given p.list (wire_of e p.list output.list) (send_of-type e.compressor p.list output.list))
typed-after e es (one.radio kind s output) t = t
typed-after e es (one.report output) t = t

abbrev pub AllTyped : World → Type 0
AllTyped w = (s : Side) → Typed (w s).sent

typed-with : (w : World) (s : Side) (h : Half) → Typed h.sent → AllTyped w → AllTyped (with w s h)
typed-with w near h t a near = t
typed-with w near h t a far = a far
typed-with w far h t a near = a near
typed-with w far h t a far = t

pub typed-step : (w : World) (x : Call) → AllTyped w → AllTyped (step w x)
typed-step w (at s x) a = typed-with w s _ (typed-after (w s).endpoint (w s).sent x (a s)) a
typed-step w (arrival s i output) a = typed-with w s _ (a s) a

---- From the radio

-- what is no request goes to the decompressor
radio-rebuilds : (e : Endpoint) (kind : ℕ) (s output : List ℕ) → kind ≤ compressed_rtp
    → radio_of e kind s output ≡ answered_by rebuilt e (receive_of e.decompressor kind s output)
unfolding radio_of
radio-rebuilds e kind s output h = rw (ne_eqb kind context_state (omega arith))

-- what is a request goes to the compressor
radio-asks : (e : Endpoint) (kind : ℕ) (s output : List ℕ) → eqb kind context_state ≡ true
    → radio_of e kind s output ≡ requested_by e output (request_of e.compressor s)
unfolding radio_of
radio-asks e kind s output h = rw h

---- A call at the sending side

-- an endpoint's compressor with what it gave out, and a decompressor: what there is of one direction
abbrev link : CompressorTable → List Sent → DecompressorTable → crtp.World
link t es v = record { compressor = t; decompressor = v; sent = es }

module _ (e : Endpoint) (es : List Sent) (v : DecompressorTable) where
  abbrev now : crtp.World
  now = link e.compressor es v

  sending-radio : (b : Bool) (s output : Bytes) (r : face.receiving.Result)
      → crtp.step now (cond b (crtp.request s) crtp.other)
      ≡ link
      (cond b (requested_by e output.list (request_of e.compressor s.list)) (answered_by rebuilt e r)).endpoint.compressor
      es v
  sending-radio true s output r = refl
  sending-radio false s output r = refl

  sending-step : (x : one.Call)
      → crtp.step now (sending x) ≡ link (one.answer e x).endpoint.compressor (sent_after es x (one.answer e x)) v
  unfolding wire_of radio_of report_of
  sending-step (one.wire p output) = refl
  sending-step (one.radio kind s output) =
      sending-radio (eqb kind context_state) s output (receive_of e.decompressor kind s.list output.list)
  sending-step (one.report output) = refl

---- A call at the receiving side

-- whatever is for the compressor there leaves the decompressor, and so does a report
keeps : (e : Endpoint) (x : one.Call) → asks x ≡ true → (one.answer e x).endpoint.decompressor ≡ e.decompressor
unfolding wire_of report_of
keeps e (one.wire p output) h = refl
keeps e (one.radio kind s output) h = ap (λ (r : Result). r.endpoint.decompressor) (radio-asks e kind s.list output.list h)
keeps e (one.report output) h = table-report_of e.decompressor output.list

module _ (w : World) (typed : AllTyped w) where
  -- an arrival at a side goes to its decompressor
  pub arrival-rebuilds : (s : Side) (i : ℕ) (output : Bytes)
      → answer w s i output
      ≡ answered_by rebuilt (w s).endpoint
      (receive_of (w s).endpoint.decompressor (sent_at w (across s) i).kind (sent_at w (across s) i).bytes output.list)
  arrival-rebuilds s i output =
      radio-rebuilds (w s).endpoint (sent_at w (across s) i).kind (sent_at w (across s) i).bytes output.list
      (typed_at (w (across s)).sent i (typed (across s)))

  arrival-leaves : (s : Side) (i : ℕ) (output : Bytes) → (w s).endpoint.compressor ≡ (answer w s i output).endpoint.compressor
  arrival-leaves s i output = sym (ap (λ (r : Result). r.endpoint.compressor) (arrival-rebuilds s i output))

  arrival-moves : (s : Side) (i : ℕ) (output : Bytes)
      → (receive_of (w s).endpoint.decompressor (sent_at w (across s) i).kind (sent_at w (across s) i).bytes output.list).table
      ≡ (answer w s i output).endpoint.decompressor
  arrival-moves s i output = sym (ap (λ (r : Result). r.endpoint.decompressor) (arrival-rebuilds s i output))

  ---- One direction goes on as crtp's list does

  view-step : (d : Side) (x : Call) → proper d x ≡ true → crtp.step (view d w) (seen d x) ≡ view d (step w x)
  view-step near (at near x) h = sending-step (w near).endpoint (w near).sent (w far).endpoint.decompressor x
  view-step near (at far x) h = λ j. link (w near).endpoint.compressor (w near).sent (sym (keeps (w far).endpoint x h) j)
  view-step near (arrival near i output) h =
      λ j. link (arrival-leaves near i output j) (w near).sent (w far).endpoint.decompressor
  view-step near (arrival far i output) h =
      λ j. link (w near).endpoint.compressor (w near).sent (arrival-moves far i output j)
  view-step far (at near x) h = λ j. link (w far).endpoint.compressor (w far).sent (sym (keeps (w near).endpoint x h) j)
  view-step far (at far x) h = sending-step (w far).endpoint (w far).sent (w near).endpoint.decompressor x
  view-step far (arrival near i output) h = λ j. link (w far).endpoint.compressor (w far).sent (arrival-moves near i output j)
  view-step far (arrival far i output) h =
      λ j. link (arrival-leaves far i output j) (w far).sent (w near).endpoint.decompressor

pub view-after : (d : Side) (xs : List Call) (w : World) → AllTyped w → AllProper d xs
    → crtp.after (view d w) (map (seen d) xs) ≡ view d (after w xs)
view-after d [] w t p = refl
view-after d (x ∷ xs) w t p =
    ap (λ (v : crtp.World). crtp.after v (map (seen d) xs)) (view-step w t d x p.0)
    ∙ view-after d xs (step w x) (typed-step w x t) p.1

---- The claim

exact-rest : (all : List crtp.Call) (v : crtp.World) (y : crtp.Call) (ys : List crtp.Call) → crtp.Exact all v (y ∷ ys)
    → crtp.Exact all (crtp.step v y) ys
exact-rest all v (crtp.send p output) ys x = x
exact-rest all v (crtp.request q) ys x = x
exact-rest all v (crtp.arrival i output) ys x = x.1
exact-rest all v crtp.other ys x = x

module _ (all : List Call) (w : World) (typed : AllTyped w) where
  rebuilt-by : (packet : List ℕ) (s : Side) (i : ℕ) (output : Bytes)
      → robust.Rebuilt packet
      (receive_of (w s).endpoint.decompressor (sent_at w (across s) i).kind (sent_at w (across s) i).bytes output.list)
      → Rebuilt packet (answer w s i output)
  rebuilt-by packet s i output r =
      subst (λ (a : Result). Rebuilt packet a) (sym (arrival-rebuilds w typed s i output))
      (record { accepted = r.accepted; whole = r.whole; exact = r.exact })

  right : (d : Side) (x : Call) (ys : List crtp.Call) → crtp.Exact (map (seen d) all) (view d w) (seen d x ∷ ys) → Right d all w x
  right d (at s x) ys c = tt
  right near (arrival near i output) ys c = λ h k. absurd (true≢false h)
  right near (arrival far i output) ys c = λ h k. rebuilt-by (sent_at w near i).packet far i output (c.0 k)
  right far (arrival near i output) ys c = λ h k. rebuilt-by (sent_at w far i).packet near i output (c.0 k)
  right far (arrival far i output) ys c = λ h k. absurd (true≢false h)

exact-seen : (d : Side) (all xs : List Call) (w : World) → AllTyped w → AllProper d xs
    → crtp.Exact (map (seen d) all) (view d w) (map (seen d) xs) → Exact d all w xs
exact-seen d all [] w t p c = tt
exact-seen d all (x ∷ xs) w t p c = (
  right all w t d x (map (seen d) xs) c,
  exact-seen d all xs (step w x) (typed-step w x t) p.1
      (subst (λ (v : crtp.World). crtp.Exact (map (seen d) all) v (map (seen d) xs)) (view-step w t d x p.0)
      (exact-rest (map (seen d) all) (view d w) (seen d x) (map (seen d) xs) c)),
)

---- The premises

-- an accepted opening of an endpoint opened both of its ends
module _ (e : Endpoint) (n k : ℕ) (accepted : (open_of e n k).number ≡ 0) where
  both : ((open_compressor_of e.compressor n k).number ≡ 0) × ((open_decompressor_of e.decompressor n k).number ≡ 0)
  unfolding open_of
  both = first_refusal-accepted _ _ accepted

  opened-compressor : (open_of e n k).endpoint.compressor ≡ (open_compressor_of e.compressor n k).table
  unfolding open_of
  opened-compressor = rw accepted

  opened-decompressor : (open_of e n k).endpoint.decompressor ≡ (open_decompressor_of e.decompressor n k).table
  unfolding open_of
  opened-decompressor = rw accepted

module _ (s : Settings) (w : World) (o : Opened s w) where
  open-view : (d : Side) → robust.Opened s (view d w).compressor (view d w).decompressor
  open-view d =
      let c = o.earlier d in
      let v = o.earlier (across d) in
      record {
        earlier_c = c.compressor;
        earlier_d = v.decompressor;
        accepted_c = (both c s.repeats s.contexts (o.accepted d)).0;
        accepted_d = (both v s.repeats s.contexts (o.accepted (across d))).1;
        compressor =
            ap (λ (x : Endpoint). x.compressor) (o.opened d) ∙ opened-compressor c s.repeats s.contexts (o.accepted d);
        decompressor =
            ap (λ (x : Endpoint). x.decompressor) (o.opened (across d))
            ∙ opened-decompressor v s.repeats s.contexts (o.accepted (across d));
      }

  pub none-typed : AllTyped w
  none-typed x = subst Typed (sym (o.nothing x)) tt

pub facing : Facing
facing s d w xs p =
    let t = none-typed s w p.opened in
    exact-seen d xs xs w t p.proper
    (unsaved s (view d w) (map (seen d) xs)
    (record {
      opened = open-view s w p.opened d;
      nothing = p.opened.nothing d;
      ordered = p.ordered;
      bounded = λ c. rw (view-after d xs w t p.proper) (p.bounded c);
      fits = rw (view-after d xs w t p.proper) p.fits;
    }))
