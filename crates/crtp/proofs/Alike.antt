-- Iarwennol. The corollary: what an arrival rebuilds to depends on the sends and requests alone. Assumes nothing.
-- An arrival that is accepted has room, so it is the packet that went in; and what went in is the same in both lists.
use Prim.Native.Nat.{ℕ, ◌≤◌, ◌<◌}
use mathlib.Core.Path.{◌≡◌, refl, sym, ap, ◌∙◌, subst}
use mathlib.Core.List.{List, [], ◌∷◌, ◌++◌, map, map-append}
use native.Mathlib.Omega.{arith}
use native.Mathlib.Decide.{dec_le}
use lib.ListN.{length, get_or, length-append, get_or-append}
use Rattle.settings.specs.declared.Settings.{Settings}
use Rattle.compressor.specs.declared.table.Table as compressor
use Rattle.compressor.specs.Send.{send_of}
use Rattle.compressor.specs.Request.{request_of}
use Rattle.decompressor.specs.declared.table.Table as decompressor
use Rattle.decompressor.specs.Answer as receiving
use Rattle.calls.specs.Calls as calls
use Rattle.calls.proofs.Always.{always-at}
use Rattle.crtp.specs.Robust.{Bytes, Call, send, request, arrival, save, load, other, Sent, World, given_out, sent_at, answer}
use Rattle.crtp.specs.Robust.{step, after, Always, Allowed, Rebuilt, fresh, Premises}
use Rattle.crtp.specs.Alike.{asked, Arrival, answer_of, Same, Alike}
use Rattle.crtp.proofs.Lists.{Ends·World, Ends·Call, ends, call_of, world_of, answer-world_of, rebuilt-world_of, after-world_of}
use Rattle.crtp.proofs.Robust.{opened-compressor, opened-answered}

---- An accepted arrival is the packet that went in

-- a table that answers rightly accepts only what has room
module _ (w : Ends·World) (i : ℕ) (output : Bytes) (right : calls.Answered ends w i output) where
  abbrev packet : List ℕ
  packet = (calls.packet_at ends w i).list

  rebuilt-by : Dec (length packet ≤ length output.list) → (calls.arrived ends w i output).number ≡ 0
      → Rebuilt packet (calls.arrived ends w i output)
  rebuilt-by (yes h) e = (right output).0 h
  rebuilt-by (no h) e = absurd (omega (arith, e, (right output).1 (omega arith)))

  rebuilt-answered : (answer (world_of w) i output).number ≡ 0 → Rebuilt (sent_at (world_of w) i).packet
      (answer (world_of w) i output)
  rebuilt-answered z =
      rebuilt-world_of w i output
      (rebuilt-by (dec_le (length packet) (length output.list))
      (sym (ap (λ (x : receiving.Result). x.number) (answer-world_of w i output)) ∙ z))

---- What went in is the same

-- what was given out before stays
grows : (xs : List Call) (w : World) (i : ℕ) → i < length w.sent → sent_at (after w xs) i ≡ sent_at w i
grows [] w i h = refl
grows (send p o ∷ xs) w i h =
    let more = given_out p.list (send_of w.compressor p.list o.list) in
    let n = length-append w.sent more in
    grows xs (step w (send p o)) i (omega arith) ∙ get_or-append w.sent more _ i h
grows (request q ∷ xs) w i h = grows xs (step w (request q)) i h
grows (arrival m o ∷ xs) w i h = grows xs (step w (arrival m o)) i h
grows (save o ∷ xs) w i h = grows xs (step w (save o)) i h
grows (load m d ∷ xs) w i h = grows xs (step w (load m d)) i h
grows (other ∷ xs) w i h = grows xs w i h

-- calls one after another
after-append : (xs ys : List Call) (w : World) → after w (xs ++ ys) ≡ after (after w xs) ys
after-append [] ys w = refl
after-append (x ∷ xs) ys w = after-append xs ys (step w x)

-- one call among others
always-one : (R : World → Call → Type 0) (x : Call) (later before : List Call) (w : World) → Always R w (before ++ (x ∷ later))
    → R (after w before) x
always-one R x later [] w a = a.0
always-one R x later (y ∷ before) w a = always-one R x later before (step w y) a.1

-- the packets given out depend on the sends and requests alone
sent-asked : (xs : List Call) (w v : World) → w.compressor ≡ v.compressor → w.sent ≡ v.sent
    → (after w xs).sent ≡ (after v (asked xs)).sent
sent-asked [] w v c s = s
sent-asked (send p b ∷ xs) w v c s =
    sent-asked xs (step w (send p b)) (step v (send p b)) (ap (λ (t : compressor.Table). (send_of t p.list b.list).table) c)
    (λ j. s j ++ given_out p.list (send_of (c j) p.list b.list))
sent-asked (request q ∷ xs) w v c s =
    sent-asked xs (step w (request q)) (step v (request q)) (ap (λ (t : compressor.Table). (request_of t q.list).table) c) s
sent-asked (arrival k b ∷ xs) w v c s = sent-asked xs (step w (arrival k b)) v c s
sent-asked (save b ∷ xs) w v c s = sent-asked xs (step w (save b)) v c s
sent-asked (load k d ∷ xs) w v c s = sent-asked xs (step w (load k d)) v c s
sent-asked (other ∷ xs) w v c s = sent-asked xs w v c s

same_sent : (s : Settings) (t u : compressor.Table) (d e : decompressor.Table) (xs ys : List Call) → Premises s t d xs
    → Premises s u e ys → asked xs ≡ asked ys → (after (fresh t d) xs).sent ≡ (after (fresh u e) ys).sent
same_sent s t u d e xs ys p q z =
    sent-asked xs (fresh t d) (fresh u e) (opened-compressor s t d p.opened ∙ sym (opened-compressor s u e q.opened)) refl
    ∙ ap (λ (l : List Call). (after (fresh u e) l).sent) z
    ∙ sym (sent-asked ys (fresh u e) (fresh u e) refl refl)

---- The corollary

module _ (s : Settings) (t : compressor.Table) (d : decompressor.Table) (xs : List Call) (p : Premises s t d xs) (i : ℕ)
    (a : Arrival xs i) where
  -- the world that it finds, at the two ends
  abbrev found : Ends·World
  found = calls.final ends (calls.fresh ends t d) (map call_of a.before)

  found-is : after (fresh t d) a.before ≡ world_of found
  found-is = after-world_of a.before (calls.fresh ends t d)

  found-answered : calls.Answered ends found i a.output
  found-answered =
      always-at ends (calls.AtArrival ends (calls.Answered ends)) (map call_of a.before) (map call_of a.later)
      (calls.arrival_call i a.output) (calls.fresh ends t d)
      (subst (calls.Always ends (calls.AtArrival ends (calls.Answered ends)) (calls.fresh ends t d))
      (ap {B = List Ends·Call} (λ l. map call_of l) a.here
      ∙ map-append call_of a.before (arrival i a.output ∷ a.later))
      (opened-answered s t d p.opened xs p))

  -- it was given out before
  found-given : i < length (after (fresh t d) a.before).sent
  found-given =
      (always-one (Allowed s.repeats) (arrival i a.output) a.later a.before (fresh t d)
      (subst (Always (Allowed s.repeats) (fresh t d)) a.here p.allowed)).given

  -- its packet is that of the whole list
  packet-whole : sent_at (after (fresh t d) xs) i ≡ sent_at (after (fresh t d) a.before) i
  packet-whole =
      ap (λ (l : List Call). sent_at (after (fresh t d) l) i) a.here
      ∙ ap (λ (u : World). sent_at u i) (after-append a.before (arrival i a.output ∷ a.later) (fresh t d))
      ∙ grows (arrival i a.output ∷ a.later) (after (fresh t d) a.before) i found-given

  accepted-rebuilt : (answer_of t d xs i a).number ≡ 0 → Rebuilt (sent_at (after (fresh t d) xs) i).packet (answer_of t d xs i a)
  accepted-rebuilt z =
      subst (λ (x : Sent). Rebuilt x.packet (answer_of t d xs i a)) (sym packet-whole)
      (subst (λ (u : World). (answer u i a.output).number ≡ 0 → Rebuilt (sent_at u i).packet (answer u i a.output))
      (sym found-is) (rebuilt-answered found i a.output found-answered) z)

same-rebuilt : (packet : List ℕ) (r q : receiving.Result) → Rebuilt packet r → Rebuilt packet q → Same r q
same-rebuilt packet r q a b = record {
  length = a.whole ∙ sym b.whole;
  bytes = rw (a.whole, b.whole) (a.exact ∙ sym b.exact);
}

pub alike : Alike
alike s t u d e xs ys p q z i a b x y =
    same-rebuilt (sent_at (after (fresh t d) xs) i).packet (answer_of t d xs i a) (answer_of u e ys i b)
    (accepted-rebuilt s t d xs p i a x)
    (subst (λ (l : List Sent). Rebuilt (get_or l i (record { packet = []; kind = 0; bytes = [] })).packet (answer_of u e ys i b))
    (sym (same_sent s t u d e xs ys p q z)) (accepted-rebuilt s u e ys q i b y))
