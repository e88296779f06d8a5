-- Iarwennol. Robustness of lists without saves and loads, proved. Assumes nothing.
-- Such a list is a list of Robust's, and meets its premises; and the claim at the two ends is the claim in the words of Unsaved
-- (calls).
use Prim.Native.Nat.{ℕ, suc, ◌<◌}
use mathlib.Core.Path.{◌≡◌, refl, sym, ap, ◌∙◌, subst}
use mathlib.Core.Bool.{true, false}
use mathlib.Core.List.{List, [], ◌∷◌, map}
use lib.ListN.{length, get_or, take, length-map, get_or-map}
use Rattle.settings.specs.declared.Settings.{Settings}
use Rattle.compressor.specs.Send.{send_of}
use Rattle.calls.specs.Calls as calls
use Rattle.calls.specs.Earlier.{arrivals, lost_in, marks, Lawful, FitAt, FitIn, ExactIn, Earlier}
use Rattle.calls.proofs.Earlier.{earlier, earlier-allowed}
use Rattle.crtp.specs.Robust as robust
use Rattle.crtp.specs.Robust.{Bytes, Sent, context_of, is_on, Gap, checksum_fits, Rebuilt}
use Rattle.crtp.specs.Unsaved.{Call, send, request, arrival, other, World, sent_in, sent_at, answer, step, after, Ordered, lost}
use Rattle.crtp.specs.Unsaved.{losses, Fits, AllFit, Exact, Premises, Unsaved}
use Rattle.crtp.proofs.Lists.{Frame, Ends·World, Ends·Call, ends, call_of, frame_context, sent_of, sent-more, is_on-same}
use Rattle.crtp.proofs.Lists.{map-take, allowed-from-ends}
use Rattle.crtp.proofs.Robust.{opened-faithful}

---- Calls and worlds

-- the same call among those of Robust
abbrev pub as_robust : Call → robust.Call
as_robust (send p output) = robust.send p output
as_robust (request q) = robust.request q
as_robust (arrival i output) = robust.arrival i output
as_robust other = robust.other

abbrev ends_calls : List Call → List Ends·Call
ends_calls xs = map call_of (map as_robust xs)

abbrev world_of : Ends·World → World
world_of w = record { compressor = w.compressor; decompressor = w.decompressor; sent = map sent_of w.log }

abbrev stepped : Ends·World → Call → Ends·World
stepped w x = calls.step ends w (call_of (as_robust x))

sent_at-world_of : (w : Ends·World) (i : ℕ) → sent_at (world_of w) i ≡ sent_of (get_or w.log i ends.nothing)
sent_at-world_of w i = get_or-map sent_of w.log i ends.nothing

step-world_of : (w : Ends·World) (x : Call) → step (world_of w) x ≡ world_of (stepped w x)
step-world_of w (send p output) = rw (sent-more w.log p (send_of w.compressor p.list output.list))
step-world_of w (request q) = refl
step-world_of w (arrival i output) = rw (sent_at-world_of w i)
step-world_of w other = refl

after-world_of : (xs : List Call) (w : Ends·World) → after (world_of w) xs ≡ world_of (calls.final ends w (ends_calls xs))
after-world_of [] w = refl
after-world_of (x ∷ xs) w = ap (λ (v : World). after v xs) (step-world_of w x) ∙ after-world_of xs (stepped w x)

-- what holds of the world after a call there holds of the world after it here, and back
module _ (P : World → Type 0) (w : Ends·World) (x : Call) where
  to-ends : P (step (world_of w) x) → P (world_of (stepped w x))
  to-ends = subst P (step-world_of w x)

  from-ends : P (world_of (stepped w x)) → P (step (world_of w) x)
  from-ends = subst P (sym (step-world_of w x))

---- The premises

lawful-ordered : (xs : List Call) (w : Ends·World) (m : ℕ) → Ordered (world_of w) m xs → Lawful ends w m (ends_calls xs)
lawful-ordered [] w m o = tt
lawful-ordered (send p output ∷ xs) w m o =
    lawful-ordered xs (stepped w (send p output)) m (to-ends (λ v. Ordered v m xs) w (send p output) o)
lawful-ordered (request q ∷ xs) w m o = lawful-ordered xs (stepped w (request q)) m o
lawful-ordered (arrival i output ∷ xs) w m o = (
  o.0,
  given o.1,
  lawful-ordered xs (stepped w (arrival i output)) (suc i) (to-ends (λ v. Ordered v (suc i) xs) w (arrival i output) o.2),
)
  where
    given : i < length (map sent_of w.log) → i < length w.log
    given h = rw (length-map w.log sent_of) at h
lawful-ordered (other ∷ xs) w m o = lawful-ordered xs w m o

lost-call_of : (xs : List Call) (i size : ℕ) → lost xs i size ≡ lost_in ends (arrivals ends (ends_calls xs)) i size
lost-call_of [] i size = refl
lost-call_of (send p output ∷ xs) i size = lost-call_of xs i size
lost-call_of (request q ∷ xs) i size = lost-call_of xs i size
lost-call_of (arrival k output ∷ xs) i size = rw (lost-call_of xs i size)
lost-call_of (other ∷ xs) i size = lost-call_of xs i size

losses-marks : (c : ℕ) (xs : List Call) (i : ℕ) (es : List (calls.Sent Bytes Frame))
    → losses c xs i (map sent_of es) ≡ marks ends c (arrivals ends (ends_calls xs)) i es
losses-marks c xs i [] = refl
losses-marks c xs i (e ∷ es) =
    rw (is_on-same (context_of (sent_of e)) c, lost-call_of xs i (length e.orig.list), losses-marks c xs (suc i) es)

-- what is asked of packets right after a gap
module _ (all : List Call) (log : List (calls.Sent Bytes Frame)) where
  sent_in-map : (i : ℕ) → sent_in (map sent_of log) i ≡ sent_of (get_or log i ends.nothing)
  sent_in-map i = get_or-map sent_of log i ends.nothing

  losses-front : (c i : ℕ) → losses c all 0 (take i (map sent_of log))
      ≡ marks ends c (arrivals ends (ends_calls all)) 0 (take i log)
  losses-front c i = ap (λ (es : List Sent). losses c all 0 es) (map-take sent_of i log) ∙ losses-marks c all 0 (take i log)

  fit_at : (i : ℕ) → Fits all (map sent_of log) i → (c : ℕ) → FitAt ends c (arrivals ends (ends_calls all)) log i
  fit_at i f c on gap =
      subst (λ (e : Sent). checksum_fits e.packet ≡ true) (sent_in-map i)
      (f c
      (ap (λ (e : Sent). is_on (context_of e) c) (sent_in-map i)
      ∙ is_on-same (frame_context (get_or log i ends.nothing).link) c ∙ on)
      (subst Gap (sym (losses-front c i)) gap))

  fit-in : (xs : List Call) → AllFit all (map sent_of log) xs → (c : ℕ)
      → FitIn ends c (arrivals ends (ends_calls all)) log (arrivals ends (ends_calls xs))
  fit-in [] f c = tt
  fit-in (send p output ∷ xs) f c = fit-in xs f c
  fit-in (request q ∷ xs) f c = fit-in xs f c
  fit-in (arrival i output ∷ xs) f c = (fit_at i f.0 c, fit-in xs f.1 c)
  fit-in (other ∷ xs) f c = fit-in xs f c

---- The claim

module _ (all : List Call) where
  exact-arrival : (w : Ends·World) (i : ℕ) (output : Bytes)
      → (lost_in ends (arrivals ends (ends_calls all)) i (length (calls.packet_at ends w i).list) ≡ false
      → Rebuilt (calls.packet_at ends w i).list (calls.arrived ends w i output))
      → lost all i (length (sent_at (world_of w) i).packet) ≡ false
      → Rebuilt (sent_at (world_of w) i).packet (answer (world_of w) i output)
  exact-arrival w i output right = rw (sent_at-world_of w i, lost-call_of all i (length (calls.packet_at ends w i).list)) right

  exact-calls : (xs : List Call) (w : Ends·World) → ExactIn ends (arrivals ends (ends_calls all)) w (ends_calls xs)
      → Exact all (world_of w) xs
  exact-calls [] w x = tt
  exact-calls (send p output ∷ xs) w x =
      from-ends (λ v. Exact all v xs) w (send p output) (exact-calls xs (stepped w (send p output)) x)
  exact-calls (request q ∷ xs) w x = exact-calls xs (stepped w (request q)) x
  exact-calls (arrival i output ∷ xs) w x = (
    exact-arrival w i output x.0,
    from-ends (λ v. Exact all v xs) w (arrival i output) (exact-calls xs (stepped w (arrival i output)) x.1),
  )
  exact-calls (other ∷ xs) w x = exact-calls xs w x

---- From a world in which nothing was sent yet

module _ (s : Settings) (v : World) (xs : List Call) (p : Premises s v xs) where
  abbrev start : Ends·World
  start = calls.fresh ends v.compressor v.decompressor

  start_is : v ≡ world_of start
  start_is = λ i. record { compressor = v.compressor; decompressor = v.decompressor; sent = p.nothing i }

  sent_is : (after v xs).sent ≡ map sent_of (calls.final ends start (ends_calls xs)).log
  sent_is = ap (λ (u : World). (after u xs).sent) start_is ∙ ap (λ (u : World). u.sent) (after-world_of xs start)

  lawful : Lawful ends start 0 (ends_calls xs)
  lawful = lawful-ordered xs start 0 (subst (λ (u : World). Ordered u 0 xs) start_is p.ordered)

  bounded : (c : ℕ)
      → calls.Bounded s.repeats
      (marks ends c (arrivals ends (ends_calls xs)) 0 (calls.final ends start (ends_calls xs)).log)
  bounded c = rw (sent_is, losses-marks c xs 0 (calls.final ends start (ends_calls xs)).log) at (p.bounded c)

  fitting : (c : ℕ)
      → FitIn ends c (arrivals ends (ends_calls xs)) (calls.final ends start (ends_calls xs)).log (arrivals ends (ends_calls xs))
  fitting =
      fit-in xs (calls.final ends start (ends_calls xs)).log xs (subst (λ (es : List Sent). AllFit xs es xs) sent_is p.fits)

  -- the list as one of Robust's meets the premises there
  pub premises-unsaved : robust.Premises s v.compressor v.decompressor (map as_robust xs)
  premises-unsaved = record {
    opened = p.opened;
    allowed =
        allowed-from-ends s.repeats v.compressor v.decompressor (map as_robust xs)
        (earlier-allowed ends s.repeats v.compressor v.decompressor (ends_calls xs) lawful bounded fitting);
  }

  exact-unsaved : Earlier ends s.repeats v.compressor v.decompressor → Exact xs v xs
  exact-unsaved claim =
      subst (λ (u : World). Exact xs u xs) (sym start_is) (exact-calls xs xs start (claim (ends_calls xs) lawful bounded fitting))

pub unsaved : Unsaved
unsaved s w xs p =
    exact-unsaved s w xs p
    (earlier ends s.repeats w.compressor w.decompressor
    (opened-faithful s w.compressor w.decompressor p.opened))
