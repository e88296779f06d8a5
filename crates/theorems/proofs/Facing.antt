-- Iarwennol. The theorems of an endpoint's totals and of two endpoints that face each other, as they were asked for.
-- Proved by those of `endpoint`.
use Prim.Native.Nat.{ℕ, ◌+◌, ◌≤◌}
use mathlib.Core.Path.{◌≡◌}
use mathlib.Core.Bool.{Bool, false, cond}
use mathlib.Core.List.{List, [], ◌∷◌, map}
use lib.Dec.{leb}
use lib.ListN.{length, take}
use Rattle.settings.specs.declared.Settings.{Settings}
use Rattle.crtp.specs.Robust.{Bytes, Bounded}
use Rattle.crtp.specs.Unsaved.{Ordered, lost, losses, AllFit}
use Rattle.endpoint.specs.declared.totals.Totals.{Totals}
use Rattle.endpoint.specs.declared.answer.Endpoint.{Endpoint}
use Rattle.endpoint.specs.Totals.{Event, is_sent, is_rebuilt, is_refused}
use Rattle.endpoint.specs.Calls.{open_of, radio_of}
use Rattle.endpoint.specs.History as one
use Rattle.endpoint.specs.History.{history, count, is_send}
use Rattle.endpoint.specs.Facing.{Side, across, World, Call, arrival, same, sent_at, after, seen, view, AllProper, Opened, Premises}
use Rattle.endpoint.specs.Facing.{Exact}
use Rattle.endpoint.proofs.History.{tallies}
use Rattle.endpoint.proofs.Facing.{facing}

-- each total is the smaller of 4,294,967,295 and its count, and the four are together the accepted sends
module _ (e : Endpoint) (n k : ℕ) (accepted : (open_of e n k).number ≡ 0) (xs : List one.Call) where
  abbrev totals : Totals
  totals = (one.after (open_of e n k).endpoint xs).totals

  abbrev counted : (Event → Bool) → ℕ
  counted is = count is (history (open_of e n k).endpoint xs)

  abbrev smaller : ℕ → ℕ
  smaller m = cond (leb m 4294967295) m 4294967295

  plain-asked : totals.plain ≡ smaller (counted (is_sent 0))
  plain-asked = (tallies e n k accepted xs).each.plain

  full-asked : totals.full ≡ smaller (counted (is_sent 1))
  full-asked = (tallies e n k accepted xs).each.full

  udp-asked : totals.udp ≡ smaller (counted (is_sent 2))
  udp-asked = (tallies e n k accepted xs).each.udp

  rtp-asked : totals.rtp ≡ smaller (counted (is_sent 3))
  rtp-asked = (tallies e n k accepted xs).each.rtp

  rebuilt-asked : totals.rebuilt ≡ smaller (counted is_rebuilt)
  rebuilt-asked = (tallies e n k accepted xs).each.rebuilt

  refused-asked : totals.refused ≡ smaller (counted is_refused)
  refused-asked = (tallies e n k accepted xs).each.refused

  four-asked : counted (is_sent 0) ≤ 4294967295 → counted (is_sent 1) ≤ 4294967295 → counted (is_sent 2) ≤ 4294967295
      → counted (is_sent 3) ≤ 4294967295 → totals.plain + totals.full + totals.udp + totals.rtp ≡ counted is_send
  four-asked a b c d = (tallies e n k accepted xs).together (record { plain = a; full = b; udp = c; rtp = d })

-- each direction by itself, and nothing more is a premise
facing-asked : (s : Settings) (d : Side) (w : World) (xs : List Call) → Opened s w → AllProper d xs
    → Ordered (view d w) 0 (map (seen d) xs)
    → ((c : ℕ) → Bounded s.repeats (losses c (map (seen d) xs) 0 (after w xs d).sent))
    → AllFit (map (seen d) xs) (after w xs d).sent (map (seen d) xs) → Exact d xs w xs
facing-asked s d w xs o p r b f = facing s d w xs (record { opened = o; proper = p; ordered = r; bounded = b; fits = f })

opened-asked : (s : Settings) (w : World) (earlier : Side → Endpoint)
    → ((x : Side) → (open_of (earlier x) s.repeats s.contexts).number ≡ 0)
    → ((x : Side) → (w x).endpoint ≡ (open_of (earlier x) s.repeats s.contexts).endpoint)
    → ((x : Side) → (w x).sent ≡ []) → Opened s w
opened-asked s w earlier a o n = record { earlier = earlier; accepted = a; opened = o; nothing = n }

-- what is claimed of an arrival that is not lost, across from d: the endpoint's own call accepts it and gives the packet back
module _ (d s : Side) (all xs : List Call) (w : World) (i : ℕ) (output : Bytes) (e : Exact d all w (arrival s i output ∷ xs))
    (other : same d s ≡ false) (kept : lost (map (seen d) all) i (length (sent_at w d i).packet) ≡ false) where
  accepted-asked :
      (radio_of (w s).endpoint (sent_at w (across s) i).kind (sent_at w (across s) i).bytes output.list).number ≡ 0
  accepted-asked = (e.0 other kept).accepted

  exact-asked :
      take (length (sent_at w d i).packet)
      (radio_of (w s).endpoint (sent_at w (across s) i).kind (sent_at w (across s) i).bytes output.list).output
      ≡ (sent_at w d i).packet
  exact-asked = (e.0 other kept).exact
