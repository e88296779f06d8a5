-- Iarwennol. The theorems over lists of calls with saves and loads, and what their words say, as they were asked for.
-- Proved by those of `crtp`.
use Prim.Native.Nat.{ℕ, suc, ◌≤◌, ◌<◌}
use mathlib.Core.Path.{◌≡◌, refl}
use mathlib.Core.Bool.{Bool, true, false, cond, ◌||◌}
use mathlib.Core.List.{List, [], ◌∷◌, ◌++◌}
use lib.Dec.{eqb, ltb}
use lib.ListN.{length, take}
use Rattle.codes.specs.Reading.{word_at}
use Rattle.headers.specs.UdpChecksum.{udp_right}
use Rattle.settings.specs.declared.Settings.{Settings}
use Rattle.compressor.specs.declared.table.Table as compressor
use Rattle.decompressor.specs.declared.table.Table as decompressor
use Rattle.decompressor.specs.Receive.{receive_of}
use Rattle.saves.specs.Saves.{save_of, load_of}
use Rattle.calls.specs.Literal.{Literal}
use Rattle.crtp.specs.Robust.{Bytes, Call, arrival, save, load, World, saved_by, sent_at, saved_at, step, Always, has, lost, losses}
use Rattle.crtp.specs.Robust.{context_of, is_on, Bounded, Gap, checksum_fits, Proper, Allowed, Exact, Opened, fresh, Premises}
use Rattle.crtp.specs.Alike.{asked, Arrival, answer_of, Same}
use Rattle.crtp.proofs.Lists.{ends}
use Rattle.crtp.proofs.Robust.{robust, literally}
use Rattle.crtp.proofs.Alike.{alike}

robust-asked : (s : Settings) (t : compressor.Table) (d : decompressor.Table) (xs : List Call) → Premises s t d xs
    → Always Exact (fresh t d) xs
robust-asked = robust

alike-asked : (s : Settings) (t u : compressor.Table) (d e : decompressor.Table) (xs ys : List Call) → Premises s t d xs
    → Premises s u e ys → asked xs ≡ asked ys → (i : ℕ) (a : Arrival xs i) (b : Arrival ys i) → (answer_of t d xs i a).number ≡ 0
    → (answer_of u e ys i b).number ≡ 0 → Same (answer_of t d xs i a) (answer_of u e ys i b)
alike-asked = alike

-- what a load undid may be taken for lost for ever
literally-asked : (s : Settings) (t : compressor.Table) (d : decompressor.Table) → Opened s t d → Literal ends s.repeats t d
literally-asked = literally

-- nothing more is a premise
premises-asked : (s : Settings) (t : compressor.Table) (d : decompressor.Table) (xs : List Call) → Opened s t d
    → Always (Allowed s.repeats) (fresh t d) xs → Premises s t d xs
premises-asked s t d xs o a = record { opened = o; allowed = a }

module _ (n : ℕ) (w : World) (i : ℕ) where
  proper-asked : i < length w.sent → w.next ≤ i → ((c : ℕ) → Bounded n (losses c w.line 0 (take i w.sent)))
      → ((c : ℕ) → is_on (context_of (sent_at w i)) c ≡ true → Gap (losses c w.line 0 (take i w.sent))
      → checksum_fits (sent_at w i).packet ≡ true) → Proper n w i
  proper-asked g o b f = record { given = g; order = o; bounded = b; fits = f }

  save-asked : (output : Bytes) → Allowed n w (save output)
  save-asked output = tt

  load-asked : (handed : decompressor.Table) → i < length w.saved → Allowed n w (load i handed)
  load-asked handed h = h

-- a gap is a loss of the last packet before; a checksum fits if it is blank or right
gap-asked : (marks : List Bool) → Gap marks → (a : List Bool) × (marks ≡ a ++ (true ∷ []))
gap-asked marks g = g

fits-asked : (p : List ℕ) → checksum_fits p ≡ (eqb (word_at p 26) 0 || udp_right p)
fits-asked p = refl

-- lost is what is not in the line; an arrival with room lengthens it, a save notes it, a load puts it back
module _ (w : World) (i : ℕ) where
  kept-asked : (line : List ℕ) → has line i ≡ true → lost line i ≡ false
  kept-asked line h = rw h

  line-asked : (output : Bytes)
      → (step w (arrival i output)).line ≡ cond (ltb (length output.list) (length (sent_at w i).packet)) w.line (i ∷ w.line)
  line-asked output = refl

  noted-asked : (output : Bytes)
      → (step w (save output)).saved ≡ w.saved ++ saved_by w.line (save_of w.decompressor output.list)
  noted-asked output = refl

  loaded-asked : (handed : decompressor.Table) → (step w (load i handed)).decompressor ≡ (load_of handed (saved_at w i).bytes).table
  loaded-asked handed = refl

  back-asked : (handed : decompressor.Table) → (step w (load i handed)).line ≡ (saved_at w i).line
  back-asked handed = refl

-- what is claimed of an arrival with room: accepted, and the bytes of the packet that went in
module _ (w : World) (i : ℕ) (output : Bytes) (e : Exact w (arrival i output))
    (room : length (sent_at w i).packet ≤ length output.list) where
  accepted-asked : (receive_of w.decompressor (sent_at w i).kind (sent_at w i).bytes output.list).number ≡ 0
  accepted-asked = (e room).accepted

  exact-asked :
      take (length (sent_at w i).packet) (receive_of w.decompressor (sent_at w i).kind (sent_at w i).bytes output.list).output
      ≡ (sent_at w i).packet
  exact-asked = (e room).exact
