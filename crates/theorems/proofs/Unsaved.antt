-- Iarwennol. The theorem over lists of calls without saves and loads, and what its words say, as it was asked for.
-- Proved by that of `crtp`.
use Prim.Native.Nat.{ℕ}
use mathlib.Core.Path.{◌≡◌}
use mathlib.Core.Bool.{true, false}
use mathlib.Core.List.{List, [], ◌∷◌, map}
use lib.ListN.{length, take}
use Rattle.settings.specs.declared.Settings.{Settings}
use Rattle.decompressor.specs.Receive.{receive_of}
use Rattle.crtp.specs.Robust as robust
use Rattle.crtp.specs.Robust.{Bytes, Sent, context_of, is_on, Bounded, Gap, checksum_fits, Opened}
use Rattle.crtp.specs.Unsaved.{Call, arrival, World, sent_in, sent_at, after, Ordered, lost, losses, AllFit, Premises, Exact}
use Rattle.crtp.proofs.Unsaved.{as_robust, unsaved, premises-unsaved}

-- lists without saves and loads, and nothing more is a premise
unsaved-asked : (s : Settings) (w : World) (xs : List Call) → Opened s w.compressor w.decompressor → w.sent ≡ []
    → Ordered w 0 xs → ((c : ℕ) → Bounded s.repeats (losses c xs 0 (after w xs).sent)) → AllFit xs (after w xs).sent xs
    → Exact xs w xs
unsaved-asked s w xs o n r b f = unsaved s w xs (record { opened = o; nothing = n; ordered = r; bounded = b; fits = f })

-- of the arrivals alone it is asked that their checksums fit, right after a gap
fits-asked : (all xs : List Call) (es : List Sent) (i : ℕ) (output : Bytes)
    → ((c : ℕ) → is_on (context_of (sent_in es i)) c ≡ true → Gap (losses c all 0 (take i es))
    → checksum_fits (sent_in es i).packet ≡ true) → AllFit all es xs → AllFit all es (arrival i output ∷ xs)
fits-asked all xs es i output f a = (f, a)

-- they are lists of the other kind too, which meet the premises there
robust-asked : (s : Settings) (w : World) (xs : List Call) → Premises s w xs
    → robust.Premises s w.compressor w.decompressor (map as_robust xs)
robust-asked = premises-unsaved

-- what is claimed of an arrival that is not lost: accepted, and the bytes of the packet that went in
module _ (all xs : List Call) (w : World) (i : ℕ) (output : Bytes) (e : Exact all w (arrival i output ∷ xs))
    (kept : lost all i (length (sent_at w i).packet) ≡ false) where
  accepted-asked : (receive_of w.decompressor (sent_at w i).kind (sent_at w i).bytes output.list).number ≡ 0
  accepted-asked = (e.0 kept).accepted

  exact-asked :
      take (length (sent_at w i).packet) (receive_of w.decompressor (sent_at w i).kind (sent_at w i).bytes output.list).output
      ≡ (sent_at w i).packet
  exact-asked = (e.0 kept).exact
