-- Iarwennol. The ways of a send, each as the answer that it gives. Assume nothing.
-- Used by the proof of send.
use Prim.Native.Nat.{ℕ, ◌≤◌}
use mathlib.Core.Path.{◌≡◌}
use mathlib.Core.Bool.{true, false}
use mathlib.Core.List.{List}
use Rattle.std.specs.Prelude.{Some, None}
use lib.ListN.{length}
use Rattle.headers.specs.Header.{header_of}
use Rattle.headers.specs.Compressible.{compressible}
use Rattle.compressor.specs.declared.table.Table.{Table}
use Rattle.compressor.specs.Answer.{refused}
use Rattle.compressor.specs.Table.{sound_of}
use Rattle.compressor.specs.Lookup.{place_of}
use Rattle.compressor.specs.Send.{send_at, send_plain, send_of}
use Rattle.settings.specs.Settings.{length_allowed}
use Rattle.settings.specs.SettingsLaws.{length_allowed-true}
use Rattle.compressor.proofs.SendLaws.{On, place_of-found}
use Rattle.compressor.specs.CanSend.{send_with}

module _ (t : Table) (p output : List ℕ) where
  pub way-unsound : sound_of t ≡ false → refused t 1 output ≡ send_of t p output
  unfolding send_of
  way-unsound s = rw s

  module _ (s : sound_of t ≡ true) where
    pub way-length : length_allowed (length p) ≡ false → refused t 2 output ≡ send_of t p output
    unfolding send_of
    way-length l = rw (s, l)

    module _ (l : length_allowed (length p) ≡ true) where
      pub way-plain : compressible p ≡ false → send_plain t p output ≡ send_of t p output
      unfolding send_of
      way-plain e = rw (s, l, e)

      module _ (e : compressible p ≡ true) where
        pub way-nowhere : place_of t (header_of p).flow ≡ None → send_plain t p output ≡ send_of t p output
        unfolding send_of
        way-nowhere q = rw (s, l, e, q)

        pub way_at : (i : ℕ) → place_of t (header_of p).flow ≡ Some i → send_with t i p output (header_of p) ≡ send_of t p output
        unfolding send_of send_at
        way_at i q = rw (s, l, e, q)

        most : length p ≤ 1500
        most = (length_allowed-true (length p) l).1

        pub way_on : (i : ℕ) → place_of t (header_of p).flow ≡ Some i → On t p i
        way_on i q = record { sound = s; compressible = e; most = most; place = place_of-found t (header_of p).flow i q }
