-- Iarwennol. A packet that goes out on a context can be written. Assumes nothing.
-- Used by the proof of send, and by its laws.
use Rattle.std.specs.Prelude.{ℕ, ◌≤◌, ◌<◌, ◌≡◌, true, List, length}
use Rattle.std.proofs.Common.{arith}
use Rattle.codes.specs.Bytes.{AllBytes}
use Rattle.headers.specs.Header.{header_of}
use Rattle.headers.proofs.HeaderLaws.{header_of-range}
use Rattle.headers.proofs.CompressibleLaws.{compressible-size}
use Rattle.settings.specs.SettingsLaws.{range-repeats, range-most}
use Rattle.context.specs.Sound.{sound_compressor}
use Rattle.compressor.specs.declared.table.Table.{Table}
use Rattle.compressor.specs.Table.{no_context, context_at}
use Rattle.context.proofs.AllLaws.{all-at}
use Rattle.compressor.specs.Table.{Sound}
use Rattle.compressor.proofs.TableLaws.{sound_of-true}
use Rattle.compressor.proofs.SendLaws.{On}
use Rattle.compressor.specs.CanSend.{CanSend}
use Rattle.outgoing.specs.StepLaws.{writable-step_on}

---- Sound

module _ (t : Table) (s : Sound t) where
  pub sound-repeats : t.settings.repeats ≤ 14
  sound-repeats = range-repeats t.settings.repeats t.settings.contexts s.settings

  pub sound-most : t.settings.contexts ≤ 64
  sound-most = range-most t.settings.repeats t.settings.contexts s.settings

  pub sound-context_at : length t.contexts ≡ 64 → (i : ℕ) → i < 64 → sound_compressor t.settings.repeats (context_at t i) ≡ true
  sound-context_at n i h = all-at (sound_compressor t.settings.repeats) t.contexts i no_context (omega (arith, n)) s.contexts

---- CanSend

module _ (t : Table) (p : List ℕ) (i : ℕ) (n : length t.contexts ≡ 64) (bytes : AllBytes p) (o : On t p i) where
  among : i < 64
  among = omega (arith, o.place.among, sound-most t (sound_of-true t o.sound))

  pub CanSend-on : CanSend t i p (header_of p)
  CanSend-on =
      let s = sound_of-true t o.sound in
      record {
        repeats = sound-repeats t s;
        place = among;
        whole = compressible-size p o.compressible;
        most = o.most;
        writable = writable-step_on t.settings.repeats (header_of p) (header_of-range bytes) (context_at t i)
            (sound-context_at t s n i among);
      }
