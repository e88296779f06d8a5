-- Iarwennol. Laws of the compressor's table: what it takes to stay sound, and what an opening gives. Assume nothing.
-- Used by the laws of send and request, and by the theorem on lists of calls (crtp).
use Rattle.std.specs.Prelude.{ℕ, ◌<◌, ◌≡◌, refl, Bool, true, false, cond, ◌&&◌, drop, replicate}
use Rattle.std.proofs.Math.Bool.{and-eq-true_iff}
use Rattle.std.proofs.Common.{arith, drop-set-lt}
use Rattle.codes.specs.Numbers.{unsound}
use Rattle.settings.specs.Settings as settings
use Rattle.settings.specs.declared.Settings.{Settings}
use Rattle.context.specs.All.{all}
use Rattle.context.proofs.AllLaws.{all_set, all_replicate, all-dropped}
use Rattle.context.specs.Sound.{sound_compressor, empty_compressor}
use Rattle.context.proofs.CompressorSound.{sound_empty}
use Rattle.context.specs.declared.compressor.CompressorContext.{CompressorContext}
use Rattle.compressor.specs.declared.table.Table.{Table}
use Rattle.compressor.specs.Table.{with_context, is_empty, sound_of, empty_table, unopened, open_of, open_by, Sound}

---- sound_of

module _ (t : Table) where
  abbrev first_two : Bool
  first_two = settings.sound t.settings && all (sound_compressor t.settings.repeats) t.contexts

  pub sound_of-true : sound_of t ≡ true → Sound t
  unfolding sound_of
  sound_of-true e =
      let p = (and-eq-true_iff first_two (all is_empty (drop t.settings.contexts t.contexts))).0 e in
      let q = (and-eq-true_iff (settings.sound t.settings) _).0 p.0 in
      record { settings = q.0; contexts = q.1; rest = p.1 }

  pub sound_of-made : Sound t → sound_of t ≡ true
  unfolding sound_of
  sound_of-made s = rw (s.settings, s.contexts, s.rest)

---- with_context

-- a sound table stays sound when a context that the settings give is replaced by a sound one
pub sound-with_context : (t : Table) (i : ℕ) (c : CompressorContext) → Sound t → i < t.settings.contexts
    → sound_compressor t.settings.repeats c ≡ true → Sound (with_context t i c)
sound-with_context t i c s h e = record {
  settings = s.settings;
  contexts = all_set (sound_compressor t.settings.repeats) t.contexts i c e s.contexts;
  rest = rw (drop-set-lt t.settings.contexts t.contexts i c h) s.rest;
}

---- empty_table, open_of

pub sound-empty_table : (s : Settings) → settings.sound s ≡ true → Sound (empty_table s)
unfolding empty_compressor
sound-empty_table s e = record {
  settings = e;
  contexts = all_replicate (sound_compressor s.repeats) 64 empty_compressor (sound_empty s.repeats);
  rest = all-dropped is_empty s.contexts (replicate 64 empty_compressor) (all_replicate is_empty 64 empty_compressor refl);
}

-- an opening that is accepted had settings in range, and leaves a table with nothing in it
module _ (t : Table) (n k : ℕ) where
  abbrev chosen : Settings
  chosen = record { repeats = n; contexts = k }

  open_by-accepted : (b : Bool) → (open_by t (cond b (settings.accepted n k) (settings.refused unsound))).number ≡ 0
      → (b ≡ true) × ((open_by t (cond b (settings.accepted n k) (settings.refused unsound))).table ≡ empty_table chosen)
  open_by-accepted true e = (refl, refl)
  open_by-accepted false e = absurd (omega arith)

  pub open_of-accepted : (open_of t n k).number ≡ 0 → (settings.in_range n k ≡ true) × ((open_of t n k).table ≡ empty_table chosen)
  unfolding open_of settings.open_of
  open_of-accepted e = open_by-accepted (settings.in_range n k) e

  pub sound-open_of : (open_of t n k).number ≡ 0 → Sound (open_of t n k).table
  sound-open_of e = let p = open_of-accepted e in rw p.1 (sound-empty_table chosen p.0)

pub unsound-unopened : sound_of unopened ≡ false
unfolding sound_of
unsound-unopened = refl
