-- Iarwennol. Laws of the decompressor's table: what it takes to stay sound, and what an opening gives. Assume nothing.
-- Used by the laws of an arrival (ReceiveSound), and by the theorem on lists of calls (crtp).
use Rattle.std.specs.Prelude.{ℕ, ◌≤◌, ◌<◌, ◌≡◌, refl, Bool, true, false, cond, ◌&&◌, drop, replicate}
use Rattle.std.proofs.Common.{sym, subst, arith, drop-set-lt}
use Rattle.std.proofs.Math.Bool.{and-eq-true_iff}
use Rattle.std.proofs.lemmas.List.{get_or-replicate}
use Rattle.codes.specs.Numbers.{unsound}
use Rattle.settings.specs.Settings as settings
use Rattle.settings.specs.SettingsLaws.{range-repeats, range-most}
use Rattle.settings.specs.declared.Settings.{Settings}
use Rattle.context.specs.All.{all}
use Rattle.context.proofs.AllLaws.{all_get_d, all_set, all_replicate, all-dropped}
use Rattle.context.specs.Sound.{sound_decompressor, sound_decompressor_by, unfilled_sound, zero_list, empty_decompressor}
use Rattle.context.specs.Ranges.{ContextInRange}
use Rattle.context.proofs.DecompressorSound.{sound_none}
use Rattle.context.proofs.DecompressorRange.{range_none}
use Rattle.context.specs.declared.decompressor.DecompressorContext.{DecompressorContext}
use Rattle.decompressor.specs.declared.table.Table.{Table}
use Rattle.decompressor.specs.Table.{no_context, context_at, with_context, is_empty, sound_of, Sound}
use Rattle.decompressor.specs.Table.{empty_table, unopened, open_of, open_by}

---- sound_of

module _ (t : Table) where
  abbrev first_two : Bool
  first_two = settings.sound t.settings && all sound_decompressor t.contexts

  pub sound_of-true : sound_of t ≡ true → Sound t
  unfolding sound_of
  sound_of-true e =
      let p = (and-eq-true_iff first_two (all is_empty (drop t.settings.contexts t.contexts))).0 e in
      let q = (and-eq-true_iff (settings.sound t.settings) (all sound_decompressor t.contexts)).0 p.0 in
      record { settings = q.0; contexts = q.1; rest = p.1 }

  pub sound_of-made : Sound t → sound_of t ≡ true
  unfolding sound_of
  sound_of-made s = rw (s.settings, s.contexts, s.rest)

  pub sound-repeats : Sound t → t.settings.repeats ≤ 14
  sound-repeats s = range-repeats t.settings.repeats t.settings.contexts s.settings

  pub sound-most : Sound t → t.settings.contexts ≤ 64
  sound-most s = range-most t.settings.repeats t.settings.contexts s.settings

-- every place of a sound table holds a sound context
pub sound-no_context : sound_decompressor no_context ≡ true
unfolding sound_decompressor sound_decompressor_by unfilled_sound zero_list
sound-no_context = refl

pub sound-context_at : (t : Table) (i : ℕ) → Sound t → sound_decompressor (context_at t i) ≡ true
sound-context_at t i s = all_get_d sound_decompressor t.contexts i no_context sound-no_context s.contexts

---- with_context

-- a sound table stays sound when a context that the settings give is replaced by a sound one
pub sound-with_context : (t : Table) (i : ℕ) (c : DecompressorContext) → Sound t → i < t.settings.contexts
    → sound_decompressor c ≡ true → Sound (with_context t i c)
sound-with_context t i c s h e = record {
  settings = s.settings;
  contexts = all_set sound_decompressor t.contexts i c e s.contexts;
  rest = rw (drop-set-lt t.settings.contexts t.contexts i c h) s.rest;
}

---- empty_table, open_of

pub sound-empty_table : (s : Settings) → settings.sound s ≡ true → Sound (empty_table s)
unfolding empty_decompressor
sound-empty_table s e = record {
  settings = e;
  contexts = all_replicate sound_decompressor 64 empty_decompressor sound_none;
  rest = all-dropped is_empty s.contexts (replicate 64 empty_decompressor) (all_replicate is_empty 64 empty_decompressor refl);
}

-- every place holds a context in range; past the end stands no_context, whose list has no words
pub range-empty_table : (s : Settings) (i : ℕ) → i < 64 → ContextInRange (context_at (empty_table s) i)
range-empty_table s i h = rw (get_or-replicate 64 i empty_decompressor no_context h) range_none

-- an opening that is accepted had settings in range, and leaves a table with nothing in it
module _ (t : Table) (n k : ℕ) where
  abbrev chosen : Settings
  chosen = record { repeats = n; contexts = k }

  open_by-accepted : (b : Bool) → (open_by t (cond b (settings.accepted n k) (settings.refused unsound))).number ≡ 0
      → (b ≡ true) × ((open_by t (cond b (settings.accepted n k) (settings.refused unsound))).table ≡ empty_table chosen)
  open_by-accepted true e = (refl, refl)
  open_by-accepted false e = absurd (omega arith)

  pub open_of-accepted : (open_of t n k).number ≡ 0 → (settings.in_range n k ≡ true) × ((open_of t n k).table ≡ empty_table chosen)
  unfolding open_of settings.open_of
  open_of-accepted e = open_by-accepted (settings.in_range n k) e

  pub sound-open_of : (open_of t n k).number ≡ 0 → Sound (open_of t n k).table
  sound-open_of e =
      let p = open_of-accepted e in
      subst Sound (sym p.1) (sound-empty_table chosen p.0)

pub unsound-unopened : sound_of unopened ≡ false
unfolding sound_of
unsound-unopened = refl
