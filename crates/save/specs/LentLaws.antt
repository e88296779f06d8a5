-- Iarwennol. A save of a table that is lent: its records one context at a time, the answer by case. Assume nothing.
-- Used by the proofs of save.
use Rattle.std.specs.Prelude.{ℕ, ◌+◌, ◌≤◌, ◌<◌, ◌≡◌, true, List, ◌++◌, length, get_or, take}
use Rattle.std.proofs.Common.{sym, ap, subst, ◌∙◌, arith, length-append}
use Rattle.codes.specs.Bytes.{big_endian}
use Rattle.packet.specs.declared.refusal.Refusal.TheVariants.{NoRoom}
use Rattle.settings.specs.declared.Settings.{Settings}
use Rattle.octets.specs.Put.{Wrote}
use Rattle.context.specs.Sound.{sound_decompressor}
use Rattle.context.specs.declared.decompressor.DecompressorContext.{DecompressorContext}
use Rattle.planes.specs.Planes.{Lent}
use Rattle.std.specs.Prelude.{Ok, Err}
use Rattle.decompressor.specs.Answer.{said}
use Rattle.decompressor.specs.Table.{no_context, context_at, sound_of}
use Rattle.decompressor.proofs.TableLaws.{sound_of-true, sound-most, sound-context_at}
use Rattle.decompressor_table.specs.Layout.{context_in, table_of}
use Rattle.decompressor_table.specs.LayoutLaws.{Sizes, sound-fits, fits-sizes, table_of-at, length-table_of}
use Rattle.decompressor_table.specs.LayoutLaws.{table_of-repeats, table_of-contexts}
use Rattle.saves.specs.Saves.{front_bytes, record_bytes, records_bytes, save_of}
use Rattle.saves.proofs.SizeLaws.{records_bytes-more, records_bytes-few}
use Rattle.save.specs.SaveLaws.{save-no_room, save-accepted}

module _ (l : Lent) (s : sound_of (table_of l) ≡ true) (i : ℕ) (h : i < 64) (c : DecompressorContext)
    (e : c ≡ context_in l.words l.shorts l.bytes i) where
  here : context_at (table_of l) i ≡ c
  here = table_of-at l i (sound-fits l s) h ∙ sym e

  pub sound-here : sound_decompressor c ≡ true
  sound-here = ap sound_decompressor (sym here) ∙ sound-context_at (table_of l) i (sound_of-true (table_of l) s)

  -- one record more
  pub records-here : records_bytes (take (i + 1) (table_of l).contexts)
      ≡ records_bytes (take i (table_of l).contexts) ++ record_bytes c
  records-here = records_bytes-more (table_of l).contexts i no_context (omega (arith, length-table_of l (sound-fits l s), h))
      ∙ ap (λ (x : DecompressorContext). records_bytes (take i (table_of l).contexts) ++ record_bytes x) here

  pub length-here : length (records_bytes (take (i + 1) (table_of l).contexts))
      ≡ length (records_bytes (take i (table_of l).contexts)) + length (record_bytes c)
  length-here = ap (length {A = ℕ}) records-here ∙ length-append (records_bytes (take i (table_of l).contexts)) (record_bytes c)

  -- no more than all
  pub room-here : (n : ℕ) → i < n → length (records_bytes (take i (table_of l).contexts)) + length (record_bytes c)
      ≤ length (records_bytes (take n (table_of l).contexts))
  room-here n g = omega (arith, length-here, records_bytes-few (table_of l).contexts (i + 1) n (omega arith))

---- the answer; n: how many bytes the records have

abbrev pub settings_in : Lent → Settings
settings_in l = record { repeats = get_or l.bytes 832 0; contexts = get_or l.bytes 833 0 }

module _ (l : Lent) (s : sound_of (table_of l) ≡ true) where
  pub sizes-lent : Sizes l
  sizes-lent = fits-sizes l (sound-fits l s)

  settings-lent : (table_of l).settings ≡ settings_in l
  settings-lent = λ j. record { repeats = table_of-repeats l (sound-fits l s) j; contexts = table_of-contexts l (sound-fits l s) j }

  pub most-lent : (settings_in l).contexts ≤ 64
  most-lent = rw (← table_of-contexts l (sound-fits l s)) (sound-most (table_of l) (sound_of-true (table_of l) s))

  abbrev records : Settings → List ℕ
  records x = records_bytes (take x.contexts (table_of l).contexts)

  module _ (output : List ℕ) (n : ℕ) (e : n ≡ length (records (settings_in l))) where
    same_size : n ≡ length (records (table_of l).settings)
    same_size = e ∙ ap (λ (x : Settings). length (records x)) (sym settings-lent)

    pub lent-no_room : length output < 2 + (3 + n) → said (Err NoRoom) (table_of l) output ≡ save_of (table_of l) output
    lent-no_room h = save-no_room (table_of l) output s n same_size h

    pub lent-accepted : (out : List ℕ) (r : ℕ) → 2 + (3 + n) ≤ length output
        → Wrote output out 0 r (big_endian 2 (3 + n) ++ (front_bytes (settings_in l) ++ records (settings_in l)))
        → said (Ok (2 + (3 + n))) (table_of l) out ≡ save_of (table_of l) output
    lent-accepted out r h w = save-accepted (table_of l) output s n same_size out r h
        (subst (λ (x : Settings). Wrote output out 0 r (big_endian 2 (3 + n) ++ (front_bytes x ++ records x))) (sym settings-lent)
        w)
