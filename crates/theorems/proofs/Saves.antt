-- Iarwennol. The laws of saved tables, as they were asked for.
-- Proved by those of `saves`.
use Prim.Native.Nat.{ℕ, ◌≤◌, ◌<◌}
use mathlib.Core.Path.{◌≡◌, ap}
use mathlib.Core.Bool.{true}
use mathlib.Core.List.{List, [], ◌∷◌, ◌++◌}
use lib.ListN.{length, take}
use Rattle.codes.specs.Bytes.{AllBytes}
use Rattle.context.specs.Ranges.{ContextInRange}
use Rattle.decompressor.specs.declared.table.Table.{Table}
use Rattle.decompressor.specs.Table.{context_at, sound_of}
use Rattle.decompressor.proofs.TableLaws.{sound_of-true, sound_of-made}
use Rattle.saves.specs.Saves.{saved_bytes, save_of, load_of}
use Rattle.saves.proofs.SizeLaws.{saves-longest}
use Rattle.saves.proofs.SavesLaws.{TableFits, load-saved, table-save_of}
use Rattle.saves.proofs.LoadLaws.{load_read}
use Rattle.saves.proofs.FileLaws.{load_cut, load-lengthened, load-alone, saved-apart}

-- a sound table whose numbers are within their types
module _ (t : Table) (sound : sound_of t ≡ true) (size : length t.contexts ≡ 64)
    (range : (i : ℕ) → i < 64 → ContextInRange (context_at t i)) where
  fits : TableFits t
  fits = record { sound = sound_of-true t sound; size = size; range = range }

  -- a load of its file gives it back, whatever table is handed in
  number-asked : (u : Table) → (load_of u (saved_bytes t)).number ≡ 0
  number-asked u = ap (λ r. r.number) (load-saved t fits u)

  table-asked : (u : Table) → (load_of u (saved_bytes t)).table ≡ t
  table-asked u = ap (λ r. r.table) (load-saved t fits u)

  -- cut or lengthened it is refused, and the table that was handed in stays
  cut-asked : (u : Table) (n : ℕ) → n < length (saved_bytes t) → (load_of u (take n (saved_bytes t))).number ≡ 4
  cut-asked u n h = ap (λ r. r.number) (load_cut t fits u n h)

  kept-asked : (u : Table) (n : ℕ) → n < length (saved_bytes t) → (load_of u (take n (saved_bytes t))).table ≡ u
  kept-asked u n h = ap (λ r. r.table) (load_cut t fits u n h)

  more-asked : (u : Table) (x : ℕ) (xs : List ℕ) → (load_of u (saved_bytes t ++ (x ∷ xs))).number ≡ 5
  more-asked u x xs = ap (λ r. r.number) (load-lengthened t fits u x xs)

  longest-asked : length (saved_bytes t) ≤ 7045
  longest-asked = saves-longest t (sound_of-true t sound)

-- what loads is sound, and saving it gives the same bytes
module _ (t : Table) (s : List ℕ) (a : AllBytes s) (e : (load_of t s).number ≡ 0) where
  sound-asked : sound_of (load_of t s).table ≡ true
  sound-asked = sound_of-made (load_of t s).table (load_read t s a e).fits.sound

  same-asked : saved_bytes (load_of t s).table ≡ s
  same-asked = (load_read t s a e).same

-- the bytes alone decide, and what is refused leaves the table
module _ (t u : Table) (s : List ℕ) where
  alone-asked : (load_of t s).number ≡ (load_of u s).number
  alone-asked = (load-alone t u s).number

  left-asked : ((load_of t s).number ≡ 0 → ⊥) → (load_of t s).table ≡ t
  left-asked = (load-alone t u s).kept

  save-asked : (save_of t s).table ≡ t
  save-asked = table-save_of t s
