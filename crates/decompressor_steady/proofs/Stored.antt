-- Iarwennol. The numbers that a steady arrival changes, stored one by one, are its context stored whole. Assumes nothing.
-- Used by the proof of put_moved.
use Prim.Native.Nat.{ℕ, ◌+◌, ◌<◌}
use mathlib.Core.Path.{◌≡◌, sym, ap, ◌∙◌}
use mathlib.Core.List.{List}
use native.Mathlib.Omega.{arith}
use lib.ListN.{length, set}
use Rattle.context.specs.declared.decompressor.DecompressorContext.{DecompressorContext}
use Rattle.planes.specs.Planes.{Lent, lent, replaced}
use Rattle.planes.proofs.PlanesLaws.{set-replaced}
use Rattle.decompressor_table.specs.Layout.{context_of, context_in, words_of, shorts_of, bytes_of, bit, Fits, Puts}
use Rattle.decompressor_table.specs.LayoutLaws.{fits-typed, put, put_same, lent_same, puts-put}
use Rattle.decompressor_steady.specs.Steady.{moved_to}

-- d: the context at place i, moved
module _ (l : Lent) (i : ℕ) (d : DecompressorContext) (f : Fits l) (s : i < 64) where
  abbrev there : DecompressorContext
  there = context_in l.words l.shorts l.bytes i

  abbrev numbered : List ℕ
  numbered = set l.shorts (128 + i) d.ip.id

  abbrev marked : List ℕ
  marked = set l.bytes (512 + i) (bit d.marker)

  abbrev written : Lent
  written = lent (set l.words (192 + i) d.rtp.timestamp) (set numbered (192 + i) d.rtp.sequence)
      (set marked (704 + i) d.link.sequence)

  kept : l ≡ put l i there
  kept = sym (put_same l i s (fits-typed l f))

  words-written : written.words ≡ replaced l.words i 0 (words_of (moved_to d there))
  words-written =
      set-replaced l.words l.words (words_of there) i 3 d.rtp.timestamp (ap (λ (k : Lent). k.words) kept) s (omega arith)

  shorts-written : written.shorts ≡ replaced l.shorts i 0 (shorts_of (moved_to d there))
  shorts-written =
      let e = set-replaced l.shorts l.shorts (shorts_of there) i 2 d.ip.id (ap (λ (k : Lent). k.shorts) kept) s
      (omega arith) in
      set-replaced numbered l.shorts (set (shorts_of there) 2 d.ip.id) i 3 d.rtp.sequence e s (omega arith)

  bytes-written : written.bytes ≡ replaced l.bytes i 0 (bytes_of (moved_to d there))
  bytes-written =
      let e = set-replaced l.bytes l.bytes (bytes_of there) i 8 (bit d.marker) (ap (λ (k : Lent). k.bytes) kept) s
      (omega arith) in
      set-replaced marked l.bytes (set (bytes_of there) 8 (bit d.marker)) i 11 d.link.sequence e s (omega arith)

  put-moved : written ≡ put l i (moved_to d there)
  put-moved = lent_same (put l i (moved_to d there)) written.words written.shorts written.bytes words-written shorts-written
      bytes-written

  pub puts_moved : d ≡ moved_to d there → Puts l i d written
  unfolding context_of
  puts_moved e =
      rw (put-moved ∙ ap (put l i) (sym e))
      (puts-put l i d f s (ap (λ (x : DecompressorContext). length x.csrc.words) e))
