-- Iarwennol. The numbers that a steady packet changes, stored one by one, are its context stored whole. Assumes nothing.
-- Used by the proof of store_steady.
use Prim.Native.Nat.{ℕ, ◌+◌, ◌<◌}
use mathlib.Core.Path.{◌≡◌, refl, sym, ap, ◌∙◌}
use mathlib.Core.List.{List}
use native.Mathlib.Omega.{arith}
use lib.ListN.{length, get_or, set}
use Rattle.packet.specs.declared.header.Header.{Header}
use Rattle.context.specs.Field.{next_sequence}
use Rattle.compressor_steady.specs.Steady.{steadied}
use Rattle.context.specs.declared.compressor.CompressorContext.{CompressorContext}
use Rattle.planes.specs.Planes.{Lent, lent, row, replaced}
use Rattle.planes.proofs.PlanesLaws.{replaced-row, set-replaced}
use Rattle.planes.proofs.EveryLaws.{every-at}
use Rattle.compressor_table.specs.Layout.{context_of, context_in, words_of, shorts_of, bytes_of, typed, Fits, Puts}
use Rattle.compressor_table.specs.LayoutLaws.{Typed, typed_row-true, fits-typed, bytes-forth, puts-put}

---- The row of the context after a steady packet

module _ (x : Header) (c : CompressorContext) where
  words-steadied : words_of (steadied x c) ≡ set (set (words_of c) 5 c.deltas.timestamp) 3 x.rtp.timestamp
  unfolding steadied
  words-steadied = refl

  shorts-steadied : shorts_of (steadied x c) ≡ set (set (set (shorts_of c) 5 c.deltas.id) 2 x.ip.id) 3 x.rtp.sequence
  unfolding steadied
  shorts-steadied = refl

  bytes-steadied : bytes_of (steadied x c) ≡ set (set (bytes_of c) 9 1) 18 (next_sequence c.link.sequence)
  unfolding steadied
  bytes-steadied = refl

---- The slices

module _ (w h b : List ℕ) (i : ℕ) (a : i < 64) (x : Header) where
  words-stored : set (set w (320 + i) (get_or w (256 + i) 0)) (192 + i) x.rtp.timestamp
      ≡ replaced w i 0 (words_of (steadied x (context_in w h b i)))
  unfolding context_of
  words-stored =
      let v = get_or w (256 + i) 0 in
      let e = set-replaced w w (row w i 0 21) i 5 v (sym (replaced-row w i 0 21)) a (omega arith) in
      set-replaced (set w (320 + i) v) w (set (row w i 0 21) 5 v) i 3 x.rtp.timestamp e a (omega arith)
      ∙ ap (replaced w i 0) (sym (words-steadied x (context_in w h b i)))

  shorts-stored : set (set (set h (320 + i) (get_or h (256 + i) 0)) (128 + i) x.ip.id) (192 + i) x.rtp.sequence
      ≡ replaced h i 0 (shorts_of (steadied x (context_in w h b i)))
  unfolding context_of
  shorts-stored =
      let v = get_or h (256 + i) 0 in
      let r = set (row h i 0 6) 5 v in
      let e = set-replaced h h (row h i 0 6) i 5 v (sym (replaced-row h i 0 6)) a (omega arith) in
      let f = set-replaced (set h (320 + i) v) h r i 2 x.ip.id e a (omega arith) in
      set-replaced (set (set h (320 + i) v) (128 + i) x.ip.id) h (set r 2 x.ip.id) i 3 x.rtp.sequence f a (omega arith)
      ∙ ap (replaced h i 0) (sym (shorts-steadied x (context_in w h b i)))

  bytes-stored : Typed (row b i 0 20) → set (set b (576 + i) 1) (1152 + i) (next_sequence (get_or b (1152 + i) 0))
      ≡ replaced b i 0 (bytes_of (steadied x (context_in w h b i)))
  unfolding context_of
  bytes-stored t =
      let v = next_sequence (get_or b (1152 + i) 0) in
      let e = set-replaced b b (row b i 0 20) i 9 1 (sym (replaced-row b i 0 20)) a (omega arith) in
      set-replaced (set b (576 + i) 1) b (set (row b i 0 20) 9 1) i 18 v e a (omega arith)
      ∙ ap (λ (r : List ℕ). replaced b i 0 (set (set r 9 1) 18 v)) (sym (bytes-forth w h b i t))
      ∙ ap (replaced b i 0) (sym (bytes-steadied x (context_in w h b i)))

many : (l : Lent) (i : ℕ) (x : Header) → length (steadied x (context_in l.words l.shorts l.bytes i)).csrc.words ≡ 15
unfolding steadied context_of
many l i x = refl

pub puts-steady : (l : Lent) (i : ℕ) (x : Header) → Fits l → i < 64
    → Puts l i (steadied x (context_in l.words l.shorts l.bytes i))
    (lent (set (set l.words (320 + i) (get_or l.words (256 + i) 0)) (192 + i) x.rtp.timestamp)
    (set (set (set l.shorts (320 + i) (get_or l.shorts (256 + i) 0)) (128 + i) x.ip.id) (192 + i) x.rtp.sequence)
    (set (set l.bytes (576 + i) 1) (1152 + i) (next_sequence (get_or l.bytes (1152 + i) 0))))
puts-steady l i x f s =
    rw (
      words-stored l.words l.shorts l.bytes i s x,
      shorts-stored l.words l.shorts l.bytes i s x,
      bytes-stored l.words l.shorts l.bytes i s x
          (typed_row-true (row l.bytes i 0 20) (every-at (typed l.bytes) 64 i s (fits-typed l f))),
    )
    (puts-put l i (steadied x (context_in l.words l.shorts l.bytes i)) f s (many l i x))
