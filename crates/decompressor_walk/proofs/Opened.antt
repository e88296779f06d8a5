-- Iarwennol. An opening over slices: planes of zeros are a table with nothing in it. Assumes nothing.
-- Used by the proofs of open.
use Prim.Native.Nat.{ℕ, ◌<◌}
use mathlib.Core.Path.{◌≡◌, sym, ap, ◌∙◌}
use mathlib.Core.Bool.{true, false}
use mathlib.Core.List.{List, []}
use native.Mathlib.Omega.{arith}
use lib.ListN.{length, get_or, set, replicate, length-set, length-replicate}
use lib.Seq.{get_or-set_same, get_or-set_other}
use Rattle.settings.specs.Settings as settings
use Rattle.settings.specs.declared.Settings.{Settings}
use Rattle.packet.specs.declared.refusal.Refusal.{Refusal}
use Rattle.packet.specs.declared.refusal.Refusal.TheVariants.{Unsound}
use Rattle.context.specs.Sound.{empty_decompressor}
use Rattle.context.specs.declared.decompressor.DecompressorContext.{DecompressorContext}
use Rattle.std.specs.Prelude.{Option, Some, None, Ok, Err, ok_or}
use Rattle.decompressor.specs.declared.table.Table.{Table}
use Rattle.decompressor.specs.Table.{empty_table, open_of}
use Rattle.planes.specs.Planes.{Lent, lent, row, places}
use Rattle.planes.proofs.PlanesLaws.{get_d-zeros, row-zeros, places-replicate}
use Rattle.planes.proofs.EveryLaws.{every_made}
use Rattle.decompressor_table.specs.Layout.{context_of, context_in, plane_table, sized, typed_row, typed, table_of, Fits}
use Rattle.decompressor_table.specs.LayoutLaws.{Sizes, fits-made, table_of-fits}
use Rattle.decompressor_table.specs.Calls.{Gives, open_lent}
use Rattle.decompressor_table.specs.CallsLaws.{gives-kept, gives-accepted}

---- Planes of zeros

made : (s : Settings) (n k : ℕ) (l l' : List DecompressorContext) → n ≡ s.repeats → k ≡ s.contexts → l ≡ l'
    → ◌≡◌ {A = Table} (record { settings = record { repeats = n; contexts = k }; contexts = l })
    (record { settings = s; contexts = l' })
made s n k l l' d e f = rw (d, e, f)

module _ (l : Lent) (s : Settings) (z : Sizes l) (w : (x : ℕ) → get_or l.words x 0 ≡ 0) (h : (x : ℕ) → get_or l.shorts x 0 ≡ 0)
    (b : (x : ℕ) → x < 832 → get_or l.bytes x 0 ≡ 0) (n : get_or l.bytes 832 0 ≡ s.repeats)
    (k : get_or l.bytes 833 0 ≡ s.contexts) where
  bytes-zero : (i : ℕ) → i < 64 → row l.bytes i 0 13 ≡ replicate 13 0
  bytes-zero i a = row-zeros l.bytes i 0 13 a (λ x q. b x (omega arith))

  typed-zero : (i : ℕ) → i < 64 → typed l.bytes i ≡ true
  typed-zero i a = ap typed_row (bytes-zero i a)

  at_zero : (i : ℕ) → i < 64 → context_in l.words l.shorts l.bytes i ≡ empty_decompressor
  unfolding context_of empty_decompressor
  at_zero i a = λ j. context_of (row-zeros l.words i 0 20 a (λ x q. w x) j) (row-zeros l.shorts i 0 5 a (λ x q. h x) j)
      (bytes-zero i a j)

  planes-zero : plane_table l ≡ empty_table s
  unfolding plane_table
  planes-zero = made s (get_or l.bytes 832 0) (get_or l.bytes 833 0)
      (places (context_in l.words l.shorts l.bytes) 0 64) (replicate 64 empty_decompressor) n k
      (places-replicate (context_in l.words l.shorts l.bytes) empty_decompressor 0 64 (λ i q. at_zero i (omega arith)))

  fits-zero : Fits l
  fits-zero = fits-made l z (every_made (typed l.bytes) 64 typed-zero)

  pub table-zero : Fits l × (table_of l ≡ empty_table s)
  table-zero = (fits-zero, table_of-fits l fits-zero ∙ planes-zero)

-- three slices cleared, and the settings put
pub cleared : (s : Settings) (p q r : ℕ) → p ≡ 1280 → q ≡ 320 → r ≡ 834
    → Fits (lent (replicate p 0) (replicate q 0) (set (set (replicate r 0) 832 s.repeats) 833 s.contexts))
    × (table_of (lent (replicate p 0) (replicate q 0) (set (set (replicate r 0) 832 s.repeats) 833 s.contexts)) ≡ empty_table s)
cleared s p q r ep eq er =
    let m : length {A = ℕ} (replicate r 0) ≡ r = length-replicate {A = ℕ} r 0 in
    let m₁ : length (set (replicate r 0) 832 s.repeats) ≡ r = length-set (replicate r 0) 832 s.repeats ∙ m in
    table-zero (lent (replicate p 0) (replicate q 0) (set (set (replicate r 0) 832 s.repeats) 833 s.contexts)) s
    (record {
      words = length-replicate {A = ℕ} p 0 ∙ ep;
      shorts = length-replicate {A = ℕ} q 0 ∙ eq;
      bytes = length-set (set (replicate r 0) 832 s.repeats) 833 s.contexts ∙ m₁ ∙ er;
    })
    (get_d-zeros p) (get_d-zeros q)
    (λ x a. get_or-set_other (set (replicate r 0) 832 s.repeats) 833 x s.contexts 0 (λ e. omega arith)
    ∙ get_or-set_other (replicate r 0) 832 x s.repeats 0 (λ e. omega arith) ∙ get_d-zeros r x)
    (get_or-set_other (set (replicate r 0) 832 s.repeats) 833 832 s.contexts 0 (λ e. omega arith)
    ∙ get_or-set_same (replicate r 0) 832 s.repeats 0 (omega (arith, m, er)))
    (get_or-set_same (set (replicate r 0) 832 s.repeats) 833 s.contexts 0 (omega (arith, m₁, er)))

---- open_lent

module _ (l : Lent) (n k : ℕ) where
  pub open-sized : sized l ≡ false → Gives l l (Err Unsound) [] (open_lent l n k)
  unfolding open_lent
  open-sized e = gives-kept l (Err Unsound) [] (open_lent l n k) (rw e)

  module _ (z : sized l ≡ true) where
    open-refused : settings.said None ≡ settings.open_of n k → Gives l l (Err Unsound) [] (open_lent l n k)
    unfolding open_lent open_of
    open-refused e = gives-kept l (Err Unsound) [] (open_lent l n k) (rw (z, ← e))

    open-says : (s : Settings) → settings.said (Some s) ≡ settings.open_of n k
        → open_lent l n k ≡ record { number = 0; length = 0; output = []; table = empty_table s }
    unfolding open_lent open_of
    open-says s e = rw (z, ← e)

    -- o: the settings, if they are in range; without them the refusal is the one that open gives in their place
    pub open-none : (o : Option Settings) (why : Refusal) → ok_or o Unsound ≡ Err why → settings.said o ≡ settings.open_of n k
        → Gives l l (Err why) [] (open_lent l n k)
    open-none None why e h = let same : Unsound ≡ why = cc in rw (← same) (open-refused h)
    open-none (Some s) why e h = absurd (cc)

    pub open-some : (o : Option Settings) (s : Settings) (after : Lent) → ok_or o Unsound ≡ Ok s
        → settings.said o ≡ settings.open_of n k → table_of after ≡ empty_table s → Gives l after (Ok 0) [] (open_lent l n k)
    open-some None s after e h t = absurd (cc)
    open-some (Some x) s after e h t =
        let same : x ≡ s = cc in
        gives-accepted l after 0 [] (open_lent l n k) (rw (t, ← same) (sym (open-says x h)))
