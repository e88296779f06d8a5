-- Iarwennol. An opening over slices: planes of zeros are a table with nothing in it. Assumes nothing.
-- Used by the proofs of open.
use Prim.Native.Nat.{ℕ, ◌<◌}
use mathlib.Core.Path.{◌≡◌, refl, sym, ap, ◌∙◌}
use mathlib.Core.Bool.{true, false}
use mathlib.Core.List.{List, []}
use native.Mathlib.Omega.{arith}
use lib.ListN.{length, get_or, set, replicate, length-set, length-replicate}
use lib.Seq.{get_or-set_same, get_or-set_other}
use Rattle.settings.specs.Settings as settings
use Rattle.settings.specs.declared.Settings.{Settings}
use Rattle.std.specs.Prelude.{Some, None}
use Rattle.packet.specs.declared.refusal.Refusal.TheVariants.{Unsound}
use Rattle.context.specs.Sound.{empty_compressor}
use Rattle.context.specs.declared.compressor.CompressorContext.{CompressorContext}
use Rattle.std.specs.Prelude.{Ok, Err}
use Rattle.compressor.specs.declared.table.Table.{Table}
use Rattle.compressor.specs.Table.{empty_table, open_of}
use Rattle.planes.specs.Planes.{Lent, lent, row, places}
use Rattle.planes.proofs.PlanesLaws.{get_d-zeros, row-zeros, places-replicate}
use Rattle.planes.proofs.EveryLaws.{every_made}
use Rattle.compressor_table.specs.Layout.{context_of, context_in, plane_table, sized, typed_row, typed, table_of}
use Rattle.compressor_table.specs.LayoutLaws.{Sizes, fits-made, table_of-fits}
use Rattle.compressor_table.specs.Calls.{Gives, open_lent}

---- Planes of zeros

made : (s : Settings) (n k : ℕ) (l l' : List CompressorContext) → n ≡ s.repeats → k ≡ s.contexts → l ≡ l'
    → ◌≡◌ {A = Table} (record { settings = record { repeats = n; contexts = k }; contexts = l }) (record {
      settings = s;
      contexts
          = l';
    })
made s n k l l' d e f = rw (d, e, f)

module _ (l : Lent) (s : Settings) (z : Sizes l) (w : (x : ℕ) → get_or l.words x 0 ≡ 0) (h : (x : ℕ) → get_or l.shorts x 0 ≡ 0)
    (b : (x : ℕ) → x < 1280 → get_or l.bytes x 0 ≡ 0) (n : get_or l.bytes 1280 0 ≡ s.repeats)
    (k : get_or l.bytes 1281 0 ≡ s.contexts) where
  bytes-zero : (i : ℕ) → i < 64 → row l.bytes i 0 20 ≡ replicate 20 0
  bytes-zero i a = row-zeros l.bytes i 0 20 a (λ x q. b x (omega arith))

  typed-zero : (i : ℕ) → i < 64 → typed l.bytes i ≡ true
  typed-zero i a = ap typed_row (bytes-zero i a)

  at_zero : (i : ℕ) → i < 64 → context_in l.words l.shorts l.bytes i ≡ empty_compressor
  unfolding context_of empty_compressor
  at_zero i a = λ j. context_of (row-zeros l.words i 0 21 a (λ x q. w x) j) (row-zeros l.shorts i 0 6 a (λ x q. h x) j)
      (bytes-zero i a j)

  planes-zero : plane_table l ≡ empty_table s
  unfolding plane_table
  planes-zero = made s (get_or l.bytes 1280 0) (get_or l.bytes 1281 0)
      (places (context_in l.words l.shorts l.bytes) 0 64) (replicate 64 empty_compressor) n k
      (places-replicate (context_in l.words l.shorts l.bytes) empty_compressor 0 64 (λ i q. at_zero i (omega arith)))

  pub table-zero : table_of l ≡ empty_table s
  table-zero = table_of-fits l (fits-made l z (every_made (typed l.bytes) 64 typed-zero)) ∙ planes-zero

-- three slices cleared, and the settings put
pub cleared : (s : Settings) (p q r : ℕ) → p ≡ 1344 → q ≡ 384 → r ≡ 1282
    → table_of (lent (replicate p 0) (replicate q 0) (set (set (replicate r 0) 1280 s.repeats) 1281 s.contexts)) ≡ empty_table s
cleared s p q r ep eq er =
    let m : length {A = ℕ} (replicate r 0) ≡ r = length-replicate {A = ℕ} r 0 in
    let m₁ : length (set (replicate r 0) 1280 s.repeats) ≡ r = length-set (replicate r 0) 1280 s.repeats ∙ m in
    table-zero (lent (replicate p 0) (replicate q 0) (set (set (replicate r 0) 1280 s.repeats) 1281 s.contexts)) s
    (record {
      words = length-replicate {A = ℕ} p 0 ∙ ep;
      shorts = length-replicate {A = ℕ} q 0 ∙ eq;
      bytes = length-set (set (replicate r 0) 1280 s.repeats) 1281 s.contexts ∙ m₁ ∙ er;
    })
    (get_d-zeros p) (get_d-zeros q)
    (λ x a. get_or-set_other (set (replicate r 0) 1280 s.repeats) 1281 x s.contexts 0 (λ e. omega arith)
    ∙ get_or-set_other (replicate r 0) 1280 x s.repeats 0 (λ e. omega arith) ∙ get_d-zeros r x)
    (get_or-set_other (set (replicate r 0) 1280 s.repeats) 1281 1280 s.contexts 0 (λ e. omega arith)
    ∙ get_or-set_same (replicate r 0) 1280 s.repeats 0 (omega (arith, m, er)))
    (get_or-set_same (set (replicate r 0) 1280 s.repeats) 1281 s.contexts 0 (omega (arith, m₁, er)))

---- open_lent

module _ (l : Lent) (n k : ℕ) where
  pub open-sized : sized l ≡ false → Gives l l (Err Unsound) [] (open_lent l n k)
  unfolding open_lent
  open-sized e = record { says = rw e; keeps = λ h. refl }

  module _ (z : sized l ≡ true) where
    pub open-refused : settings.said None ≡ settings.open_of n k → Gives l l (Err Unsound) [] (open_lent l n k)
    unfolding open_lent open_of
    open-refused e = record { says = rw (z, ← e); keeps = λ h. refl }

    open-says : (s : Settings) → settings.said (Some s) ≡ settings.open_of n k
        → open_lent l n k ≡ record { number = 0; kind = 0; length = 0; output = []; table = empty_table s }
    unfolding open_lent open_of
    open-says s e = rw (z, ← e)

    pub open-accepted : (s : Settings) (after : Lent) → settings.said (Some s) ≡ settings.open_of n k
        → table_of after ≡ empty_table s → Gives l after (Ok (0, 0)) [] (open_lent l n k)
    open-accepted s after e t = record {
      says = rw t (sym (open-says s e));
      keeps = λ h. absurd (h (ap (λ r. r.number) (open-says s e)));
    }
