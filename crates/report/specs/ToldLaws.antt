-- Iarwennol. The bytes of a table that is lent tell all that a report says. Assume nothing.
-- Used by the proofs of report.
use Rattle.std.specs.Prelude.{ℕ, zero, suc, ◌+◌, ◌≤◌, ◌<◌, ◌≡◌, Bool, true, false, eqb, ltb, length, get_or}
use Rattle.std.proofs.Math.Path.{refl, ap}
use Rattle.std.proofs.Common.{sym, ◌∙◌, arith, eqb-true, le-leb, lt-ltb, le-ltb}
use Rattle.std.proofs.Math.Bool.{cond}
use mathlib.Core.List.{List, [], ◌∷◌, ◌++◌}
use Rattle.std.proofs.lemmas.Bool.{eqb-false}
use Rattle.links.specs.Cs.{State, records_bytes}
use Rattle.context.specs.declared.decompressor.Status.TheVariants.{Empty, Live, Broken}
use Rattle.context.specs.declared.decompressor.DecompressorContext.{DecompressorContext}
use Rattle.planes.specs.Planes.{Lent, cell, row, places, every}
use Rattle.planes.proofs.PlanesLaws.{places-at, length-places}
use Rattle.planes.proofs.EveryLaws.{every_made}
use Rattle.decompressor.specs.declared.table.Table.{Table}
use Rattle.decompressor.specs.Table.{no_context, context_at, Sound}
use Rattle.decompressor.proofs.TableLaws.{sound-context_at}
use Rattle.decompressor_table.specs.Layout.{status_of, context_of, context_in, plane_table, table_of, Fits}
use Rattle.decompressor_table.specs.LayoutLaws.{table_of-fits, table_of-at}
use Rattle.report.specs.Report.{broken_by, is_broken, state_of, states_of, states_from}
use Rattle.report.specs.ReportLaws.{states_before, count-more, records-more, records-room, sound-link}
use Rattle.report.specs.Told.{broken_at, states_at, linked_at, told}

broken-by : (n : ℕ) (a b : Bool) → eqb n 0 ≡ a → eqb n 1 ≡ b → broken_by (cond a Empty (cond b Live Broken)) ≡ ltb 1 n
broken-by n true b e f = sym (le-ltb 1 n (omega (arith, eqb-true n 0 e)))
broken-by n false true e f = sym (le-ltb 1 n (omega (arith, eqb-true n 1 f)))
broken-by n false false e f = sym (lt-ltb 1 n (omega (arith, eqb-false n 0 e, eqb-false n 1 f)))

broken-number : (n : ℕ) → broken_by (status_of n) ≡ ltb 1 n
broken-number n = broken-by n (eqb n 0) (eqb n 1) refl refl

---- one context

module _ (b : List ℕ) where
  pub length-told : length (told b) ≡ 64
  unfolding told
  length-told = length-places (λ (i : ℕ). context_of [] [] (row b i 0 13)) 0 64

  abbrev bytes_tell : (i : ℕ) → DecompressorContext
  bytes_tell i = context_of [] [] (row b i 0 13)

  module _ (i : ℕ) (h : i < 64) where
    told_at : get_or (told b) i no_context ≡ bytes_tell i
    unfolding told
    told_at = places-at bytes_tell 0 64 i no_context h ∙ ap bytes_tell (omega arith)

    status-tells : is_broken (bytes_tell i) ≡ broken_at b i
    unfolding context_of
    status-tells = broken-number (cell b 0 i)

    states-tell : states_of i (bytes_tell i) ≡ states_at b i
    unfolding context_of
    states-tell = ap (λ (z : Bool). cond z (record { context = i; link = cell b 11 i; generation = cell b 12 i } ∷ []) [])
        (broken-number (cell b 0 i))

    broken-told : is_broken (get_or (told b) i no_context) ≡ broken_at b i
    broken-told = ap is_broken told_at ∙ status-tells

    states-told : states_of i (get_or (told b) i no_context) ≡ states_at b i
    states-told = ap (states_of i) told_at ∙ states-tell

    pub told-count : length (states_before (told b) (i + 1)) ≡ length (states_before (told b) i) + cond (broken_at b i) 1 0
    told-count = count-more (told b) i no_context (omega (arith, length-told))
        ∙ ap (λ (z : Bool). length (states_before (told b) i) + cond z 1 0) broken-told

    pub told_more : records_bytes (states_before (told b) (i + 1))
        ≡ records_bytes (states_before (told b) i) ++ records_bytes (states_at b i)
    told_more = records-more (told b) i no_context (omega (arith, length-told))
        ∙ ap (λ (l : List State). records_bytes (states_before (told b) i) ++ records_bytes l) states-told

    pub told-room : length (records_bytes (states_before (told b) i)) + length (records_bytes (states_at b i))
        ≤ length (records_bytes (states_from 0 (told b)))
    told-room = rw (← states-told) (records-room (told b) i no_context (omega (arith, length-told)))

---- the table

same_by : (z z' : Bool) (r r' : State) (xs ys : List State) → z ≡ z' → r ≡ r' → xs ≡ ys → cond z (r ∷ xs) xs ≡ cond z' (r' ∷ ys) ys
same_by z z' r r' xs ys e f g = rw (e, f, g)

-- lists of contexts that say the same
states-same : (f g : ℕ → DecompressorContext) → ((j : ℕ) → is_broken (f j) ≡ is_broken (g j))
    → ((k j : ℕ) → state_of k (f j) ≡ state_of k (g j)) → (k i n : ℕ) → states_from k (places f i n) ≡ states_from k (places g i n)
states-same f g e d k i zero = refl
states-same f g e d k i (suc n) = same_by (is_broken (f i)) (is_broken (g i)) (state_of k (f i)) (state_of k (g i))
    (states_from (suc k) (places f (suc i) n)) (states_from (suc k) (places g (suc i) n)) (e i) (d k i)
    (states-same f g e d (suc k) (suc i) n)

module _ (l : Lent) (fit : Fits l) where
  planes-told : states_from 0 (told l.bytes) ≡ states_from 0 (plane_table l).contexts
  unfolding told plane_table context_of
  planes-told = states-same (bytes_tell l.bytes) (context_in l.words l.shorts l.bytes) (λ j. refl) (λ k j. refl) 0 0 64

  pub states-lent : states_from 0 (told l.bytes) ≡ states_from 0 (table_of l).contexts
  states-lent = planes-told ∙ ap (λ (t : Table). states_from 0 t.contexts) (sym (table_of-fits l fit))

  link-in : (i : ℕ) → (context_in l.words l.shorts l.bytes i).link.sequence ≡ cell l.bytes 11 i
  unfolding context_of
  link-in i = refl

  linked-at : Sound (table_of l) → (i : ℕ) → i < 64 → linked_at l.bytes i ≡ true
  linked-at s i h =
      let c = (sound-link (context_at (table_of l) i) (sound-context_at (table_of l) i s)).sequence in
      let e = ap (λ (x : DecompressorContext). x.link.sequence) (table_of-at l i fit h) ∙ link-in i in
      le-leb (cell l.bytes 11 i) 15 (omega (arith, c, e))

  pub linked-lent : Sound (table_of l) → every (linked_at l.bytes) 64 ≡ true
  linked-lent s = every_made (linked_at l.bytes) 64 (linked-at s)
