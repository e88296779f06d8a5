-- Iarwennol. The lookup over planes, place by place. Assumes nothing.
-- Used by the proofs of the lookup.
use Prim.Native.Nat.{ℕ, ◌+◌, ◌-◌, ◌<◌, ◌≤◌}
use mathlib.Core.Path.{◌≡◌, sym, ap, ◌∙◌}
use mathlib.Core.Bool.{Bool, true, false, cond, not, ◌&&◌, and-true, and-false}
use mathlib.Core.List.{List}
use Rattle.std.specs.Prelude.{Some}
use native.Mathlib.Omega.{arith}
use borrow.Author.Tests.{eq-eqb, ne_eqb}
use lib.Dec.{eqb}
use Rattle.packet.specs.declared.header.Flow.{Flow}
use Rattle.context.specs.declared.compressor.CompressorContext.{CompressorContext}
use Rattle.compressor.specs.Lookup.{lowest, is_of}
use Rattle.compressor.proofs.LookupLaws.{lowest-next}
use Rattle.compressor.specs.Table.{is_empty}
use Rattle.planes.specs.Planes.{Lent, cell}
use Rattle.compressor_table.specs.Layout.{context_of, context_in, table_of, Fits}
use Rattle.compressor_table.specs.LayoutLaws.{table_of-at, empty-status}

---- is_of

last-true : (a b c d e g : Bool) → g ≡ true → (a && (b && c && d && e)) ≡ (a && (b && c && d && e && g))
last-true a b c d e g h = rw (h, and-true)

last-false : (a b c d e g : Bool) → g ≡ false → false ≡ (a && (b && c && d && e && g))
last-false a b c d e g h =
    sym (ap (λ (z : Bool). a && (b && c && d && e && z)) h ∙ ap (λ (z : Bool). a && z) (and-false (b && c && d && e)) ∙ and-false a)

module _ (f : Flow) (w h b : List ℕ) (i : ℕ) where
  abbrev others : Bool
  others = eqb f.source (cell w 0 i) && eqb f.destination (cell w 1 i) && eqb f.sport (cell h 0 i)
      && eqb f.dport (cell h 1 i)

  pub is_of-same : cell w 2 i ≡ f.ssrc → (not (eqb (cell b 0 i) 0) && others) ≡ is_of f (context_in w h b i)
  unfolding context_of
  is_of-same e =
      last-true (not (eqb (cell b 0 i) 0)) (eqb f.source (cell w 0 i)) (eqb f.destination (cell w 1 i))
      (eqb f.sport (cell h 0 i)) (eqb f.dport (cell h 1 i)) (eqb f.ssrc (cell w 2 i)) (eq-eqb _ _ (sym e))
      ∙ ap (λ (z : Bool). not z && (others && eqb f.ssrc (cell w 2 i))) (empty-status (cell b 0 i))

  pub is_of-other : (cell w 2 i ≡ f.ssrc → ⊥) → false ≡ is_of f (context_in w h b i)
  unfolding context_of
  is_of-other e =
      last-false (not (eqb (cell b 0 i) 0)) (eqb f.source (cell w 0 i)) (eqb f.destination (cell w 1 i))
      (eqb f.sport (cell h 0 i)) (eqb f.dport (cell h 1 i)) (eqb f.ssrc (cell w 2 i)) (ne_eqb _ _ (λ q. e (sym q)))
      ∙ ap (λ (z : Bool). not z && (others && eqb f.ssrc (cell w 2 i))) (empty-status (cell b 0 i))

---- lowest

pub is_empty-at : (w h b : List ℕ) (i : ℕ) → eqb (cell b 0 i) 0 ≡ is_empty (context_in w h b i)
unfolding context_of
is_empty-at w h b i = empty-status (cell b 0 i)

-- the lowest place from i on, by a test that has been made at place i
pub lowest-at : (p : CompressorContext → Bool) (l : Lent) (k i : ℕ) → Fits l → i < k → k ≤ 64
    → (z : Bool) → z ≡ p (context_in l.words l.shorts l.bytes i)
    → lowest p (table_of l).contexts i (k - i) ≡ cond z (Some i) (lowest p (table_of l).contexts (i + 1) (k - (i + 1)))
lowest-at p l k i f h m z e =
    lowest-next p (table_of l).contexts i k h
    ∙ ap (λ (b : Bool). cond b (Some i) (lowest p (table_of l).contexts (i + 1) (k - (i + 1))))
    (ap p (table_of-at l i f (omega arith)) ∙ sym e)
