-- Iarwennol. Laws of the lookup. Assume nothing.
-- Used by the loops that look a context up, and by the laws of the send.
use Rattle.std.specs.Prelude.{ℕ, zero, suc, ◌+◌, ◌-◌, ◌<◌, ◌≤◌, ◌≡◌, refl, Bool, true, false, cond, List, get_or}
use Rattle.std.specs.Prelude.{Some, None}
use Rattle.std.proofs.Common.{arith}
use Rattle.context.specs.declared.compressor.CompressorContext.{CompressorContext}
use Rattle.compressor.specs.Table.{no_context}
use Rattle.compressor.specs.Lookup.{lowest}

---- lowest

-- one place further, and past the last, for a loop that goes over the contexts
module _ (p : CompressorContext → Bool) (cs : List CompressorContext) (i k : ℕ) where
  pub lowest-next : i < k → lowest p cs i (k - i) ≡ cond (p (get_or cs i no_context)) (Some i) (lowest p cs (i + 1) (k - (i + 1)))
  lowest-next h = let e : k - i ≡ suc (k - (i + 1)) = omega arith in rw e

  pub lowest-end : k ≤ i → lowest p cs i (k - i) ≡ None
  lowest-end h = let e : k - i ≡ 0 = omega arith in rw e

-- a context that was found is among those looked at, and passes the test
pub lowest-found : (p : CompressorContext → Bool) (cs : List CompressorContext) (i left j : ℕ) → lowest p cs i left ≡ Some j
    → (j < i + left) × (p (get_or cs j no_context) ≡ true)
lowest-found p cs i zero j e = let z : ◌≡◌ {A = ℕ} 0 1 = cc in absurd (omega arith)
lowest-found p cs i (suc left) j e = by (p (get_or cs i no_context)) refl e (lowest-found p cs (i + 1) left j)
  where
    by : (b : Bool) → p (get_or cs i no_context) ≡ b → cond b (Some i) (lowest p cs (i + 1) left) ≡ Some j
        → (lowest p cs (i + 1) left ≡ Some j → (j < i + 1 + left) × (p (get_or cs j no_context) ≡ true))
        → (j < i + suc left) × (p (get_or cs j no_context) ≡ true)
    by true q f ih = let z : i ≡ j = cc in rw (← z) (omega arith, q)
    by false q f ih = let r = ih f in (omega arith, r.1)
