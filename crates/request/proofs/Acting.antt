-- Iarwennol. One record more of a request, on a table that is lent. Assumes nothing.
-- Used by the loop over the records.
use Prim.Native.Nat.{ℕ, ◌+◌, ◌<◌}
use mathlib.Core.Path.{◌≡◌, refl, sym, ap, ◌∙◌}
use mathlib.Core.Bool.{Bool, cond}
use mathlib.Core.List.{List}
use lib.ListN.{get_or}
use Rattle.links.specs.Cs.{record_context, record_asks}
use Rattle.context.specs.Compressor.{requested}
use Rattle.context.specs.declared.compressor.CompressorContext.{CompressorContext}
use Rattle.compressor.specs.declared.table.Table.{Table}
use Rattle.compressor.specs.Table.{context_at}
use Rattle.compressor.specs.Request.{asked_all}
use Rattle.compressor.proofs.RequestLaws.{asked_all-more}
use Rattle.planes.specs.Planes.{Lent}
use Rattle.compressor_table.specs.Layout.{context_in, table_of, Fits, Puts}
use Rattle.compressor_table.specs.LayoutLaws.{table_of-at, table_of-repeats}

-- where the first i records have acted
pub record Acted (before l : Lent) (s : List ℕ) (i : ℕ) : Type 0 where
  pub fit : Fits l
  pub settings : (table_of l).settings ≡ (table_of before).settings
  pub contexts : (table_of l).contexts ≡ asked_all (table_of before).settings.repeats s (table_of before).contexts i

pub acted-start : (before : Lent) (s : List ℕ) → Fits before → Acted before before s 0
acted-start before s f = record { fit = f; settings = refl; contexts = refl }

module _ (before l after : Lent) (s : List ℕ) (i place : ℕ) (asks : Bool) (context asked : CompressorContext) where
  asked_here : Fits before → Fits l → place < 64 → context ≡ context_in l.words l.shorts l.bytes place
      → asked ≡ cond asks (requested (get_or before.bytes 1280 0) context) context
      → asked ≡ cond asks (requested (table_of before).settings.repeats (context_at (table_of l) place)) (context_at (table_of l)
      place)
  asked_here f g h e q = q ∙ (λ j. cond asks (requested (sym (table_of-repeats before f) j) ((e ∙ sym (table_of-at l place g h)) j))
      ((e ∙ sym (table_of-at l place g h)) j))

  pub acted-more : Fits before → Acted before l s i → place < 64 → asks ≡ record_asks s i → place ≡ record_context s i
      → context ≡ context_in l.words l.shorts l.bytes place
      → asked ≡ cond asks (requested (get_or before.bytes 1280 0) context) context → Puts l place asked after
      → Acted before after s (i + 1)
  acted-more f a h e k c q p = record {
    fit = p.fit;
    settings = ap (λ (t : Table). t.settings) p.table ∙ a.settings;
    contexts = ap (λ (t : Table). t.contexts) p.table
        ∙ asked_all-more (table_of before).settings.repeats s (table_of before).contexts (table_of l).contexts i asks place asked
        a.contexts e k (asked_here f a.fit h c q);
  }
