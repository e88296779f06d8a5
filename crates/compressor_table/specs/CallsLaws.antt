-- Iarwennol. Laws of a call on a table that is lent. Assume nothing.
-- Used by the proofs of the compressor's calls.
use Rattle.std.specs.Prelude.{ℕ, ◌≡◌, refl, true, List}
use Rattle.std.proofs.Common.{sym, ap, ◌∙◌}
use Rattle.compressor.specs.Answer.{Outcome}
use Rattle.std.specs.Prelude.{Ok}
use Rattle.compressor.specs.Answer.{Result, said}
use Rattle.compressor.specs.Table.{open_of}
use Rattle.planes.specs.Planes.{Lent}
use Rattle.compressor_table.specs.Layout.{sized, table_of}
use Rattle.compressor_table.specs.Calls.{Gives, open_lent}

-- a call that touched no number
pub gives-kept : (l : Lent) (o : Outcome) (output : List ℕ) (want : Result) → said o (table_of l) output ≡ want → Gives l l o
    output want
gives-kept l o output want e = record { says = e; keeps = λ h. refl }

-- a call that is accepted
pub gives-accepted : (before after : Lent) (k n : ℕ) (output : List ℕ) (want : Result)
    → said (Ok (k, n)) (table_of after) output ≡ want → Gives before after (Ok (k, n)) output want
gives-accepted before after k n output want e = record {
  says = e;
  keeps = λ h. absurd (h (sym (ap (λ (r : Result). r.number) e)));
}

-- the same by another name of what is wanted
pub gives-by : (before after : Lent) (o : Outcome) (output : List ℕ) (want want' : Result) → want ≡ want'
    → Gives before after o output want → Gives before after o output want'
gives-by before after o output want want' e g = record {
  says = g.says ∙ e;
  keeps = λ h. g.keeps (λ z. h (sym (ap (λ (r : Result). r.number) e) ∙ z));
}

-- an opening of slices as long as they must be
pub open_lent-says : (l : Lent) (n k : ℕ) → sized l ≡ true → open_lent l n k ≡ open_of (table_of l) n k
unfolding open_lent
open_lent-says l n k e = rw e
