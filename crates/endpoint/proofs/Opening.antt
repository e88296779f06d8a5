-- Iarwennol. An opening of an endpoint in slices: both ends accept, or neither is touched. Assumes nothing.
-- Used by the proof of open.
use Prim.Native.Nat.{ℕ}
use mathlib.Core.Path.{◌≡◌, refl, sym, ap, ◌∙◌}
use mathlib.Core.Bool.{true, false, true≢false, false≢true}
use mathlib.Core.List.{List, []}
use borrow.Author.Tests.{eq-eqb, eqb-false}
use lib.ListN.{length}
use Rattle.crtp.specs.Face as crtp
use Rattle.crtp.specs.Face.{Lent, CompressorOutcome, DecompressorOutcome, CompressorGives, DecompressorGives}
use Rattle.crtp.specs.Face.{compressor_of, decompressor_of, sized_compressor, sized_decompressor, open_compressor_of}
use Rattle.crtp.specs.Face.{open_decompressor_of}
use Rattle.crtp.specs.Face.{open_compressor_lent, open_decompressor_lent, open_compressor-says, open_decompressor-says}
use Rattle.crtp.specs.Face.{open-alike, open-leaves, refusal_number, refusal_number-refused}
use Rattle.endpoint.specs.declared.answer.Endpoint.{Endpoint}
use Rattle.endpoint.specs.Answer.{Outcome}
use Rattle.std.specs.Prelude.{Ok, Err}
use Rattle.endpoint.specs.Totals.{totals_of, no_totals}
use Rattle.endpoint.specs.Answer.{Result, said, number_of}
use Rattle.endpoint.specs.Outcomes.{opened_of, is_accepted}
use Rattle.endpoint.specs.Calls.{open_by, open_of}
use Rattle.endpoint.specs.Lent.{ends, counted, endpoint_of, Gives}
use Rattle.endpoint.specs.LentLaws.{held, endpoint_of-counted, gives_of}
use Rattle.endpoint.proofs.Answers.{said-opened, said-unopened}

accepted-number : (o : Outcome) → is_accepted o ≡ true → number_of o ≡ 0
accepted-number (Ok d) e = refl
accepted-number (Err r) e = absurd (false≢true e)

-- x, y: what the ends answered; one of them refused
refused-one : (x : CompressorOutcome) (y : DecompressorOutcome) → is_accepted (opened_of x y) ≡ false
    → crtp.sending.number_of x ≡ crtp.receiving.number_of y → crtp.sending.number_of x ≡ 0 → ⊥
refused-one (Ok (k, n)) (Ok m) a e z = true≢false a
refused-one (Ok (k, n)) (Err r) a e z =
    eqb-false (refusal_number r) 0 (refusal_number-refused r) (sym e)
refused-one (Err r) y a e z = eqb-false (refusal_number r) 0 (refusal_number-refused r) z

module _ (s s' r r' : Lent) (t : List ℕ) (n k : ℕ) (x : CompressorOutcome) (y : DecompressorOutcome)
    (zs : sized_compressor s ≡ true) (zr : sized_decompressor r ≡ true) (zt : counted t ≡ true)
    (gc : CompressorGives s s' x [] (open_compressor_lent s n k)) (gd : DecompressorGives r r' y [] (open_decompressor_lent r n k))
  where
    abbrev C : crtp.sending.Result
    C = open_compressor_of (compressor_of s) n k

    abbrev D : crtp.receiving.Result
    D = open_decompressor_of (decompressor_of r) n k

    said-c : crtp.sending.said x (compressor_of s') [] ≡ C
    said-c = gc.says ∙ open_compressor-says s n k zs

    said-d : crtp.receiving.said y (decompressor_of r') [] ≡ D
    said-d = gd.says ∙ open_decompressor-says r n k zr

    pub opened_both : (t' : List ℕ) → is_accepted (opened_of x y) ≡ true → length t' ≡ 6 → totals_of t' ≡ no_totals
        → Gives (ends s r t) (ends s' r' t') (opened_of x y) [] (open_of (endpoint_of (ends s r t)) n k)
    unfolding open_of
    opened_both t' a l q =
        let says : said (opened_of x y) (endpoint_of (ends s' r' t')) [] ≡ open_of (held s r t) n k =
        ap (λ (z : Endpoint). said (opened_of x y) z []) (endpoint_of-counted s' r' t' (eq-eqb _ _ l)
        ∙ (λ j. record { compressor = compressor_of s'; decompressor = decompressor_of r'; totals = q j }))
        ∙ said-opened (held s r t) (compressor_of s') (decompressor_of r') x y a
        ∙ (λ j. open_by (held s r t) (said-c j) (said-d j)) in
        let zero : (open_of (held s r t) n k).number ≡ 0 = sym (ap (λ (w : Result). w.number) says)
        ∙ accepted-number (opened_of x y)
        a in
        gives_of (ends s r t) (ends s' r' t') (opened_of x y) [] (λ (z : Endpoint). open_of z n k) (held s r t)
        (endpoint_of-counted s r t zt) says (λ h u. absurd (h zero)) (λ h u. absurd (h zero))

    module _ (a : is_accepted (opened_of x y) ≡ false) where
      number-c : crtp.sending.number_of x ≡ C.number
      number-c = ap (λ (w : crtp.sending.Result). w.number) said-c

      number-d : crtp.receiving.number_of y ≡ D.number
      number-d = ap (λ (w : crtp.receiving.Result). w.number) said-d

      neither : C.number ≡ 0 → ⊥
      neither z = refused-one x y a (number-c ∙ open-alike (compressor_of s) (decompressor_of r) n k ∙ sym number-d) (number-c ∙ z)

      kept-c : s' ≡ s
      kept-c = gc.keeps (λ z. neither (sym (ap (λ (w : crtp.sending.Result). w.number) (open_compressor-says s n k zs)) ∙ z))

      neither-d : D.number ≡ 0 → ⊥
      neither-d z = neither (open-alike (compressor_of s) (decompressor_of r) n k ∙ z)

      kept-d : r' ≡ r
      kept-d = gd.keeps (λ z. neither-d (sym (ap (λ (w : crtp.receiving.Result). w.number) (open_decompressor-says r n k zr)) ∙ z))
          (ap (λ (w : crtp.receiving.Result). w.table) (open_decompressor-says r n k zr) ∙ open-leaves (decompressor_of r) n k
          neither-d)

      pub opened-none : Gives (ends s r t) (ends s' r' t) (opened_of x y) [] (open_of (endpoint_of (ends s r t)) n k)
      unfolding open_of
      opened-none =
          gives_of (ends s r t) (ends s' r' t) (opened_of x y) [] (λ (z : Endpoint). open_of z n k) (held s r t)
          (endpoint_of-counted s r t zt)
          (ap (λ (z : Endpoint). said (opened_of x y) z [])
          ((λ j. endpoint_of (ends (kept-c j) (kept-d j) t)) ∙ endpoint_of-counted s r t zt)
          ∙ said-unopened (held s r t) (compressor_of s') (decompressor_of r') x y a
          ∙ (λ j. open_by (held s r t) (said-c j) (said-d j)))
          (λ h u. kept-c) (λ h u. kept-d)
