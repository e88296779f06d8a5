-- Iarwennol. What the calls of an endpoint answer is what their definitions say, over what crtp's calls answer. Assumes nothing.
-- Used by the proofs of the calls.
use Prim.Native.Nat.{ℕ}
use mathlib.Core.Path.{◌≡◌, refl, ap, ◌∙◌}
use mathlib.Core.Bool.{true, false, true≢false, false≢true}
use mathlib.Core.List.{List, []}
use Rattle.std.specs.Prelude.{Ok, Err}
use Rattle.crtp.specs.Face as crtp
use Rattle.crtp.specs.Face.{CompressorOutcome, CompressorTable, DecompressorOutcome, DecompressorTable, refusal_number-refused}
use Rattle.endpoint.specs.Answer.{Outcome}
use Rattle.endpoint.specs.declared.answer.Endpoint.{Endpoint}
use Rattle.endpoint.specs.Totals.{rebuilt, quiet, no_totals, tallied}
use Rattle.endpoint.specs.Answer.{Result, said}
use Rattle.endpoint.specs.Outcomes.{opened_of, sent_of, requested_of, rebuilt_of, reported_of, is_accepted, event_of}
use Rattle.endpoint.specs.Calls.{open_by, sent_by, requested_by, answered_by}

-- an endpoint that has answered: with another table at one end, and the call counted
abbrev pub sender : Endpoint → CompressorTable → Outcome → Endpoint
sender e t o = record { compressor = t; decompressor = e.decompressor; totals = tallied e.totals (event_of o) }

abbrev pub receiver : Endpoint → DecompressorTable → Outcome → Endpoint
receiver e t o = record { compressor = e.compressor; decompressor = t; totals = tallied e.totals (event_of o) }

abbrev pub answer : Outcome → Endpoint → (output : List ℕ) → Result
answer o e output = said o e output

-- x, y: what the definition of crtp's call says
module _ (e : Endpoint) (output : List ℕ) where
  module _ (t : CompressorTable) where
    sent-by : (o : CompressorOutcome)
        → answer (sent_of o) (sender e t (sent_of o)) output ≡ sent_by e (crtp.sending.said o t output)
    sent-by (Ok (k, n)) = refl
    sent-by (Err r) = rw (refusal_number-refused r)

    requested-by : (o : CompressorOutcome)
        → answer (requested_of o) (sender e t (requested_of o)) output
        ≡ requested_by e output (crtp.sending.said o t [])
    requested-by (Ok (k, n)) = refl
    requested-by (Err r) = rw (refusal_number-refused r)

    module _ (o : CompressorOutcome) (x : crtp.sending.Result) where
      pub said-sent : crtp.sending.said o t output ≡ x
          → answer (sent_of o) (sender e t (sent_of o)) output ≡ sent_by e x
      said-sent q = sent-by o ∙ ap (sent_by e) q

      pub said-requested : crtp.sending.said o t [] ≡ x
          → answer (requested_of o) (sender e t (requested_of o)) output ≡ requested_by e output x
      said-requested q = requested-by o ∙ ap (requested_by e output) q

  module _ (t : DecompressorTable) where
    rebuilt-by : (o : DecompressorOutcome)
        → answer (rebuilt_of o) (receiver e t (rebuilt_of o)) output
        ≡ answered_by rebuilt e (crtp.receiving.said o t output)
    rebuilt-by (Ok n) = refl
    rebuilt-by (Err r) = rw (refusal_number-refused r)

    reported-by : (o : DecompressorOutcome)
        → answer (reported_of o) (receiver e t (reported_of o)) output
        ≡ answered_by quiet e (crtp.receiving.said o t output)
    reported-by (Ok n) = refl
    reported-by (Err r) = rw (refusal_number-refused r)

    module _ (o : DecompressorOutcome) (y : crtp.receiving.Result)
        (q : crtp.receiving.said o t output ≡ y) where
      pub said-rebuilt : answer (rebuilt_of o) (receiver e t (rebuilt_of o)) output ≡ answered_by rebuilt e y
      said-rebuilt = rebuilt-by o ∙ ap (answered_by rebuilt e) q

      pub said-reported : answer (reported_of o) (receiver e t (reported_of o)) output ≡ answered_by quiet e y
      said-reported = reported-by o ∙ ap (answered_by quiet e) q

-- an opening, where both accept and where one does not
module _ (e : Endpoint) (t : CompressorTable) (d : DecompressorTable) where
  abbrev pub opening : CompressorOutcome → DecompressorOutcome → Result
  opening x y =
      open_by e (crtp.sending.said x t [])
      (crtp.receiving.said y d [])

  pub said-opened : (x : CompressorOutcome) (y : DecompressorOutcome) → is_accepted (opened_of x y) ≡ true
      → answer (opened_of x y) (record { compressor = t; decompressor = d; totals = no_totals }) [] ≡ opening x y
  said-opened (Ok (k, n)) (Ok m) a = refl
  said-opened (Ok (k, n)) (Err r) a = absurd (false≢true a)
  said-opened (Err r) y a = absurd (false≢true a)

  pub said-unopened : (x : CompressorOutcome) (y : DecompressorOutcome) → is_accepted (opened_of x y) ≡ false
      → answer (opened_of x y) e [] ≡ opening x y
  said-unopened (Ok (k, n)) (Ok m) a = absurd (true≢false a)
  said-unopened (Ok (k, n)) (Err r) a = rw (refusal_number-refused r)
  said-unopened (Err r) y a = rw (refusal_number-refused r, refusal_number-refused r)
