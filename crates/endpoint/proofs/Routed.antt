-- Iarwennol. What a call does to an endpoint in slices, over what crtp's call did to a table in slices. Assumes nothing.
-- Used by the proofs of the calls.
use Prim.Native.Nat.{ℕ}
use mathlib.Core.Path.{◌≡◌, refl, sym, ap, ◌∙◌}
use mathlib.Core.Bool.{true, false}
use mathlib.Core.List.{List, []}
use borrow.Author.Tests.{eq-eqb, ne_eqb}
use lib.ListN.{length}
use Rattle.crtp.specs.Face as crtp
use Rattle.crtp.specs.Face.{Lent, CompressorOutcome, DecompressorOutcome, CompressorGives, DecompressorGives}
use Rattle.crtp.specs.Face.{compressor_of, decompressor_of, send_of, request_of, receive_of}
use Rattle.crtp.specs.Face.{send-closed, request-closed, receive-closed, report-closed, Refusal}
use Rattle.endpoint.specs.declared.answer.Endpoint.{Endpoint}
use Rattle.endpoint.specs.Answer.{Outcome}
use Rattle.std.specs.Prelude.{Err}
use Rattle.endpoint.specs.Totals.{rebuilt, totals_of, tallied}
use Rattle.endpoint.specs.Answer.{Result, said}
use Rattle.endpoint.specs.Outcomes.{sent_of, requested_of, rebuilt_of, reported_of, event_of}
use Rattle.endpoint.specs.Calls.{closed_endpoint, wire_of, requested_by, answered_by, radio_of, report_of}
use Rattle.endpoint.specs.Lent.{Ends, ends, counted, endpoint_of, Gives}
use Rattle.endpoint.specs.LentLaws.{held, endpoint_of-counted, endpoint_of-not, gives_of}
use Rattle.endpoint.proofs.Answers.{said-sent, said-requested, said-rebuilt, said-reported}

---- Without six totals

module _ (s r : Lent) (t : List ℕ) (e : counted t ≡ false) where
  abbrev here : Ends
  here = ends s r t

  closed : (output : List ℕ) (f : Endpoint → Result) → said (Err Refusal.Unsound) closed_endpoint output ≡ f closed_endpoint
      → Gives here here (Err Refusal.Unsound) output (f (endpoint_of here))
  closed output f q = gives_of here here (Err Refusal.Unsound) output f closed_endpoint (endpoint_of-not s r t e)
      (ap (λ (z : Endpoint). said (Err Refusal.Unsound) z output) (endpoint_of-not s r t e) ∙ q) (λ n u. refl) (λ n u. refl)

  pub closed-wire : (p output : List ℕ) → Gives here here (Err Refusal.Unsound) output (wire_of (endpoint_of here) p output)
  unfolding wire_of
  closed-wire p output = closed output (λ (z : Endpoint). wire_of z p output) (rw (send-closed p output))

  pub closed-ask : (q output : List ℕ)
      → Gives here here (Err Refusal.Unsound) output
      (requested_by (endpoint_of here) output (request_of (endpoint_of here).compressor q))
  closed-ask q output =
      closed output (λ (z : Endpoint). requested_by z output (request_of z.compressor q)) (rw (request-closed q))

  pub closed-rebuild : (kind : ℕ) (q output : List ℕ)
      → Gives here here (Err Refusal.Unsound) output
      (answered_by rebuilt (endpoint_of here) (receive_of (endpoint_of here).decompressor kind q output))
  closed-rebuild kind q output =
      closed output (λ (z : Endpoint). answered_by rebuilt z (receive_of z.decompressor kind q output))
      (rw (receive-closed kind q output))

  pub closed-report : (output : List ℕ) → Gives here here (Err Refusal.Unsound) output (report_of (endpoint_of here) output)
  unfolding report_of
  closed-report output = closed output (λ (z : Endpoint). report_of z output) (rw (report-closed output))

---- With them: t, t': the totals before and after

module _ (t t' : List ℕ) (e : counted t ≡ true) (e' : length t' ≡ 6) where
  module _ (s s' r : Lent) where
    moved : (o : Outcome) → totals_of t' ≡ tallied (totals_of t) (event_of o)
        → endpoint_of (ends s' r t')
        ≡ record { compressor = compressor_of s'; decompressor = decompressor_of r; totals = tallied (totals_of t) (event_of o) }
    moved o q = endpoint_of-counted s' r t' (eq-eqb _ _ e')
        ∙ (λ j. record { compressor = compressor_of s'; decompressor = decompressor_of r; totals = q j })

    pub wired : (o : CompressorOutcome) (p output output' : List ℕ) → totals_of t' ≡ tallied (totals_of t) (event_of (sent_of o))
        → CompressorGives s s' o output' (send_of (compressor_of s) p output)
        → Gives (ends s r t) (ends s' r t') (sent_of o) output' (wire_of (endpoint_of (ends s r t)) p output)
    unfolding wire_of
    wired o p output output' q g =
        gives_of (ends s r t) (ends s' r t') (sent_of o) output' (λ (z : Endpoint). wire_of z p output) (held s r t)
        (endpoint_of-counted s r t e)
        (ap (λ (z : Endpoint). said (sent_of o) z output') (moved (sent_of o) q)
        ∙ said-sent (held s r t) output' (compressor_of s') o (send_of (compressor_of s) p output) g.says)
        (λ n u. g.keeps n) (λ n u. refl)

    pub asked : (o : CompressorOutcome) (b output : List ℕ) → totals_of t' ≡ tallied (totals_of t) (event_of (requested_of o))
        → CompressorGives s s' o [] (request_of (compressor_of s) b)
        → Gives (ends s r t) (ends s' r t') (requested_of o) output
        (requested_by (endpoint_of (ends s r t)) output (request_of (endpoint_of (ends s r t)).compressor b))
    asked o b output q g =
        gives_of (ends s r t) (ends s' r t') (requested_of o) output
        (λ (z : Endpoint). requested_by z output (request_of z.compressor b)) (held s r t) (endpoint_of-counted s r t e)
        (ap (λ (z : Endpoint). said (requested_of o) z output) (moved (requested_of o) q)
        ∙ said-requested (held s r t) output (compressor_of s') o (request_of (compressor_of s) b) g.says)
        (λ n u. g.keeps n) (λ n u. refl)

  module _ (s r r' : Lent) where
    moved-receiver : (o : Outcome) → totals_of t' ≡ tallied (totals_of t) (event_of o)
        → endpoint_of (ends s r' t')
        ≡ record { compressor = compressor_of s; decompressor = decompressor_of r'; totals = tallied (totals_of t) (event_of o) }
    moved-receiver o q = endpoint_of-counted s r' t' (eq-eqb _ _ e')
        ∙ (λ j. record { compressor = compressor_of s; decompressor = decompressor_of r'; totals = q j })

    pub rebuilt-at : (o : DecompressorOutcome) (kind : ℕ) (b output output' : List ℕ)
        → totals_of t' ≡ tallied (totals_of t) (event_of (rebuilt_of o))
        → DecompressorGives r r' o output' (receive_of (decompressor_of r) kind b output)
        → Gives (ends s r t) (ends s r' t') (rebuilt_of o) output'
        (answered_by rebuilt (endpoint_of (ends s r t)) (receive_of (endpoint_of (ends s r t)).decompressor kind b output))
    rebuilt-at o kind b output output' q g =
        gives_of (ends s r t) (ends s r' t') (rebuilt_of o) output'
        (λ (z : Endpoint). answered_by rebuilt z (receive_of z.decompressor kind b output)) (held s r t) (endpoint_of-counted s r
        t e)
        (ap (λ (z : Endpoint). said (rebuilt_of o) z output') (moved-receiver (rebuilt_of o) q)
        ∙ said-rebuilt (held s r t) output' (decompressor_of r') o (receive_of (decompressor_of r) kind b output) g.says)
        (λ n u. refl) (λ n u. g.keeps n u)

    pub reported-at : r ≡ r' → (o : DecompressorOutcome) (output output' : List ℕ)
        → totals_of t' ≡ tallied (totals_of t) (event_of (reported_of o))
        → crtp.receiving.said o (decompressor_of r') output' ≡ crtp.report_of (decompressor_of r) output
        → Gives (ends s r t) (ends s r' t') (reported_of o) output' (report_of (endpoint_of (ends s r t)) output)
    unfolding report_of
    reported-at same o output output' q g =
        gives_of (ends s r t) (ends s r' t') (reported_of o) output' (λ (z : Endpoint). report_of z output) (held s r t)
        (endpoint_of-counted s r t e)
        (ap (λ (z : Endpoint). said (reported_of o) z output') (moved-receiver (reported_of o) q)
        ∙ said-reported (held s r t) output' (decompressor_of r') o (crtp.report_of (decompressor_of r) output) g)
        (λ n u. refl) (λ n u. sym same)

---- by type

module _ (e : Endpoint) (kind : ℕ) (b output : List ℕ) where
  pub radio-asked : kind ≡ 4 → requested_by e output (request_of e.compressor b) ≡ radio_of e kind b output
  unfolding radio_of
  radio-asked h = rw (eq-eqb kind 4 h)

  pub radio-rebuilt : (kind ≡ 4 → ⊥) → answered_by rebuilt e (receive_of e.decompressor kind b output) ≡ radio_of e kind b output
  unfolding radio_of
  radio-rebuilt h = rw (ne_eqb kind 4 h)
