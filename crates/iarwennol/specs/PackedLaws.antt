-- Iarwennol. Laws of answers in one number: what a call gave, in them. Assume nothing.
-- Used by the proofs of the exported calls.
use Rattle.std.specs.Prelude.{ℕ, ◌≡◌, refl, List}
use Rattle.std.proofs.Common.{sym, ap, ◌∙◌, add-zero}
use Rattle.crtp.specs.Face as crtp
use Rattle.crtp.specs.Face.{Lent, CompressorOutcome, DecompressorOutcome, CompressorGives, DecompressorGives, decompressor_of}
use Rattle.endpoint.specs.Answer.{Outcome}
use Rattle.endpoint.specs.Answer as endpoint
use Rattle.endpoint.specs.Lent.{Ends, Gives}
use Rattle.iarwennol.specs.Packed.{packed, sent_packed, given_packed, answer_packed, SentAs, GivenAs, AnsweredAs}

-- a refusal is its number
pub packed-refused : (n : ℕ) → n ≡ packed n 0 0
packed-refused n = sym (add-zero n)

pub sent-as : (before after : Lent) (o : CompressorOutcome) (r : ℕ) (output : List ℕ) (want : crtp.sending.Result)
    → r ≡ sent_packed o → CompressorGives before after o output want → SentAs before after r output want
sent-as before after o r output want e g = record {
  answer = e ∙ ap (λ (w : crtp.sending.Result). packed w.number w.kind w.length) g.says;
  gave = ap (λ (w : crtp.sending.Result). w.output) g.says;
  table = ap (λ (w : crtp.sending.Result). w.table) g.says;
  keeps = g.keeps;
}

pub given-as : (before after : Lent) (o : DecompressorOutcome) (r : ℕ) (output : List ℕ) (want : crtp.receiving.Result)
    → r ≡ given_packed o → DecompressorGives before after o output want → GivenAs before after r output want
given-as before after o r output want e g = record {
  answer = e ∙ ap (λ (w : crtp.receiving.Result). packed w.number 0 w.length) g.says;
  gave = ap (λ (w : crtp.receiving.Result). w.output) g.says;
  table = ap (λ (w : crtp.receiving.Result). w.table) g.says;
  keeps = g.keeps;
}

-- a call that is lent its table shared
pub told-as : (l : Lent) (o : DecompressorOutcome) (r : ℕ) (output : List ℕ) (want : crtp.receiving.Result)
    → r ≡ given_packed o → crtp.receiving.said o (decompressor_of l) output ≡ want → GivenAs l l r output want
told-as l o r output want e g = record {
  answer = e ∙ ap (λ (w : crtp.receiving.Result). packed w.number 0 w.length) g;
  gave = ap (λ (w : crtp.receiving.Result). w.output) g;
  table = ap (λ (w : crtp.receiving.Result). w.table) g;
  keeps = λ n q. refl;
}

pub answered-as : (before after : Ends) (o : Outcome) (r : ℕ) (output : List ℕ) (want : endpoint.Result)
    → r ≡ answer_packed o → Gives before after o output want → AnsweredAs before after r output want
answered-as before after o r output want e g = record {
  answer = e ∙ ap (λ (w : endpoint.Result). packed w.number w.kind w.length) g.says;
  gave = ap (λ (w : endpoint.Result). w.output) g.says;
  endpoint = ap (λ (w : endpoint.Result). w.endpoint) g.says;
  sender = g.sender;
  receiver = g.receiver;
}
