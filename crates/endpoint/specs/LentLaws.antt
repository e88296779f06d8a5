-- Iarwennol. Laws of an endpoint in slices. Assume nothing.
-- Used by the proofs of the calls.
use Rattle.std.specs.Prelude.{ℕ, ◌≡◌, refl, Bool, true, false, cond, ◌&&◌, List, []}
use Rattle.std.proofs.Common.{subst}
use Rattle.crtp.specs.Face.{Lent, compressor_of, decompressor_of, sized_compressor, sized_decompressor}
use Rattle.endpoint.specs.declared.answer.Endpoint.{Endpoint}
use Rattle.endpoint.specs.Answer.{Outcome}
use Rattle.endpoint.specs.Totals.{totals_of}
use Rattle.endpoint.specs.Answer.{Result, said}
use Rattle.endpoint.specs.Calls.{closed_endpoint, open_of}
use Rattle.endpoint.specs.Lent.{Ends, ends, counted, endpoint_of, Gives, open_lent}

---- endpoint_of

abbrev pub held : Lent → Lent → List ℕ → Endpoint
held s r t = record { compressor = compressor_of s; decompressor = decompressor_of r; totals = totals_of t }

chosen : (b c : Bool) (x y : Endpoint) → b ≡ c → cond b x y ≡ cond c x y
chosen b c x y e = rw e

pub endpoint_of-counted : (s r : Lent) (t : List ℕ) → counted t ≡ true → endpoint_of (ends s r t) ≡ held s r t
unfolding endpoint_of
endpoint_of-counted s r t e = chosen (counted t) true (held s r t) closed_endpoint e

pub endpoint_of-not : (s r : Lent) (t : List ℕ) → counted t ≡ false → endpoint_of (ends s r t) ≡ closed_endpoint
unfolding endpoint_of
endpoint_of-not s r t e = chosen (counted t) false (held s r t) closed_endpoint e

---- Gives, by what the slices stand for

module _ (x x' : Ends) (o : Outcome) (output : List ℕ) (f : Endpoint → Result) where
  abbrev Left : (Ends → Lent) → (e : Endpoint) → Type 0 → Type 0
  Left side e same = ((f e).number ≡ 0 → ⊥) → same → side x' ≡ side x

  gives_self : said o (endpoint_of x') output ≡ f (endpoint_of x)
      → Left (λ (y : Ends). y.sender) (endpoint_of x)
      ((f (endpoint_of x)).endpoint.compressor ≡ (endpoint_of x).compressor)
      → Left (λ (y : Ends). y.receiver) (endpoint_of x)
      ((f (endpoint_of x)).endpoint.decompressor ≡ (endpoint_of x).decompressor)
      → Gives x x' o output (f (endpoint_of x))
  gives_self a b c = record { says = a; sender = b; receiver = c }

  pub gives_of : (e : Endpoint) → endpoint_of x ≡ e → said o (endpoint_of x') output ≡ f e
      → (((f e).number ≡ 0 → ⊥) → (f e).endpoint.compressor ≡ e.compressor → x'.sender ≡ x.sender)
      → (((f e).number ≡ 0 → ⊥) → (f e).endpoint.decompressor ≡ e.decompressor → x'.receiver ≡ x.receiver)
      → Gives x x' o output (f (endpoint_of x))
  gives_of e q = subst
      (λ (z : Endpoint). said o (endpoint_of x') output ≡ f z
      → (((f z).number ≡ 0 → ⊥) → (f z).endpoint.compressor ≡ z.compressor → x'.sender ≡ x.sender)
      → (((f z).number ≡ 0 → ⊥) → (f z).endpoint.decompressor ≡ z.decompressor → x'.receiver ≡ x.receiver)
      → Gives x x' o output (f (endpoint_of x)))
      q gives_self

-- a call that touched no number
pub gives-kept : (x : Ends) (o : Outcome) (output : List ℕ) (want : Result) → said o (endpoint_of x) output ≡ want
    → Gives x x o output want
gives-kept x o output want e = record { says = e; sender = λ n q. refl; receiver = λ n q. refl }

-- the same by another name of what is wanted
pub gives-by : (x x' : Ends) (o : Outcome) (output : List ℕ) (want want' : Result) → want ≡ want'
    → Gives x x' o output want → Gives x x' o output want'
gives-by x x' o output want want' e g = subst (λ (w : Result). Gives x x' o output w) e g

---- open_lent

pub open_lent-sized : (x : Ends) (n k : ℕ)
    → (sized_compressor x.sender && sized_decompressor x.receiver && counted x.totals) ≡ true
    → open_lent x n k ≡ open_of (endpoint_of x) n k
unfolding open_lent
open_lent-sized x n k e = rw e

pub open_lent-not : (x : Ends) (n k : ℕ)
    → (sized_compressor x.sender && sized_decompressor x.receiver && counted x.totals) ≡ false
    → record { number = 1; kind = 0; length = 0; output = []; endpoint = endpoint_of x } ≡ open_lent x n k
unfolding open_lent
open_lent-not x n k e = rw e
