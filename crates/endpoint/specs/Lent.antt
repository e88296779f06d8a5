-- Iarwennol. An endpoint in the caller's memory: which endpoint slices stand for, and what a call on them does (rules 3.1, 13.1).
-- Used by the contract of every call of an endpoint.
use Rattle.std.specs.Prelude.{ℕ, ◌≡◌, Bool, cond, ◌&&◌, List, [], eqb, length}
use Rattle.crtp.specs.Face.{Lent, compressor_of, decompressor_of, sized_compressor, sized_decompressor, unsound, request_of}
use Rattle.endpoint.specs.declared.answer.Endpoint.{Endpoint}
use Rattle.endpoint.specs.Answer.{Outcome}
use Rattle.endpoint.specs.Totals.{totals_of}
use Rattle.endpoint.specs.Answer.{Result, said}
use Rattle.endpoint.specs.Calls.{closed_endpoint, open_of, requested_by}

-- three slices for each table, and one for the totals
pub record Ends : Type 0 where
  pub sender : Lent
  pub receiver : Lent
  pub totals : List ℕ

abbrev pub ends : Lent → Lent → List ℕ → Ends
ends s r t = record { sender = s; receiver = r; totals = t }

-- there are six totals
abbrev pub counted : List ℕ → Bool
counted t = eqb (length t) 6

-- slices without six totals hold no endpoint: they stand for one that is not open
unfoldable pub endpoint_of : Ends → Endpoint
endpoint_of x =
    cond (counted x.totals)
    (record { compressor = compressor_of x.sender; decompressor = decompressor_of x.receiver; totals = totals_of x.totals })
    closed_endpoint

-- rules 3.1, 13.3: the answer, the output and the endpoint that the slices hold afterwards are those of a definition; a refused
-- call that leaves a table leaves every number of its slices
pub record Gives (before after : Ends) (o : Outcome) (output : List ℕ) (want : Result) : Type 0 where
  pub says : said o (endpoint_of after) output ≡ want
  pub sender : (want.number ≡ 0 → ⊥) → want.endpoint.compressor ≡ (endpoint_of before).compressor → after.sender ≡ before.sender
  pub receiver :
      (want.number ≡ 0 → ⊥) → want.endpoint.decompressor ≡ (endpoint_of before).decompressor → after.receiver ≡ before.receiver

-- rule 13.1: an opening needs slices of the right lengths, whatever they hold
unfoldable pub open_lent : Ends → (n k : ℕ) → Result
open_lent x n k =
    cond (sized_compressor x.sender && sized_decompressor x.receiver && counted x.totals) (open_of (endpoint_of x) n k)
    (record { number = unsound; kind = 0; length = 0; output = []; endpoint = endpoint_of x })

-- a call that is handed one end: whatever the other holds
abbrev pub SenderGives : (before after : Lent) → (totals totals' : List ℕ) → Outcome → List ℕ → (Endpoint → Result) → Type 0
SenderGives before after totals totals' o output f =
    (r : Lent) → Gives (ends before r totals) (ends after r totals') o output (f (endpoint_of (ends before r totals)))

abbrev pub ReceiverGives : (before after : Lent) → (totals totals' : List ℕ) → Outcome → List ℕ → (Endpoint → Result) → Type 0
ReceiverGives before after totals totals' o output f =
    (s : Lent) → Gives (ends s before totals) (ends s after totals') o output (f (endpoint_of (ends s before totals)))

-- a request gives nothing out: whatever the output
abbrev pub Asks : (before after : Lent) → (totals totals' : List ℕ) → Outcome → (s : List ℕ) → Type 0
Asks before after totals totals' o s =
    (output : List ℕ)
    → SenderGives before after totals totals' o output (λ (e : Endpoint). requested_by e output (request_of e.compressor s))
