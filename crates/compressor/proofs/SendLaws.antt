-- Iarwennol. Laws of a send: the ways that it can go, and what it leaves. Assume nothing.
-- Used by the theorem on lists of calls (crtp).
use Rattle.std.specs.Prelude.{ℕ, ◌≤◌, ◌<◌, ◌≡◌, Bool, true, false, cond, not, ◌&&◌, List, leb, ltb, length}
use Rattle.std.proofs.Math.Path.{refl}
use Rattle.std.proofs.Common.{◌∙◌, arith, leb-true, eqb-true}
use Rattle.std.proofs.Math.Bool.{and-eq-true_iff}
use Rattle.std.specs.Prelude.{Option, Some, None}
use Rattle.packet.specs.declared.header.Flow.{Flow}
use Rattle.headers.specs.Header.{header_of}
use Rattle.headers.specs.Compressible as headers
use Rattle.context.specs.declared.compressor.Usage.{Usage}
use Rattle.context.specs.declared.compressor.Usage.TheVariants.{Empty, Live}
use Rattle.context.specs.Compressor.{Going}
use Rattle.compressor.specs.declared.table.Table.{Table}
use Rattle.compressor.specs.Answer.{Result, accepted, refused, delivered}
use Rattle.compressor.specs.Table.{context_at, with_context, is_empty, empty_by, sound_of}
use Rattle.compressor.specs.Lookup.{same_flow, is_of, lowest, or_else, place_of}
use Rattle.compressor.proofs.LookupLaws.{lowest-found}
use Rattle.compressor.specs.Send.{step_on, sent_bytes, send_at, send_plain, send_to, send_of}

---- place_of

-- a packet's context is one that the settings give, and where it is in use it is of the packet's flow
pub record Place (t : Table) (f : Flow) (i : ℕ) : Type 0 where
  pub among : i < t.settings.contexts
  pub flow : (context_at t i).status ≡ Live → f ≡ (context_at t i).flow

same_flow-true : (a b : Flow) → same_flow a b ≡ true → a ≡ b
same_flow-true a b e =
    let p4 = (and-eq-true_iff _ _).0 e in
    let p3 = (and-eq-true_iff _ _).0 p4.0 in
    let p2 = (and-eq-true_iff _ _).0 p3.0 in
    let p1 = (and-eq-true_iff _ _).0 p2.0 in
    λ i. record {
      source = eqb-true a.source b.source p1.0 i;
      destination = eqb-true a.destination b.destination p1.1 i;
      sport = eqb-true a.sport b.sport p2.1 i;
      dport = eqb-true a.dport b.dport p3.1 i;
      ssrc = eqb-true a.ssrc b.ssrc p4.1 i;
    }

module _ (t : Table) (f : Flow) (i : ℕ) where
  place-of : lowest (is_of f) t.contexts 0 t.settings.contexts ≡ Some i → Place t f i
  place-of e =
      let r = lowest-found (is_of f) t.contexts 0 t.settings.contexts i e in
      let b = (and-eq-true_iff (not (is_empty (context_at t i))) (same_flow f (context_at t i).flow)).0 r.1 in
      record { among = omega arith; flow = λ live. same_flow-true f (context_at t i).flow b.1 }

  live-empty : (u : Usage) → u ≡ Live → empty_by u ≡ true → ⊥
  live-empty Empty q e = let z : ◌≡◌ {A = ℕ} 0 1 = cc in omega arith
  live-empty Live q e = let z : ◌≡◌ {A = ℕ} 0 1 = cc in omega arith

  place-empty : lowest is_empty t.contexts 0 t.settings.contexts ≡ Some i → Place t f i
  place-empty e =
      let r = lowest-found is_empty t.contexts 0 t.settings.contexts i e in
      record { among = omega arith; flow = λ live. absurd (live-empty (context_at t i).status live r.1) }

  place-either : (a b : Option ℕ) → lowest (is_of f) t.contexts 0 t.settings.contexts ≡ a
      → lowest is_empty t.contexts 0 t.settings.contexts ≡ b → or_else a b ≡ Some i → Place t f i
  place-either (Some k) b p q e = place-of (p ∙ e)
  place-either None b p q e = place-empty (q ∙ e)

  pub place_of-found : place_of t f ≡ Some i → Place t f i
  unfolding place_of
  place_of-found e = place-either (lowest (is_of f) t.contexts 0 t.settings.contexts) _ refl refl e

---- send_of

-- a packet that goes out on a context
pub record On (t : Table) (p : List ℕ) (i : ℕ) : Type 0 where
  pub sound : sound_of t ≡ true
  pub compressible : headers.compressible p ≡ true
  pub most : length p ≤ 1500
  pub place : Place t (header_of p).flow i

-- its step on context i, the table that this leaves, the type and the bytes that go out
abbrev pub step_at : Table → List ℕ → ℕ → Going
step_at t p i = step_on t.settings.repeats (header_of p) (context_at t i)

abbrev pub table_at : Table → List ℕ → ℕ → Table
table_at t p i = with_context t i (step_at t p i).context

abbrev pub kind_at : Table → List ℕ → ℕ → ℕ
kind_at t p i = (step_at t p i).kind

abbrev pub bytes_at : Table → List ℕ → ℕ → List ℕ
bytes_at t p i = sent_bytes i p (header_of p) (step_at t p i)

abbrev pub sent_on : Table → (p output : List ℕ) → ℕ → Result
sent_on t p output i = accepted (table_at t p i) (kind_at t p i) (bytes_at t p i) output

-- the ways that a send can go
pub data Goes (t : Table) (p output : List ℕ) : Result → Type 0 where
  goes-refused : (n : ℕ) → 1 ≤ n → Goes t p output (refused t n output)
  goes-plain : sound_of t ≡ true → 1 ≤ length p → length p ≤ 1500 → Goes t p output (accepted t 0 p output)
  goes_on : (i : ℕ) → On t p i → Goes t p output (sent_on t p output i)

module _ (t : Table) (p output : List ℕ) where
  goes-delivered : (after : Table) (kind : ℕ) (bytes : List ℕ) → Goes t p output (accepted after kind bytes output)
      → Goes t p output (delivered t after kind bytes output)
  goes-delivered after kind bytes g = by (ltb (length output) (length bytes))
    where
      by : (b : Bool) → Goes t p output (cond b (refused t 11 output) (accepted after kind bytes output))
      by true = goes-refused 11 (omega arith)
      by false = g

  goes_at : (i : ℕ) → On t p i → Goes t p output (send_at t i p output)
  unfolding send_at
  goes_at i o = goes-delivered (table_at t p i) (kind_at t p i) (bytes_at t p i) (goes_on i o)

  module _ (sound : sound_of t ≡ true) (least : 1 ≤ length p) (most : length p ≤ 1500) where
    goes-unchanged : Goes t p output (send_plain t p output)
    goes-unchanged = goes-delivered t 0 p (goes-plain sound least most)

    goes_to : headers.compressible p ≡ true → (x : Option ℕ) → place_of t (header_of p).flow ≡ x
        → Goes t p output (send_to x t p output)
    goes_to e (Some i) q =
        goes_at i (record { sound = sound; compressible = e; most = most; place = place_of-found t (header_of p).flow i q })
    goes_to e None q = goes-unchanged

    goes_by : (b : Bool) → headers.compressible p ≡ b
        → Goes t p output (cond b (send_to (place_of t (header_of p).flow) t p output) (send_plain t p output))
    goes_by true e = goes_to e (place_of t (header_of p).flow) refl
    goes_by false e = goes-unchanged

  goes-sized : (s a b : Bool) → sound_of t ≡ s → leb 1 (length p) ≡ a → leb (length p) 1500 ≡ b → Goes t p output
      (cond s
      (cond (a && b)
      (cond (headers.compressible p) (send_to (place_of t (header_of p).flow) t p output) (send_plain t p output))
      (refused t 2 output))
      (refused t 1 output))
  goes-sized false a b e x y = goes-refused 1 (omega arith)
  goes-sized true true true e x y = goes_by e (leb-true _ _ x) (leb-true _ _ y) (headers.compressible p) refl
  goes-sized true true false e x y = goes-refused 2 (omega arith)
  goes-sized true false b e x y = goes-refused 2 (omega arith)

  pub send_of-goes : Goes t p output (send_of t p output)
  unfolding send_of
  send_of-goes = goes-sized (sound_of t) (leb 1 (length p)) (leb (length p) 1500) refl refl refl
