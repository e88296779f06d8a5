-- Iarwennol. What a send on a context has done where its calls did what they ensure. Assumes nothing.
-- Used by the proof of send_on.
use Prim.Native.Nat.{ℕ, ◌+◌, ◌-◌, ◌≤◌, ◌<◌}
use mathlib.Core.Path.{◌≡◌, sym, ap, ◌∙◌}
use mathlib.Core.List.{List}
use native.Mathlib.Omega.{arith}
use lib.ListN.{length, get_or, take, drop}
use Rattle.packet.specs.declared.header.Header.{Header}
use Rattle.octets.specs.Put.{Wrote}
use Rattle.octets.specs.PutLaws.{wrote_then}
use Rattle.headers.specs.Header.{header_size}
use Rattle.context.specs.Compressor.{Going}
use Rattle.context.specs.declared.compressor.CompressorContext.{CompressorContext}
use Rattle.planes.specs.Planes.{Lent}
use Rattle.compressor_table.specs.Layout.{context_in, table_of, Fits, Puts}
use Rattle.compressor_table.specs.LayoutLaws.{table_of-repeats, table_of-at}
use Rattle.compressor_table.specs.Calls.{Gives}
use Rattle.compressor_table.specs.CallsLaws.{gives-accepted}
use Rattle.compressor.specs.declared.table.Table.{Table}
use Rattle.std.specs.Prelude.{Ok}
use Rattle.compressor.specs.Answer.{Result, refused, said}
use Rattle.compressor.proofs.AnswerLaws.{delivered-refused, delivered-written}
use Rattle.compressor.specs.Table.{context_at, with_context}
use Rattle.compressor.specs.Send.{step_on, link_bytes, sent_bytes, send_step}
use Rattle.context.proofs.Arrays.{part-rest}
use Rattle.outgoing.specs.Size.{link_size, Writable}
use Rattle.outgoing.specs.SizeLaws.{length-link_bytes}
use Rattle.compressor.specs.CanSend.{send_with}
use Rattle.compressor.proofs.SentLaws.{length-sent_bytes}

-- a: the step; size, start: the bytes that go out before the rest of the packet, and the place where that begins
module _ (t : Table) (i : ℕ) (p output : List ℕ) (h : Header) (a : Going) (w : Writable h a) (size start : ℕ)
    (e : size ≡ link_size h a) (f : start ≡ header_size h) where
  all-sent : length (sent_bytes i p h a) ≡ size + (length p - start)
  all-sent = rw (e, f) (length-sent_bytes i p h a w)

  step-refused : length output < size + (length p - start) → refused t 11 output ≡ send_step t i p output h a
  step-refused l = delivered-refused t (with_context t i a.context) a.kind (sent_bytes i p h a) output
      (omega (arith, all-sent, l))

  wrote-sent : {between output' : List ℕ} {past n : ℕ} → Wrote output between 0 past (link_bytes i (length p) h a)
      → Wrote between output' past n (take (length p - start) (drop start p)) → Wrote output output' 0 n (sent_bytes i p h a)
  wrote-sent x y = wrote_then x (rw (part-rest p start, f) at y)

  step-written : {between output' : List ℕ} {past n : ℕ} → size + (length p - start) ≤ length output
      → Wrote output between 0 past (link_bytes i (length p) h a)
      → Wrote between output' past n (take (length p - start) (drop start p))
      → record { number = 0; kind = a.kind; length = n; output = output'; table = with_context t i a.context }
      ≡ send_step t i p output h a
  step-written l x y = delivered-written t (with_context t i a.context) a.kind (wrote-sent x y)
      (omega (arith, all-sent, l))

  -- where the rest of the packet goes
  pub past-link : {between : List ℕ} {past : ℕ} → Wrote output between 0 past (link_bytes i (length p) h a) → past ≡ size
  past-link x = omega (arith, x.ends, e, length-link_bytes i (length p) h a w)

  module _ (q : a ≡ step_on t.settings.repeats h (context_at t i)) where
    pub send_with-refused : length output < size + (length p - start) → refused t 11 output ≡ send_with t i p output h
    send_with-refused l = step-refused l ∙ ap (λ (x : Going). send_step t i p output h x) q

    pub send_with-written : (k : ℕ) {between output' : List ℕ} {past n : ℕ} → k ≡ a.kind
        → size + (length p - start) ≤ length output
        → Wrote output between 0 past (link_bytes i (length p) h a)
        → Wrote between output' past n (take (length p - start) (drop start p))
        → record { number = 0; kind = k; length = n; output = output'; table = with_context t i a.context }
        ≡ send_with t i p output h
    send_with-written k z l x y = rw z (step-written l x y) ∙ ap (λ (x : Going). send_step t i p output h x) q

---- On a table that is lent

-- the step that was made of the numbers read is that of the table
pub step-here : (l : Lent) (i : ℕ) (x : Header) (c : CompressorContext) (a : Going) → Fits l → i < 64
    → c ≡ context_in l.words l.shorts l.bytes i → a ≡ step_on (get_or l.bytes 1280 0) x c
    → a ≡ step_on (table_of l).settings.repeats x (context_at (table_of l) i)
step-here l i x c a f s e q =
    q ∙ (λ j. step_on (sym (table_of-repeats l f) j) x ((e ∙ sym (table_of-at l i f s)) j))

-- a packet that went out, and the context that it left
pub gives-sent : (l after : Lent) (i k n : ℕ) (c : CompressorContext) (output : List ℕ) (want : Result) → Puts l i c after
    → record { number = 0; kind = k; length = n; output = output; table = with_context (table_of l) i c } ≡ want
    → Gives l after (Ok (k, n)) output want
gives-sent l after i k n c output want p e =
    gives-accepted l after k n output want (ap (λ (t : Table). said (Ok (k, n)) t output) p.table ∙ e)
