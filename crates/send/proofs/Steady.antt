-- Iarwennol. A steady packet goes out by the rules as the short way sends it. Assumes nothing.
-- Used by the proof of send_steady.
use Prim.Native.Nat.{ℕ, ◌+◌, ◌-◌, ◌≤◌, ◌<◌}
use mathlib.Core.Path.{◌≡◌, refl, sym, ap, ◌∙◌}
use mathlib.Core.Bool.{true, not, cond}
use mathlib.Core.List.{List}
use native.Mathlib.Omega.{arith}
use lib.ListN.{length, take, drop}
use Rattle.packet.specs.declared.header.Header.{Header}
use Rattle.octets.specs.Put.{Wrote}
use Rattle.headers.specs.Header.{header_size}
use Rattle.context.specs.Compressor.{parts_of, list_if}
use Rattle.compressor_steady.specs.Steady.{steady, steadied, steady_step}
use Rattle.context.specs.declared.compressor.Usage.{Usage}
use Rattle.context.specs.declared.compressor.CompressorContext.{CompressorContext}
use Rattle.compressor_steady.proofs.Rules.{Steady, steady-true, steady-step}
use Rattle.outgoing.specs.Outgoing.{step_by, step_on, link_bytes}
use Rattle.outgoing.specs.Size.{link_size, Writable}
use Rattle.compressor.specs.Table.{context_at, with_context}
use Rattle.compressor.specs.CanSend.{CanSend, send_with}
use Rattle.planes.specs.Planes.{Lent}
use Rattle.compressor_table.specs.Layout.{context_in, table_of, Fits, Puts}
use Rattle.compressor_table.specs.LayoutLaws.{table_of-at}
use Rattle.compressor_steady.specs.Unlisted.{Unlisted}
use Rattle.compressor_steady.proofs.Written.{two-most}
use Rattle.send.proofs.Sending.{past-link, send_with-written}

---- The step

step_on-steady : (n : ℕ) (x : Header) (c : CompressorContext) → Steady x c → x.csrc ≡ c.csrc → steady_step x c ≡ step_on n x c
unfolding step_on
step_on-steady n x c s l = sym (ap (λ (u : Usage). step_by u n x c) s.live ∙ steady-step n x c s l)

-- the same of a context of a table, which c is
at_table : (n : ℕ) (x : Header) (c d : CompressorContext) → c ≡ d → Steady x c → (x.csrc ≡ d.csrc) → steady_step x c ≡ step_on n x d
at_table n x c d e s l = step_on-steady n x c s (l ∙ ap (λ (k : CompressorContext). k.csrc) (sym e)) ∙ ap (step_on n x) e

---- Its size

-- two bytes, and two more where the UDP checksum is carried
size-steady : (x : Header) (c : CompressorContext) → link_size x (steady_step x c) ≡ 2 + cond (not c.blank) 2 0
unfolding link_size steadied parts_of list_if
size-steady x c = omega arith

---- On a table that is lent

module _ (l : Lent) (i : ℕ) (p : List ℕ) (x : Header) (c : CompressorContext) (f : Fits l) (k : CanSend (table_of l) i p x)
    (u : Unlisted (table_of l) i x) (e : c ≡ context_in l.words l.shorts l.bytes i) (t : steady x c ≡ true) where
  here : c ≡ context_at (table_of l) i
  here = e ∙ sym (table_of-at l i f k.place)

  told : Steady x c
  told = steady-true x c t

  step-steady : steady_step x c ≡ step_on (table_of l).settings.repeats x (context_at (table_of l) i)
  step-steady =
      at_table (table_of l).settings.repeats x c (context_at (table_of l) i) here told
      (u (ap (λ (d : CompressorContext). d.status) (sym here) ∙ told.live) told.unlisted
      (ap (λ (d : CompressorContext). d.csrc.count) (sym here) ∙ told.empty))

  writable-steady : Writable x (steady_step x c)
  writable-steady = rw step-steady k.writable

  pub link-steady : c.link.sequence < 16
  link-steady = writable-steady.sequence

  -- start: where the rest of the packet begins
  module _ (start : ℕ) (g : start ≡ header_size x) where
    pub room-steady : link_size x (steady_step x c) + (length p - start) ≤ length p
    room-steady = omega (arith, size-steady x c, two-most (not c.blank), k.whole, g)

    pub past-steady : {output between : List ℕ} {past : ℕ}
        → Wrote output between 0 past (link_bytes i (length p) x (steady_step x c)) → past ≡ link_size x (steady_step x c)
    past-steady {output} w =
        past-link (table_of l) i p output x (steady_step x c) writable-steady (link_size x (steady_step x c)) start refl g w

    pub sent-steady : {output between output' : List ℕ} {past n : ℕ} → length p ≤ length output
        → Wrote output between 0 past (link_bytes i (length p) x (steady_step x c))
        → Wrote between output' past n (take (length p - start) (drop start p))
        → record { number = 0; kind = 3; length = n; output = output'; table = with_context (table_of l) i (steadied x c) }
        ≡ send_with (table_of l) i p output x
    sent-steady {output} m w v =
        send_with-written (table_of l) i p output x (steady_step x c) writable-steady (link_size x (steady_step x c)) start refl g
        step-steady 3 refl (omega (arith, m, room-steady)) w v

  -- what was stored of the numbers in the slices is the context that was read, moved on
  pub stored-steady : {after : Lent} → Puts l i (steadied x (context_in l.words l.shorts l.bytes i)) after
      → Puts l i (steadied x c) after
  stored-steady q = rw e q
