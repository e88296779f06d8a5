-- Iarwennol. A full header that is accepted relates the two tables at its context, whatever the decompressor's contexts hold: a
-- sound table of the same settings is enough. Assumes nothing.
-- A law of its own: the theorem starts from openings and does not need it; a decompressor of unknown past comes into step by it.
use Prim.Native.Nat.{ℕ, ◌≤◌}
use mathlib.Core.Path.{◌≡◌}
use mathlib.Core.Bool.{true}
use mathlib.Core.List.{List}
use mathlib.Core.Option.{some}
use native.Mathlib.Omega.{arith}
use native.Mathlib.Decide.{dec_le}
use lib.ListN.{length}
use Rattle.settings.specs.declared.Settings.{Settings}
use Rattle.compressor.specs.declared.table.Table as compressor
use Rattle.compressor.specs.Send.{send_of}
use Rattle.compressor.proofs.SendLaws.{On, table_at, kind_at, bytes_at}
use Rattle.decompressor.specs.declared.table.Table as decompressor
use Rattle.decompressor.specs.Receive.{receive_of}
use Rattle.calls.specs.Calls as calls
use Rattle.crtp.specs.Robust.{Bytes, checksum_fits}
use Rattle.crtp.proofs.Lists.{Frame, frame_of, frame_context}
use Rattle.crtp.proofs.Tables.{SenderFit, ReceiverFit, RelatedAt, Rel, sender-send}
use Rattle.crtp.proofs.Given.{gave, gave-here}
use Rattle.crtp.proofs.OneContext.{Accepts, accepts-full, here-taken, here-lacks}
use Rattle.crtp.proofs.Laws.{received}

module _ (s : Settings) (t : compressor.Table) (sender : SenderFit s t) (d : decompressor.Table) (receiver : ReceiverFit s d)
    (p : Bytes) (c : ℕ) where
  module _ (on : On t p.list c) (full : kind_at t p.list c ≡ 1) (output : List ℕ)
      (accepted : (receive_of d (kind_at t p.list c) (bytes_at t p.list c) output).number ≡ 0) where
    accepts : Accepts s t sender d receiver p c on 0 t.settings
    accepts = accepts-full s t sender d receiver p c on full

    -- it is no guess, so its checksum is not looked at
    unasked : 1 ≤ 0 → checksum_fits p.list ≡ true
    unasked h = absurd (omega arith)

    -- accepted, it had room
    roomy : Dec (length p.list ≤ length output) → length p.list ≤ length output
    roomy (yes h) = h
    roomy (no h) = absurd (omega (arith, accepted, here-lacks s t sender d receiver p c on 0 accepts unasked output (omega arith)))

    filled : RelatedAt c 0 (receive_of d (kind_at t p.list c) (bytes_at t p.list c) output).table (table_at t p.list c)
    filled = here-taken s t sender d receiver p c on 0 accepts unasked output (roomy (dec_le (length p.list) (length output)))

  -- l: what the send gave out, of type 1 and on context c; output': that of its arrival
  pub full-relates : (output : Bytes) (l : Frame) → frame_of (send_of t p.list output.list) ≡ some l → l.kind ≡ 1
      → calls.is_on (frame_context l) c ≡ true → (output' : Bytes) → (receive_of d l.kind l.bytes output'.list).number ≡ 0
      → Rel s c 0 (receive_of d l.kind l.bytes output'.list).table (send_of t p.list output.list).table
  full-relates output l gives full on output' accepted = record {
    sender = sender-send s t sender p output;
    receiver = received s t p output l gives d sender receiver output';
    related = gave-here s t sender p c
        (λ f x. f.kind ≡ 1 → (receive_of d f.kind f.bytes output'.list).number ≡ 0
        → RelatedAt c 0 (receive_of d f.kind f.bytes output'.list).table x)
        (λ o e z. filled o e output'.list z) l _ (gave t p.list output.list l gives) on full accepted;
  }
