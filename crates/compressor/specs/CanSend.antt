-- Iarwennol. What a send on a context relies on when it writes.
-- Used by the contract of send_on; CanSendLaws has that every packet on a context of a sound table is so.
use Rattle.std.specs.Prelude.{ℕ, ◌≤◌, ◌<◌, List, length}
use Rattle.packet.specs.declared.header.Header.{Header}
use Rattle.headers.specs.Header.{header_size}
use Rattle.outgoing.specs.Size.{Writable}
use Rattle.compressor.specs.declared.table.Table.{Table}
use Rattle.compressor.specs.Answer.{Result}
use Rattle.compressor.specs.Table.{context_at}
use Rattle.compressor.specs.Send.{step_on, send_step}

-- a packet p with the header h that can go out on context i
pub record CanSend (t : Table) (i : ℕ) (p : List ℕ) (h : Header) : Type 0 where
  pub repeats : t.settings.repeats ≤ 14
  pub place : i < 64
  pub whole : header_size h ≤ length p
  pub most : length p ≤ 1500
  pub writable : Writable h (step_on t.settings.repeats h (context_at t i))

-- a send on context i of a packet with the header h
abbrev pub send_with : Table → (i : ℕ) → (p output : List ℕ) → Header → Result
send_with t i p output h = send_step t i p output h (step_on t.settings.repeats h (context_at t i))
