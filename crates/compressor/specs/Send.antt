-- Iarwennol. A send (rules 3.2, 5.3 to 5.5, 8): what the compressor makes of a packet.
-- Used by the contract of send, and by the theorem on lists of calls (crtp), which is about this very definition.
use Rattle.std.specs.Prelude.{ℕ, cond, List, ◌++◌, length, drop}
use Rattle.std.specs.Prelude.{Option, Some, None}
use Rattle.codes.specs.Numbers.{unsound, bad_length}
use Rattle.packet.specs.Types.{plain}
use Rattle.packet.specs.declared.header.Header.{Header}
use Rattle.headers.specs.Header.{header_of, header_size}
use Rattle.headers.specs.Compressible.{compressible}
use Rattle.settings.specs.Settings.{length_allowed}
use Rattle.context.specs.Compressor.{Going}
pub use Rattle.outgoing.specs.Outgoing.{step_by, link_by}
unfoldable pub use Rattle.outgoing.specs.Outgoing.{step_on, link_bytes}
use Rattle.compressor.specs.declared.table.Table.{Table}
use Rattle.compressor.specs.Answer.{Result, refused, delivered}
use Rattle.compressor.specs.Table.{context_at, with_context, sound_of}
use Rattle.compressor.specs.Lookup.{place_of}

---- On a context

-- rule 5.5: what followed the CSRC list goes out as it came
abbrev pub sent_bytes : ℕ → List ℕ → Header → Going → List ℕ
sent_bytes i p h a = link_bytes i (length p) h a ++ drop (header_size h) p

-- rules 1.1, 3.1: the link type goes with the bytes; without room the context stays
abbrev pub send_step : Table → (i : ℕ) → (p output : List ℕ) → Header → Going → Result
send_step t i p output h a = delivered t (with_context t i a.context) a.kind (sent_bytes i p h a) output

-- rules 5.5, 8: a compressible packet on the context at place i
unfoldable pub send_at : Table → (i : ℕ) → (p output : List ℕ) → Result
send_at t i p output = send_step t i p output (header_of p) (step_on t.settings.repeats (header_of p) (context_at t i))

---- Plain, or on the context of its flow

-- rule 5.3: plain, and no context changes
abbrev pub send_plain : Table → (p output : List ℕ) → Result
send_plain t p output = delivered t t plain p output

-- rule 5.4: plain too where no context is left
abbrev pub send_to : Option ℕ → Table → (p output : List ℕ) → Result
send_to (Some i) t p output = send_at t i p output
send_to None t p output = send_plain t p output

-- rule 3.2: 1, 2, 11
unfoldable pub send_of : Table → (p output : List ℕ) → Result
send_of t p output =
    cond (sound_of t)
    (cond (length_allowed (length p))
    (cond (compressible p) (send_to (place_of t (header_of p).flow) t p output) (send_plain t p output))
    (refused t bad_length output))
    (refused t unsound output)
