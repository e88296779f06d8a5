-- Iarwennol. Which context a packet takes (rule 5.4).
-- Used by the send.
use Rattle.std.specs.Prelude.{ℕ, zero, suc, ◌+◌, Bool, cond, not, ◌&&◌, List, eqb, get_or}
use Rattle.std.specs.Prelude.{Option, Some, None}
use Rattle.packet.specs.declared.header.Flow.{Flow}
use Rattle.context.specs.declared.compressor.CompressorContext.{CompressorContext}
use Rattle.compressor.specs.declared.table.Table.{Table}
use Rattle.compressor.specs.Table.{is_empty, no_context}

-- rule 5.4: both addresses, both ports, SSRC
abbrev pub same_flow : Flow → Flow → Bool
same_flow a b =
    eqb a.source b.source
    && eqb a.destination b.destination
    && eqb a.sport b.sport
    && eqb a.dport b.dport
    && eqb a.ssrc b.ssrc

-- rule 5.4: a live context of this flow
abbrev pub is_of : Flow → CompressorContext → Bool
is_of f c = not (is_empty c) && same_flow f c.flow

-- the lowest place from i on, of so many, whose context passes a test
abbrev pub lowest : (CompressorContext → Bool) → List CompressorContext → (i left : ℕ) → Option ℕ
lowest p cs i zero = None
lowest p cs i (suc left) = cond (p (get_or cs i no_context)) (Some i) (lowest p cs (i + 1) left)

abbrev pub or_else : Option ℕ → Option ℕ → Option ℕ
or_else (Some i) other = Some i
or_else None other = other

-- rule 5.4: the lowest context of the flow, else the lowest empty one, among those that the settings give
unfoldable pub place_of : Table → Flow → Option ℕ
place_of t f = or_else (lowest (is_of f) t.contexts 0 t.settings.contexts)
    (lowest is_empty t.contexts 0 t.settings.contexts)
