-- Iarwennol. What the short way of a send relies on beside what every send on a context does.
-- Used by the contract of send_on; proofs/Unlisted has that every table that is lent and sound is so.
use Rattle.std.specs.Prelude.{ℕ, ◌≡◌}
use Rattle.packet.specs.declared.header.Header.{Header}
use Rattle.context.specs.declared.compressor.Usage.TheVariants.{Live}
use Rattle.compressor.specs.declared.table.Table.{Table}
use Rattle.compressor.specs.Table.{context_at}

-- where neither a header nor the context at place i, which is live, has a CSRC list, the fifteen words are the same too
abbrev pub Unlisted : Table → (i : ℕ) → Header → Type 0
Unlisted t i h = (context_at t i).status ≡ Live → h.csrc.count ≡ 0 → (context_at t i).csrc.count ≡ 0 → h.csrc
    ≡ (context_at t i).csrc
