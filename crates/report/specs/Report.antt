-- Iarwennol. The context-state report (rules 6.6, 9.1).
-- Used by the contract of report.
use Rattle.std.specs.Prelude.{ℕ, suc, Bool, true, false, cond, List, [], ◌∷◌}
use Rattle.codes.specs.Numbers.{unsound}
use Rattle.links.specs.Cs.{State, cs_bytes}
use Rattle.context.specs.declared.decompressor.Status.{Status}
use Rattle.context.specs.declared.decompressor.Status.TheVariants.{Empty, Live, Broken}
use Rattle.context.specs.declared.decompressor.DecompressorContext.{DecompressorContext}
use Rattle.decompressor.specs.declared.table.Table.{Table}
use Rattle.decompressor.specs.Answer.{Result, refused, delivered}
use Rattle.decompressor.specs.Table.{sound_of}

abbrev pub broken_by : Status → Bool
broken_by Empty = false
broken_by Live = false
broken_by Broken = true

-- rule 9.1
abbrev pub is_broken : DecompressorContext → Bool
is_broken c = broken_by c.status

-- rule 9.1: what is said of a broken context. One that was never filled holds 0 for link sequence and generation (rule 2.4)
abbrev pub state_of : ℕ → DecompressorContext → State
state_of i c = record { context = i; link = c.link.sequence; generation = c.link.generation }

-- what is said of one context: nothing, where it is not broken
abbrev pub states_of : ℕ → DecompressorContext → List State
states_of i c = cond (is_broken c) (state_of i c ∷ []) []

-- rule 9.1: of every broken one, the lowest first; i: the first one's number
abbrev pub states_from : ℕ → List DecompressorContext → List State
states_from i [] = []
states_from i (c ∷ cs) = cond (is_broken c) (state_of i c ∷ states_from (suc i) cs) (states_from (suc i) cs)

-- rule 9.1: with none broken there is nothing to report
abbrev pub report_on : List State → List ℕ
report_on [] = []
report_on (r ∷ rs) = cs_bytes (r ∷ rs)

-- rule 9.1
abbrev pub report_bytes : Table → List ℕ
report_bytes t = report_on (states_from 0 t.contexts)

-- rule 9.1: refused with 1, 11; the table stays
unfoldable pub report_of : Table → (output : List ℕ) → Result
report_of t output = cond (sound_of t) (delivered t t (report_bytes t) output) (refused t unsound output)
