-- Iarwennol. A context-state request at the compressor (rules 9.2 to 9.5).
-- Used by the contract of request, and by the theorem on lists of calls (crtp).
use Rattle.std.specs.Prelude.{ℕ, zero, suc, Bool, cond, List, [], eqb, get_or, set}
use Rattle.codes.specs.Numbers.{unsound}
use Rattle.links.specs.Cs.{request_judged, record_count, record_context, record_asks}
use Rattle.context.specs.Compressor.{requested}
use Rattle.context.specs.declared.compressor.CompressorContext.{CompressorContext}
use Rattle.compressor.specs.declared.table.Table.{Table}
use Rattle.compressor.specs.Answer.{Result, accepted, refused}
use Rattle.compressor.specs.Table.{no_context, sound_of}

-- rules 9.4, 9.5: one record: its context starts a run, unless the top bit is 0
abbrev pub asked : (n : ℕ) → Bool → (i : ℕ) → List CompressorContext → List CompressorContext
asked n asks i cs = cond asks (set cs i (requested n (get_or cs i no_context))) cs

-- rules 9.4, 9.5: the first so many records, one after another
abbrev pub asked_all : (n : ℕ) → List ℕ → List CompressorContext → (records : ℕ) → List CompressorContext
asked_all n s cs zero = cs
asked_all n s cs (suc i) = asked n (record_asks s i) (record_context s i) (asked_all n s cs i)

-- rules 9.4, 9.5: the table after all records
abbrev pub request_table : Table → List ℕ → Table
request_table t s = record { settings = t.settings; contexts = asked_all t.settings.repeats s t.contexts (record_count s) }

-- rule 9.3: an accepted request gives nothing out, a refused one leaves the table; number: how it is judged
abbrev pub request_by : (number : ℕ) → Table → List ℕ → Result
request_by number t s = cond (eqb number 0) (accepted (request_table t s) 0 [] []) (refused t number [])

-- rule 9.2: 1, then by the bytes
unfoldable pub request_of : Table → List ℕ → Result
request_of t s = cond (sound_of t) (request_by (request_judged t.settings.contexts s) t s) (refused t unsound [])
