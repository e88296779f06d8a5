-- Iarwennol. The compressor's table: soundness and opening (rules 1.3, 2.1 to 2.4).
-- Used by every call.
use Rattle.std.specs.Prelude.{ℕ, ◌≡◌, Bool, true, false, cond, ◌&&◌, [], eqb, drop, get_or, set, replicate}
use Rattle.settings.specs.Settings as settings
use Rattle.settings.specs.declared.Settings.{Settings}
use Rattle.context.specs.All.{all}
use Rattle.context.specs.Sound.{sound_compressor, empty_compressor, no_flow, no_ip, no_rtp}
use Rattle.context.specs.declared.compressor.Usage.{Usage}
use Rattle.context.specs.declared.compressor.Usage.TheVariants.{Empty, Live}
use Rattle.context.specs.declared.compressor.CompressorContext.{CompressorContext}
use Rattle.compressor.specs.declared.table.Table.{Table}
use Rattle.compressor.specs.Answer.{Result, accepted, refused}

-- what an index past the end stands for; no table of 64 contexts has such an index
abbrev pub no_context : CompressorContext
no_context = record {
  status = Empty;
  flow = no_flow;
  ip = no_ip;
  rtp = no_rtp;
  csrc = record { count = 0; words = [] };
  blank = false;
  deltas = record { id = 0; timestamp = 0 };
  earlier = record { known = false; id = 0; timestamp = 0 };
  due = record { full = 0; id = 0; sequence = 0; timestamp = 0; payload = 0; list = 0; did = 0; dts = 0 };
  link = record { sequence = 0; generation = 0 };
}

abbrev pub context_at : Table → ℕ → CompressorContext
context_at t i = get_or t.contexts i no_context

-- the table with another context at a place
abbrev pub with_context : Table → ℕ → CompressorContext → Table
with_context t i c = record { settings = t.settings; contexts = set t.contexts i c }

abbrev pub empty_by : Usage → Bool
empty_by Empty = true
empty_by Live = false

abbrev pub is_empty : CompressorContext → Bool
is_empty c = empty_by c.status

-- rule 2.2: settings in range, every context sound, none from K on in use
unfoldable pub sound_of : Table → Bool
sound_of t =
    settings.sound t.settings
    && all (sound_compressor t.settings.repeats) t.contexts
    && all is_empty (drop t.settings.contexts t.contexts)

-- rule 2.2: what a sound table is made of
pub record Sound (t : Table) : Type 0 where
  pub settings : settings.sound t.settings ≡ true
  pub contexts : all (sound_compressor t.settings.repeats) t.contexts ≡ true
  pub rest : all is_empty (drop t.settings.contexts t.contexts) ≡ true

abbrev pub empty_table : Settings → Table
empty_table s = record { settings = s; contexts = replicate 64 empty_compressor }

-- before any opening: no settings have zero contexts, so this table is not sound
abbrev pub unopened : Table
unopened = empty_table (record { repeats = 0; contexts = 0 })

-- rules 1.3, 3.1: an opening: a table with nothing in it, or 1 and the table that was there
abbrev pub open_by : Table → settings.Opening → Result
open_by t o =
    cond (eqb o.number 0) (accepted (empty_table (record { repeats = o.repeats; contexts = o.contexts })) 0 [] [])
    (refused t o.number [])

-- rules 1.3, 3.1
unfoldable pub open_of : Table → (n k : ℕ) → Result
open_of t n k = open_by t (settings.open_of n k)
