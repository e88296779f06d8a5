-- Iarwennol. An arrival on a copy of its context, apart from the table that holds it.
-- Used by the contracts of the functions that work on such a copy; receive_compressed stores it back.
use Rattle.std.specs.Prelude.{ℕ, ◌≤◌, ◌<◌, ◌≡◌, true, List, length, drop}
use Rattle.codes.specs.Numbers.{not_live}
use Rattle.links.specs.declared.head.Head.{Head}
use Rattle.packet.specs.Ranges.{Narrow}
use Rattle.context.specs.Decompressor.{broke, effect_of, rebuilt}
use Rattle.context.specs.Sound.{sound_decompressor}
use Rattle.context.specs.declared.decompressor.DecompressorContext.{DecompressorContext}
use Rattle.decompressor.specs.declared.table.Table.{Table}
use Rattle.receive.specs.declared.settle.Taken.{Taken}
use Rattle.receive.specs.declared.settle.Arrived.{Arrived}
use Rattle.decompressor.specs.Answer.{Outcome}
use Rattle.decompressor.specs.Answer.{Result, refused, delivered, number_of, length_of, said}
use Rattle.decompressor.specs.Receive.{packet_of, full_table, receive_plain, settle_read, receive_on}
use Rattle.links.specs.Fh.{fh_of}
use Rattle.links.specs.Head.{head_of}
use Rattle.decompressor.specs.Table.{context_at, with_context, Sound}
use Rattle.decompressor.specs.declared.old.OldForm.{OldForm}
use Rattle.planes.specs.Planes.{Lent}
use Rattle.decompressor_table.specs.Layout.{context_in, table_of, Fits}

-- what became of a packet, with the output that it left, and the context set into a table at place i
abbrev pub placed : Taken → Table → (i : ℕ) → (output : List ℕ) → Result
placed x t i output = record {
  number = number_of x.outcome;
  length = length_of x.outcome;
  output = output;
  table =
      with_context t i x.context;
}

-- whatever the table: where it has n repeats and the context c at place i, that is what f makes of it
pub record Takes (n : ℕ) (c : DecompressorContext) (x : Taken) (output : List ℕ) (f : Table → ℕ → Result) : Type 0 where
  pub anywhere : (t : Table) (i : ℕ) → t.settings.repeats ≡ n → context_at t i ≡ c → placed x t i output ≡ f t i

-- whatever the table and the output: where it has n repeats and the context c at place i, what f makes of the bytes s is what
-- becomes of these fields; and where they are accepted there is a header to write
pub record Arrives (n : ℕ) (c : DecompressorContext) (x : Arrived) (s : List ℕ) (f : Table → ℕ → List ℕ → Result) : Type 0 where
  pub settles : (t : Table) (i : ℕ) (output : List ℕ) → t.settings.repeats ≡ n → context_at t i ≡ c
      → settle_read x.place (effect_of x.applied) t i x.checksum s output ≡ f t i output
  pub narrow : (effect_of x.applied).number ≡ 0 → Narrow (rebuilt x.applied.context x.checksum)
  pub within : x.place.cursor.at ≤ length s

-- rule 3.1: a context that is not live is refused with 8 and left broken
abbrev pub left_broken : DecompressorContext → (output : List ℕ) → Table → (i : ℕ) → Result
left_broken c output t i = refused (with_context t i (broke c)) not_live output

-- what is known once the flag byte h of the bytes s was read: n repeats, and the context c of a sound table
pub record HeadRead (n : ℕ) (c : DecompressorContext) (h : Head) (s : List ℕ) : Type 0 where
  pub few : n ≤ 14
  pub sound : sound_decompressor c ≡ true
  pub link : h.flags.low < 16
  pub within : h.place.cursor.at ≤ length s
  pub short : length s ≤ 1500

-- what is known once flag byte and context are found: the bytes s have the flag byte h, and the sound table in the slices l has the
-- context c at place i
pub record Found (l : Lent) (i : ℕ) (c : DecompressorContext) (h : Head) (s : List ℕ) : Type 0 where
  pub fits : Fits l
  pub sound : Sound (table_of l)
  pub place : i < 64
  pub context : c ≡ context_in l.words l.shorts l.bytes i
  pub head : h ≡ head_of s
  pub some : 1 ≤ length s
  pub short : length s ≤ 1500

-- rule 3.3: a CU or CR whose context, at place i, and flag byte were found
abbrev pub found_on : OldForm → (kind : ℕ) → Table → (i : ℕ) → (s output : List ℕ) → Result
found_on old kind t i s output = receive_on old (context_at t i).status kind t i (head_of s) s output

-- a full header that was judged good, on the table t
abbrev pub accept_full : Table → (s output : List ℕ) → Result
accept_full t s output =
    delivered t (full_table t (fh_of s)) (packet_of (fh_of s).header (drop (fh_of s).start s)) output

-- a plain packet leaves any table
abbrev pub GivenPlain : Outcome → (s before after : List ℕ) → Type 0
GivenPlain o s before after = (t : Table) → said o t after ≡ receive_plain t s before
