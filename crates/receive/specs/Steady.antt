-- Iarwennol. The short way of the arrival that most packets are (decompressor_steady): when it is gone, and where it leads.
-- Used by the contracts of the functions on that way; that it leads where the rules do is proved, and need not be believed.
use Rattle.std.specs.Prelude.{ℕ, ◌+◌, ◌-◌, ◌≤◌, ◌≡◌, Bool, true, not, ◌&&◌, List, length}
use Rattle.octets.specs.declared.flags.Flags.{Flags}
use Rattle.fields.specs.declared.place.Got.{Got}
use Rattle.fields.specs.Place.{or_zero}
use Rattle.fields.specs.Next.{next_word}
use Rattle.links.specs.declared.head.Head.{Head}
use Rattle.packet.specs.Refusal.{is_accepted}
use Rattle.context.specs.Decompressor.{checksum_read, rebuilt}
use Rattle.decompressor_steady.specs.Steady.{is_next}
use Rattle.context.specs.declared.decompressor.DecompressorContext.{DecompressorContext}
use Rattle.decompressor.specs.declared.table.Table.{Table}
use Rattle.decompressor.specs.Answer.{Result, delivered}
use Rattle.decompressor.specs.Receive.{packet_of}
use Rattle.decompressor.specs.Table.{with_context}
use Rattle.receive.specs.declared.steady.SteadyRead.{SteadyRead}

-- rule 6.2: the flag byte f of a CR has none of S, T and I, so no second byte follows, and the CR is the next one on its context c
abbrev pub is_steady : Flags → DecompressorContext → Bool
is_steady f c = not f.bit6 && not f.bit5 && not f.bit4 && is_next f.low c

-- the UDP checksum past the flag byte h
abbrev pub word_past : DecompressorContext → Head → List ℕ → Got ℕ
word_past c h s = next_word s h.place (checksum_read c)

-- a CR that goes the short way, read to its end; room: how long the output is
pub record Steadily (c : DecompressorContext) (h : Head) (s : List ℕ) (room : ℕ) (x : SteadyRead) : Type 0 where
  pub steady : is_steady h.flags c ≡ true
  pub whole : is_accepted (word_past c h s).place.verdict ≡ true
  pub sent : x.sent ≡ or_zero (word_past c h s).field
  pub start : x.start ≡ (word_past c h s).place.cursor.at
  pub within : x.start ≤ length s
  pub allowed : 40 + (length s - x.start) ≤ 1500
  pub fits : 40 + (length s - x.start) ≤ room

-- rule 7.8: the packet of the context c, which is at place i from now on
abbrev pub delivered_on : Table → (i : ℕ) → DecompressorContext → (sent : ℕ) → (rest output : List ℕ) → Result
delivered_on t i c sent rest output = delivered t (with_context t i c) (packet_of (rebuilt c sent) rest) output
