-- Iarwennol. A flow of the rows of its context: its numbers are the first in the tables of both ends.
-- Used by the layouts of both tables.
use Rattle.std.specs.Prelude.{ℕ, List, get_or}
use Rattle.packet.specs.declared.header.Flow.{Flow}

abbrev pub flow_of : (w h : List ℕ) → Flow
flow_of w h = record {
  source = get_or w 0 0;
  destination = get_or w 1 0;
  sport = get_or h 0 0;
  dport = get_or h 1 0;
  ssrc = get_or w 2 0;
}
