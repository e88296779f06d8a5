use lib.ListN.{take}
use Rattle.octets.specs.Put.{Wrote}
use Rattle.planes.specs.Planes.{lent}
use Rattle.decompressor_table.specs.Layout.{table_of}
use Rattle.saves.specs.Saves.{records_bytes}
use Rattle.save.proofs.put_records.Given as goal

abbrev pub invariant-loop-i : goal.invariant-loop-i
invariant-loop-i l =
    Wrote l.initial.out l.out l.at l.past (records_bytes (take l.i (table_of (lent l.w l.h l.b)).contexts))
