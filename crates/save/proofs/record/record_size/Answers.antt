use Rattle.save.specs.SaveLaws.{record_bytes-empty, length-record_bytes}
use Rattle.saves.proofs.SizeLaws.{kept-narrow}
use lib.ListN.{length}
use mathlib.Core.Path.{ap, sym, ◌∙◌}
use Prim.Native.Nat.{ℕ}
use native.Mathlib.Omega.{arith}
use Rattle.save.proofs.record.record_size.Goals as goal

pub used_size-requires : goal.used_size-requires
used_size-requires c = kept-narrow c.args.c c.requires

pub returns-in-Empty : goal.returns-in-Empty
returns-in-Empty c = (sym (ap (length {A = ℕ}) (record_bytes-empty c.args.c c.in-Empty.is)), omega arith)

pub returns-in-Live : goal.returns-in-Live
returns-in-Live c =
    let e = c.used_size.ensures in
    (e.0 ∙ length-record_bytes c.args.c c.in-Live.is, e.1)
