use lib.ListN.{length-set}
use native.Mathlib.Numerals.{add-one}
use mathlib.Core.Path.{◌≡◌, refl}
use native.Mathlib.Omega.{arith}
use Rattle.load.proofs.read_records.Goals as goal

pub loop-i-init : goal.loop-i-init
loop-i-init c = (refl, rw c.empty_context-contexts.ensures)

pub loop-i-preserved : goal.loop-i-preserved
loop-i-preserved c =
    let l = c.loop-i in
    (simp length-set l.invariant.0, rw (add-one, ← l.invariant.1, ← c.read_record-record.ensures))

pub returns : goal.returns
returns c = let l = c.loop-i in
    let e : l.i ≡ c.args.n = omega arith in
    rw (← e) l.invariant.1
