use lib.ListN.{length-set}
use Rattle.headers.specs.ListLaws.{set-list_at}
use native.Mathlib.Omega.{arith}
use mathlib.Core.Path.{◌≡◌}
use Prim.Native.Nat.{◌-◌}
use Rattle.headers_read.proofs.read.read_list.Goals as goal

pub loop-i-preserved : goal.loop-i-preserved
loop-i-preserved c =
    let a = c.args in
    let l = c.loop-i in (
      simp length-set l.invariant.0,
      rw (
        c.long_at.ensures,
        l.invariant.1,
      )
          (set-list_at a.s.now a.at l.i (omega arith)),
    )

pub returns : goal.returns
returns c = let e : c.loop-i.i ≡ c.args.n = omega arith in rw (c.loop-i.invariant.1, e)
