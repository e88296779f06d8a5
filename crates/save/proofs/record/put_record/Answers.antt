use Rattle.save.specs.SaveLaws.{record_bytes-empty, record_bytes-live, record_bytes-broken}
use Rattle.saves.proofs.SizeLaws.{kept-narrow}
use lib.ListN.{length}
use mathlib.Core.Path.{ap}
use Prim.Native.Nat.{ℕ}
use native.Mathlib.Omega.{arith}
use Rattle.save.proofs.record.put_record.Goals as goal

pub put-requires : goal.put-requires
put-requires c =
    omega (arith, ap (length {A = ℕ}) (record_bytes-empty c.args.c c.in-Empty.is), c.requires.1)

pub put_used-requires : goal.put_used-requires
put_used-requires c = let a = c.args in
    let p = c.requires in
    (kept-narrow a.c p.0, rw (record_bytes-live a.c c.in-Live.is) at p.1)

pub put_used-requires-in-Broken : goal.put_used-requires-in-Broken
put_used-requires-in-Broken c = let a = c.args in
    let p = c.requires in
    (kept-narrow a.c p.0, rw (record_bytes-broken a.c c.in-Broken.is) at p.1)

pub returns-in-Empty : goal.returns-in-Empty
returns-in-Empty c =
    rw (record_bytes-empty c.args.c c.in-Empty.is) c.put.ensures

pub returns-in-Live : goal.returns-in-Live
returns-in-Live c =
    rw (record_bytes-live c.args.c c.in-Live.is) c.put_used.ensures

pub returns-in-Broken : goal.returns-in-Broken
returns-in-Broken c =
    rw (record_bytes-broken c.args.c c.in-Broken.is) c.put_used-in-Broken.ensures
