use Rattle.std.proofs.lemmas.Result.{err_from_is_err_and}
use Rattle.planes.specs.Planes.{lent}
use Rattle.load.specs.LoadLaws.{settled-refused, settled-accepted}
use Rattle.load.proofs.store.settle.Goals as goal

pub returns : goal.returns
returns c =
    settled-accepted (lent c.args.w.now c.args.h.now c.args.b.now) c.args.p
    (record { settings = c.args.s; contexts = c.args.contexts }) _
    c.in_ok-found.was c.store.ensures

pub returns-in_err-found : goal.returns-in_err-found
returns-in_err-found c =
    let p = err_from_is_err_and c.from_residual.result c.from_residual.ensures.1 in
    rw (p.1, p.2) (settled-refused (lent c.args.w.now c.args.h.now c.args.b.now) c.args.p
    (record { settings = c.args.s; contexts = c.args.contexts }) _ c.in_err-found.was)
