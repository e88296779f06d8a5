use Rattle.compressor_places.proofs.Found.{is_of-same, is_of-other}
use Rattle.compressor_places.proofs.lookup.is_of.Goals as goal

pub returns-then-w-i : goal.returns-then-w-i
returns-then-w-i c =
    let a = c.args in
    is_of-same a.f a.w.now a.h.now a.b.now a.i c.if-w-i.true

pub returns : goal.returns
returns c =
    let a = c.args in
    is_of-other a.f a.w.now a.h.now a.b.now a.i c.if-w-i.false
