use Rattle.receive.specs.TakenLaws.{arrives-parts}
use Rattle.receive.proofs.NarrowLaws.{applied-narrow}
use Rattle.context.specs.Decompressor.{effect_of}
use Rattle.receive.proofs.compressed.apply_parts.Goals as goal

pub returns : goal.returns
returns c =
    let a = c.args in
    let p = c.requires in
    λ s within. arrives-parts a.n a.c s a.q a.x c.apply.result c.apply.ensures
    (applied-narrow a.n a.q a.c a.x.parts p.2 a.x.parts.checksum p.1 p.3 p.4
    (effect_of c.apply.result) c.apply.ensures) within
