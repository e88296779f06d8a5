use Rattle.std.proofs.Common.{rules, sym}
use Rattle.planes.specs.Planes.{unused_at}
use Rattle.planes.proofs.PlanesLaws.{numbers-at}
use Rattle.planes.proofs.numbers.unused_from.Goals as goal

pub returns : goal.returns
returns c = let a = c.args in
    c.every_below.ensures (unused_at a.b.now a.k)
    (λ i r h e. let same = numbers-at _ 64 i c.place_numbers-numbers.ensures h in rw (sym same) (search rules))
