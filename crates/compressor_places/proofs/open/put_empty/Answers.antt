use Rattle.std.proofs.Common.{length, rules}
use Rattle.planes.specs.Planes.{lent}
use Rattle.compressor_table.specs.LayoutLaws.{sized-true}
use Rattle.compressor_places.proofs.Opened.{cleared}
use Rattle.compressor_places.proofs.open.put_empty.Goals as goal

pub returns : goal.returns
returns c =
    let a = c.args in
    let z = sized-true (lent a.w.now a.h.now a.b.now) c.requires in
    rw (
      c.fill.ensures.after (λ y e. search rules),
      c.fill-2.ensures.after (λ y e. search rules),
      c.fill-3.ensures.after (λ y e. search rules),
    )
    (cleared a.s (length a.w.now) (length a.h.now) (length a.b.now) z.words z.shorts z.bytes)
