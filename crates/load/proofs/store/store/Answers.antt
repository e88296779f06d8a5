use mathlib.Core.List.{List}
use Rattle.context.specs.declared.decompressor.DecompressorContext.{DecompressorContext}
use mathlib.Core.Path.{refl, sym, ap, ◌∙◌}
use native.Mathlib.Omega.{arith}
use borrow.Author.Rules.{rules}
use Rattle.settings.specs.declared.Settings.{Settings}
use Rattle.context.proofs.Arrays.{length-mapped}
use Rattle.planes.specs.Planes.{lent}
use Rattle.decompressor.specs.declared.table.Table.{Table}
use Rattle.decompressor_table.specs.LayoutLaws.{fits-sizes, sized-true}
use Rattle.load.specs.LoadLaws.{storing-more, storing-all}
use Rattle.load.proofs.store.store.Goals as goal

abbrev given : Settings → List DecompressorContext → Table
given s l = record { settings = s; contexts = l }

pub put_empty-requires : goal.put_empty-requires
put_empty-requires c = c.requires

pub loop-i-init : goal.loop-i-init
loop-i-init c =
    let p = c.put_empty.ensures in
    (search (rules, length-mapped), record { fit = p.0; settings = refl; front = refl })

pub put_context-requires : goal.put_context-requires
put_context-requires c = (
  c.loop-i.invariant.1.fit,
  omega arith,
)

pub loop-i-preserved : goal.loop-i-preserved
loop-i-preserved c =
    let l = c.loop-i in (
      l.invariant.0,
      storing-more _ _ l.i _ _ (omega arith) l.invariant.0 l.invariant.1
          c.put_context.ensures,
    )

pub shape_of-w : goal.shape_of-w
shape_of-w c = (fits-sizes _ c.loop-i.invariant.1.fit).words ∙ sym (sized-true (lent c.args.w.now c.args.h.now c.args.b.now)
    c.requires).words

pub shape_of-h : goal.shape_of-h
shape_of-h c = (fits-sizes _ c.loop-i.invariant.1.fit).shorts ∙ sym (sized-true (lent c.args.w.now c.args.h.now c.args.b.now)
    c.requires).shorts

pub shape_of-b : goal.shape_of-b
shape_of-b c = (fits-sizes _ c.loop-i.invariant.1.fit).bytes ∙ sym (sized-true (lent c.args.w.now c.args.h.now c.args.b.now)
    c.requires).bytes

pub returns : goal.returns
returns c =
    let l = c.loop-i in
    let p = c.put_empty.ensures.1 in
    storing-all _ _ l.i _ (omega arith) l.invariant.0 l.invariant.1
    ∙ ap (λ (t : Table). given t.settings c.args.contexts) p
