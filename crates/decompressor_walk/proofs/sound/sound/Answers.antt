use mathlib.Core.Path.{◌≡◌, ◌∙◌, sym}
use mathlib.Core.Bool.{true}
use native.Mathlib.Omega.{arith}
use borrow.Author.Tests.{not-true, not-false}
use Rattle.planes.specs.Planes.{Lent, lent}
use Rattle.decompressor_table.specs.Layout.{sized}
use Rattle.decompressor_table.specs.LayoutLaws.{Sizes, sized-true}
use Rattle.decompressor_walk.proofs.Walk.{within, sound-walk, unsound-sized, unsound-settings}
use Rattle.decompressor_walk.proofs.sound.sound.Goals.{Else-not-is_sound, Else-not-sized}
use Rattle.decompressor_walk.proofs.sound.sound.Goals as goal

-- past the test of the lengths
abbrev given : Else-not-sized → Lent
given c = lent c.args.w.now c.args.h.now c.args.b.now

fit : (c : Else-not-sized) → sized (given c) ≡ true
fit c = not-false _ c.if-not-sized.false-raw

sizes : (c : Else-not-sized) → Sizes (given c)
sizes c = sized-true _ (fit c)

-- past the test of the settings
ranged : (c : Else-not-is_sound) → within (lent c.args.w.now c.args.h.now c.args.b.now) ≡ true
ranged c = sym c.is_sound.ensures ∙ not-false _ c.if-not-is_sound.false-raw

pub returns-then-not-sized : goal.returns-then-not-sized
returns-then-not-sized c = unsound-sized _ (not-true _ c.if-not-sized.true-raw)

pub bounds-b-832 : goal.bounds-b-832
bounds-b-832 c = omega (arith, (sizes (goal.at.bounds-b-832 c).Else-not-sized).bytes)

pub bounds-b-833 : goal.bounds-b-833
bounds-b-833 c = omega (arith, (sizes (goal.at.bounds-b-833 c).Else-not-sized).bytes)

pub returns-then-not-is_sound : goal.returns-then-not-is_sound
returns-then-not-is_sound c = unsound-settings _ (sym c.is_sound.ensures ∙ not-true _ c.if-not-is_sound.true-raw)

pub bytes_sound-bytes-requires : goal.bytes_sound-bytes-requires
bytes_sound-bytes-requires c = (sizes (goal.at.bytes_sound-bytes-requires c).Else-not-sized).bytes

pub wide_sound-wide-requires : goal.wide_sound-wide-requires
wide_sound-wide-requires c = let z = sizes (goal.at.wide_sound-wide-requires c).Else-not-sized in (z.words, z.shorts, z.bytes)

pub are_ended-lists-requires : goal.are_ended-lists-requires
are_ended-lists-requires c =
    let z = sizes (goal.at.are_ended-lists-requires c).Else-not-sized in (omega (arith, z.words), omega (arith, z.bytes))

pub unused_from-unused-requires : goal.unused_from-unused-requires
unused_from-unused-requires c = omega (arith, (sizes (goal.at.unused_from-unused-requires c).Else-not-sized).bytes)

pub returns : goal.returns
returns c =
    sound-walk _ _ _ _ _ (fit (goal.at.returns c).Else-not-sized)
    (ranged (goal.at.returns c).Else-not-is_sound)
    c.bytes_sound-bytes.ensures
    c.wide_sound-wide.ensures
    c.are_ended-lists.ensures
    c.unused_from-unused.ensures
