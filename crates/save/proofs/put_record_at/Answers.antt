use Prim.Native.Nat.{ℕ, ◌+◌}
use mathlib.Core.Path.{◌≡◌, ap}
use mathlib.Core.List.{List, [], ◌∷◌}
use native.Mathlib.Omega.{arith}
use lib.ListN.{length, get_or}
use Rattle.context.specs.declared.decompressor.Status.TheVariants.{Empty}
use Rattle.planes.specs.Planes.{lent}
use Rattle.decompressor_table.specs.Layout.{status_of, context_of, context_in}
use Rattle.decompressor_table.specs.LayoutLaws.{sound-fits, fits-sizes}
use Rattle.saves.specs.Saves.{record_bytes}
use Rattle.save.specs.LentLaws.{sound-here}
use Rattle.save.specs.SaveLaws.{record_bytes-empty}
use Rattle.save.proofs.put_record_at.Goals as goal

-- a place whose status is 0 has the record of an empty context
empty_there : (w h b : List ℕ) (i : ℕ) → get_or b (0 + i) 0 ≡ 0 → record_bytes (context_in w h b i) ≡ 0 ∷ []
unfolding context_of
empty_there w h b i e = record_bytes-empty (context_in w h b i) (ap status_of e)

pub bounds-b-i : goal.bounds-b-i
bounds-b-i c =
    let a = c.args in
    let z = fits-sizes (lent a.w.now a.h.now a.b.now) (sound-fits (lent a.w.now a.h.now a.b.now) c.requires.0) in
    omega (arith, z.bytes, c.requires.1)

pub put-requires : goal.put-requires
put-requires c =
    let a = c.args in
    omega (arith, ap (length {A = ℕ}) (empty_there a.w.now a.h.now a.b.now a.i c.if-b-i-eq-EMPTY.true), c.requires.2)

pub returns-then-b-i-eq-EMPTY : goal.returns-then-b-i-eq-EMPTY
returns-then-b-i-eq-EMPTY c =
    let a = c.args in
    rw (empty_there a.w.now a.h.now a.b.now a.i c.if-b-i-eq-EMPTY.true) c.put.ensures

pub context_at-requires : goal.context_at-requires
context_at-requires c =
    let a = c.args in
    let z = fits-sizes (lent a.w.now a.h.now a.b.now) (sound-fits (lent a.w.now a.h.now a.b.now) c.requires.0) in
    (z.words, z.shorts, z.bytes, c.requires.1)

pub put_record-requires : goal.put_record-requires
put_record-requires c =
    let a = c.args in (
      sound-here (lent a.w.now a.h.now a.b.now) c.requires.0 a.i c.requires.1 c.context_at.result c.context_at.ensures,
      rw c.context_at.ensures c.requires.2,
    )
