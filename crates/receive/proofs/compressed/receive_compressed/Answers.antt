use Prim.Native.Nat.{ℕ, ◌<◌}
use mathlib.Core.Path.{◌≡◌, ◌∙◌, sym, ap}
use native.Mathlib.Omega.{arith}
use Rattle.planes.specs.Planes.{lent}
use Rattle.decompressor_table.specs.Layout.{table_of}
use Rattle.fields.specs.declared.place.Got.{Got}
use Rattle.fields.specs.Place.{or_zero}
use Rattle.links.specs.Head.{context_of}
use Rattle.links.proofs.HeadLaws.{head_at-context, head_of-within}
use Rattle.decompressor.specs.Receive.{receive_compressed}
use Rattle.decompressor.proofs.ReceiveLaws.{compressed-unknown, compressed-cut, compressed-on}
use Rattle.decompressor.proofs.TableLaws.{sound-most}
use Rattle.decompressor_table.specs.LayoutLaws.{fits-sizes, table_of-contexts}
use Rattle.decompressor_table.specs.CallsLaws.{gives-kept, gives-by}
use Rattle.receive.specs.Taken.{Found, found_on}
use Rattle.receive.proofs.Placing.{here}
use Rattle.receive.proofs.SteadyWay.{steady-found, accepted_if, refused_if}
use Rattle.receive.proofs.compressed.receive_compressed.Goals.{After-unwrap_or-number, After-context_at-context}
use Rattle.receive.proofs.compressed.receive_compressed.Goals as goal

-- the number is that of the link packet
number : (c : After-unwrap_or-number) → c.unwrap_or-number.result ≡ context_of c.args.s.now
number c = c.unwrap_or-number.ensures ∙ ap (λ (g : Got ℕ). or_zero g.field) c.read_context-first.ensures

pub bounds-b-833 : goal.bounds-b-833
bounds-b-833 c = omega (
  arith,
  (fits-sizes (lent c.args.w.now c.args.h.now c.args.b.now) c.requires.0).bytes,
)

pub returns-then-b-number : goal.returns-then-b-number
returns-then-b-number c =
    let l = lent c.args.w.now c.args.h.now c.args.b.now in
    let a = c.args in
    let n = number (goal.at.returns-then-b-number c).After-unwrap_or-number in
    gives-kept l _ a.out.now (receive_compressed a.old a.kind (table_of l) a.s.now a.out.now)
    (sym (compressed-unknown a.old a.kind (table_of l) a.s.now a.out.now
    (omega (arith, n, c.if-b-number.true, table_of-contexts l c.requires.0))))

pub returns-then-is_err : goal.returns-then-is_err
returns-then-is_err c =
    let l = lent c.args.w.now c.args.h.now c.args.b.now in
    let a = c.args in
    let k = c.read_context-first in
    let n = number (goal.at.returns-then-is_err c).After-unwrap_or-number in
    let r = c.read_head-head.ensures.0 ∙ head_at-context a.s.now k.result k.ensures in
    let e = rw r at (refused_if _ _ c.is_err.ensures.value c.if-is_err.true) in
    gives-kept l _ a.out.now (receive_compressed a.old a.kind (table_of l) a.s.now a.out.now)
    (sym (compressed-cut a.old a.kind (table_of l) a.s.now a.out.now
    (omega (arith, n, c.if-b-number.false, table_of-contexts l c.requires.0)) e))

-- it is one of the table's
few : (c : After-context_at-context) → c.from-i.result < 64
few c =
    let l = lent c.args.w.now c.args.h.now c.args.b.now in
    omega (
      arith,
      c.from-i.ensures,
      c.if-b-number.false,
      sound-most (table_of l) c.requires.1,
      table_of-contexts l c.requires.0,
    )

pub context_at-context-requires : goal.context_at-context-requires
context_at-context-requires c =
    let l = lent c.args.w.now c.args.h.now c.args.b.now in
    let z = fits-sizes l c.requires.0 in (
      z.words,
      z.shorts,
      z.bytes,
      omega (
        arith,
        c.from-i.ensures,
        c.if-b-number.false,
        sound-most (table_of l) c.requires.1,
        table_of-contexts l c.requires.0,
      ),
    )

found : (c : After-context_at-context)
    → Found (lent c.args.w.now c.args.h.now c.args.b.now) c.from-i.result c.context_at-context.result
    c.read_head-head.result c.args.s.now
found c =
    let k = c.read_context-first in
    record {
      fits = c.requires.0;
      sound = c.requires.1;
      place = few c;
      context = c.context_at-context.ensures;
      head = c.read_head-head.ensures.0 ∙ head_at-context c.args.s.now k.result k.ensures;
      some = c.requires.2;
      short = c.requires.3;
    }

compressed : (c : After-context_at-context) → let a = c.args in
    found_on a.old a.kind (table_of (lent c.args.w.now c.args.h.now c.args.b.now)) c.from-i.result a.s.now a.out.now
    ≡ receive_compressed a.old a.kind (table_of (lent c.args.w.now c.args.h.now c.args.b.now)) a.s.now a.out.now
compressed c =
    let a = c.args in
    let l = lent c.args.w.now c.args.h.now c.args.b.now in
    let k = c.read_context-first in
    let n : c.unwrap_or-number.result ≡ context_of a.s.now =
    c.unwrap_or-number.ensures ∙ ap (λ (g : Got ℕ). or_zero g.field) k.ensures in
    let e = rw (found c).head at (accepted_if _ _ c.is_err.ensures.value c.if-is_err.false) in
    ap (λ (i : ℕ). found_on a.old a.kind (table_of l) i a.s.now a.out.now) (c.from-i.ensures ∙ n)
    ∙ sym (compressed-on a.old a.kind (table_of l) a.s.now a.out.now
    (omega (arith, n, c.if-b-number.false, table_of-contexts l c.requires.0)) e)

pub read_steady-requires : goal.read_steady-requires
read_steady-requires c = (rw (found c).head (head_of-within c.args.s.now), c.requires.3)

pub receive_steady-requires : goal.receive_steady-requires
receive_steady-requires c =
    (found (goal.at.receive_steady-requires c).After-context_at-context, c.in-Some.ensures.1)

pub returns-in-Some : goal.returns-in-Some
returns-in-Some c =
    let l = lent c.args.w.now c.args.h.now c.args.b.now in
    let a = c.args in
    let f = found (goal.at.returns-in-Some c).After-context_at-context in
    let y = c.in-Some.ensures in
    gives-by l _ _ _ _ (receive_compressed a.old a.kind (table_of l) a.s.now a.out.now)
    (steady-found (table_of l) c.from-i.result c.context_at-context.result c.read_head-head.result
    a.s.now a.out.now _ _
    (here l c.from-i.result f.fits f.place c.context_at-context.result f.context) y.1 a.old a.kind y.0
    f.head
    ∙ compressed (goal.at.returns-in-Some c).After-context_at-context)
    c.receive_steady.ensures

pub receive_found-requires : goal.receive_found-requires
receive_found-requires c = found (goal.at.receive_found-requires c).After-context_at-context

pub returns-in-None : goal.returns-in-None
returns-in-None c =
    let l = lent c.args.w.now c.args.h.now c.args.b.now in
    let a = c.args in
    gives-by l _ _ _ _ (receive_compressed a.old a.kind (table_of l) a.s.now a.out.now)
    (compressed (goal.at.returns-in-None c).After-context_at-context)
    c.receive_found.ensures
