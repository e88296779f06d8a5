-- Iarwennol. Laws of the decompressor's layout: one context read, one replaced. Assume nothing.
-- Used by the proofs of the functions on slices, and by those of the calls.
use Rattle.std.specs.Prelude.{ℕ, zero, suc, ◌<◌, ◌≢◌, ◌≡◌, Bool, true, false, ◌&&◌, cond, List, eqb, leb, length, get_or, set}
use Rattle.std.proofs.Math.Path.{refl}
use Rattle.std.proofs.Common.{sym, ap, ◌∙◌, arith, eqb-true, leb-true}
use Rattle.std.proofs.Math.Bool.{and-eq-true_iff}
use Rattle.std.proofs.lemmas.Bool.{eqb-false}
use Rattle.context.specs.declared.decompressor.Status.{Status}
use Rattle.context.specs.declared.decompressor.Status.TheVariants.{Empty, Live, Broken}
use Rattle.context.specs.declared.decompressor.DecompressorContext.{DecompressorContext}
use Rattle.decompressor.specs.declared.table.Table.{Table}
use Rattle.decompressor.specs.Table.{context_at, with_context, no_context, unopened, sound_of}
use Rattle.decompressor.proofs.TableLaws.{unsound-unopened}
use Rattle.planes.specs.Planes.{Lent, lent, row, replaced, places, every}
use Rattle.planes.proofs.PlanesLaws.{length-replaced, row_same, row_other, replaced-row, get_d_past}
use Rattle.planes.proofs.PlanesLaws.{places-at, places-set, length-places}
use Rattle.planes.proofs.EveryLaws.{every-at, every_made}
use Rattle.decompressor_table.specs.Layout.{status_of, context_of}
use Rattle.decompressor_table.specs.Layout.{context_in, plane_table, sized, typed_row, typed, fits, table_of, Fits, Puts}
use Rattle.decompressor_table.specs.Layout.{status_number, bit, words_of, shorts_of, bytes_of}

---- fits

pub record Sizes (l : Lent) : Type 0 where
  pub words : length l.words ≡ 1280
  pub shorts : length l.shorts ≡ 320
  pub bytes : length l.bytes ≡ 834

pub sized-true : (l : Lent) → sized l ≡ true → Sizes l
sized-true l e =
    let p = (and-eq-true_iff (eqb (length l.words) 1280 && eqb (length l.shorts) 320) (eqb (length l.bytes) 834)).0 e in
    let q = (and-eq-true_iff (eqb (length l.words) 1280) (eqb (length l.shorts) 320)).0 p.0 in
    record { words = eqb-true _ _ q.0; shorts = eqb-true _ _ q.1; bytes = eqb-true _ _ p.1 }

pub sized-made : (l : Lent) → Sizes l → sized l ≡ true
sized-made l s = rw (s.words, s.shorts, s.bytes)

pub fits-sizes : (l : Lent) → Fits l → Sizes l
unfolding fits
fits-sizes l e = sized-true l ((and-eq-true_iff (sized l) (every (typed l.bytes) 64)).0 e).0

pub fits-typed : (l : Lent) → Fits l → every (typed l.bytes) 64 ≡ true
unfolding fits
fits-typed l e = ((and-eq-true_iff (sized l) (every (typed l.bytes) 64)).0 e).1

pub fits-made : (l : Lent) → Sizes l → every (typed l.bytes) 64 ≡ true → Fits l
unfolding fits
fits-made l s e = both (sized l) (every (typed l.bytes) 64) (sized-made l s) e
  where
    both : (a b : Bool) → a ≡ true → b ≡ true → (a && b) ≡ true
    both a b p q = rw (p, q)

---- table_of

chosen : (b : Bool) (x y : Table) → b ≡ true → cond b x y ≡ x
chosen b x y e = rw e

other : (b : Bool) (x y : Table) → b ≡ false → cond b x y ≡ y
other b x y e = rw e

pub table_of-fits : (l : Lent) → Fits l → table_of l ≡ plane_table l
unfolding table_of
table_of-fits l e = chosen (fits l) (plane_table l) unopened e

pub table_of-unfit : (l : Lent) → fits l ≡ false → table_of l ≡ unopened
unfolding table_of
table_of-unfit l e = other (fits l) (plane_table l) unopened e

plane_table-at : (l : Lent) (i : ℕ) → i < 64 → context_at (plane_table l) i ≡ context_in l.words l.shorts l.bytes i
unfolding plane_table
plane_table-at l i s = places-at (context_in l.words l.shorts l.bytes) 0 64 i no_context s
    ∙ ap (context_in l.words l.shorts l.bytes) (omega arith)

pub table_of-at : (l : Lent) (i : ℕ) → Fits l → i < 64 → context_at (table_of l) i ≡ context_in l.words l.shorts l.bytes i
table_of-at l i e s = ap (λ (t : Table). context_at t i) (table_of-fits l e) ∙ plane_table-at l i s

pub table_of-repeats : (l : Lent) → Fits l → (table_of l).settings.repeats ≡ get_or l.bytes 832 0
unfolding plane_table
table_of-repeats l e = ap (λ (t : Table). t.settings.repeats) (table_of-fits l e)

pub table_of-contexts : (l : Lent) → Fits l → (table_of l).settings.contexts ≡ get_or l.bytes 833 0
unfolding plane_table
table_of-contexts l e = ap (λ (t : Table). t.settings.contexts) (table_of-fits l e)

length-planes : (l : Lent) → length (plane_table l).contexts ≡ 64
unfolding plane_table
length-planes l = length-places (context_in l.words l.shorts l.bytes) 0 64

pub length-table_of : (l : Lent) → Fits l → length (table_of l).contexts ≡ 64
length-table_of l e = ap (λ (t : Table). length t.contexts) (table_of-fits l e) ∙ length-planes l

---- a row both ways

bit-back : (b : Bool) → eqb (bit b) 1 ≡ b
bit-back true = refl
bit-back false = refl

status-back : (s : Status) → status_of (status_number s) ≡ s
status-back Empty = refl
status-back Live = refl
status-back Broken = refl

-- what is written is what is read
pub back : (c : DecompressorContext) → context_of (words_of c) (shorts_of c) (bytes_of c) ≡ c
unfolding context_of
back c = rw (
  status-back c.status,
  bit-back c.filled,
  bit-back c.rtp.padding,
  bit-back c.rtp.extension,
  bit-back c.carried,
  bit-back c.marker,
)

bit-typed : (b : Bool) → leb (bit b) 1 ≡ true
bit-typed true = refl
bit-typed false = refl

status-typed : (s : Status) → leb (status_number s) 2 ≡ true
status-typed Empty = refl
status-typed Live = refl
status-typed Broken = refl

typed-bytes_of : (c : DecompressorContext) → typed_row (bytes_of c) ≡ true
typed-bytes_of c = rw (
  status-typed c.status,
  bit-typed c.filled,
  bit-typed c.rtp.padding,
  bit-typed c.rtp.extension,
  bit-typed c.carried,
  bit-typed c.marker,
)

-- what is read is what is written, where it is in its type
bit-forth : (x : ℕ) → leb x 1 ≡ true → bit (eqb x 1) ≡ x
bit-forth zero e = refl
bit-forth (suc zero) e = refl
bit-forth (suc (suc x)) e = absurd (omega (arith, leb-true (suc (suc x)) 1 e))

status-forth : (x : ℕ) → leb x 2 ≡ true → status_number (status_of x) ≡ x
status-forth zero e = refl
status-forth (suc zero) e = refl
status-forth (suc (suc zero)) e = refl
status-forth (suc (suc (suc x))) e = absurd (omega (arith, leb-true (suc (suc (suc x))) 2 e))

pub record Typed (b : List ℕ) : Type 0 where
  pub status : leb (get_or b 0 0) 2 ≡ true
  pub filled : leb (get_or b 1 0) 1 ≡ true
  pub padding : leb (get_or b 5 0) 1 ≡ true
  pub extension : leb (get_or b 6 0) 1 ≡ true
  pub carried : leb (get_or b 7 0) 1 ≡ true
  pub marker : leb (get_or b 8 0) 1 ≡ true

six : (a b c d e f : Bool) → (a && b && c && d && e && f) ≡ true
    → (a ≡ true) × (b ≡ true) × (c ≡ true) × (d ≡ true) × (e ≡ true) × (f ≡ true)
six a b c d e f h =
    let o = (and-eq-true_iff (a && b && c && d && e) f).0 h in
    let p = (and-eq-true_iff (a && b && c && d) e).0 o.0 in
    let q = (and-eq-true_iff (a && b && c) d).0 p.0 in
    let r = (and-eq-true_iff (a && b) c).0 q.0 in
    let t = (and-eq-true_iff a b).0 r.0 in
    (t.0, t.1, r.1, q.1, p.1, o.1)

pub typed_row-true : (b : List ℕ) → typed_row b ≡ true → Typed b
typed_row-true b e =
    let p = six (leb (get_or b 0 0) 2) (leb (get_or b 1 0) 1) (leb (get_or b 5 0) 1) (leb (get_or b 6 0) 1) (leb (get_or b 7 0) 1)
    (leb (get_or b 8 0) 1) e in
    record { status = p.0; filled = p.1; padding = p.2; extension = p.3; carried = p.4; marker = p.5 }

module _ (w h b : List ℕ) (i : ℕ) where
  words-forth : words_of (context_in w h b i) ≡ row w i 0 20
  unfolding context_of
  words-forth = refl

  shorts-forth : shorts_of (context_in w h b i) ≡ row h i 0 5
  unfolding context_of
  shorts-forth = refl

  bytes-forth : Typed (row b i 0 13) → bytes_of (context_in w h b i) ≡ row b i 0 13
  unfolding context_of
  bytes-forth t = rw (
    status-forth _ t.status,
    bit-forth _ t.filled,
    bit-forth _ t.padding,
    bit-forth _ t.extension,
    bit-forth _ t.carried,
    bit-forth _ t.marker,
  )

---- one context replaced

made : (n n' k k' : ℕ) (l l' : List DecompressorContext) → n ≡ n' → k ≡ k' → l ≡ l'
    → ◌≡◌ {A = Table} (record { settings = record { repeats = n; contexts = k }; contexts = l })
    (record { settings = record { repeats = n'; contexts = k' }; contexts = l' })
made n n' k k' l l' d e f = rw (d, e, f)

abbrev pub put : Lent → (i : ℕ) → DecompressorContext → Lent
put l i c = lent (replaced l.words i 0 (words_of c)) (replaced l.shorts i 0 (shorts_of c)) (replaced l.bytes i 0 (bytes_of c))

module _ (l : Lent) (i : ℕ) (c : DecompressorContext) (s : i < 64) (z : Sizes l) (n : length c.csrc.words ≡ 15) where
  many : length (words_of c) ≡ 20
  many = omega (arith, n)

  same-words : row (put l i c).words i 0 20 ≡ words_of c
  same-words = ap (λ (k : ℕ). row (put l i c).words i 0 k) (sym many)
      ∙ row_same (words_of c) l.words i 0 s (omega (arith, many, z.words))

  written_same : context_in (put l i c).words (put l i c).shorts (put l i c).bytes i ≡ c
  written_same = rw (
    same-words,
    row_same (shorts_of c) l.shorts i 0 s (omega (arith, z.shorts)),
    row_same (bytes_of c) l.bytes i 0 s (omega (arith, z.bytes)),
  ) (back c)

  written-other : (j : ℕ) → j < 64 → j ≢ i
      → context_in (put l i c).words (put l i c).shorts (put l i c).bytes j ≡ context_in l.words l.shorts l.bytes j
  written-other j a e = rw (
    row_other (words_of c) l.words i 0 j 0 20 s a e,
    row_other (shorts_of c) l.shorts i 0 j 0 5 s a e,
    row_other (bytes_of c) l.bytes i 0 j 0 13 s a e,
  )

  plane_table-written : plane_table (put l i c) ≡ with_context (plane_table l) i c
  unfolding plane_table
  plane_table-written =
      made (get_or (put l i c).bytes 832 0) (get_or l.bytes 832 0) (get_or (put l i c).bytes 833 0) (get_or l.bytes 833 0)
      (places (context_in (put l i c).words (put l i c).shorts (put l i c).bytes) 0 64)
      (set (places (context_in l.words l.shorts l.bytes) 0 64) i c)
      (get_d_past (bytes_of c) l.bytes i 0 832 s (omega arith)) (get_d_past (bytes_of c) l.bytes i 0 833 s (omega arith))
      (places-set (context_in l.words l.shorts l.bytes)
      (context_in (put l i c).words (put l i c).shorts (put l i c).bytes) 0 64 i c s
      (ap (context_in (put l i c).words (put l i c).shorts (put l i c).bytes) (omega arith) ∙ written_same)
      (λ j a u e. written-other j (omega arith) (λ f. e (omega arith))))

  typed-written : every (typed l.bytes) 64 ≡ true → (j : ℕ) → j < 64 → typed (put l i c).bytes j ≡ true
  typed-written e j h = go (eqb j i) refl
    where
      go : (q : Bool) → eqb j i ≡ q → typed (put l i c).bytes j ≡ true
      go true q = rw (eqb-true j i q)
          (ap typed_row (row_same (bytes_of c) l.bytes i 0 s (omega (arith, z.bytes))) ∙ typed-bytes_of c)
      go false q = ap typed_row (row_other (bytes_of c) l.bytes i 0 j 0 13 s h (eqb-false j i q))
          ∙ every-at (typed l.bytes) 64 j h e

  fits-written : every (typed l.bytes) 64 ≡ true → Fits (put l i c)
  fits-written e = fits-made (put l i c)
      (record {
        words = length-replaced (words_of c) l.words i 0 ∙ z.words;
        shorts = length-replaced (shorts_of c) l.shorts i 0 ∙ z.shorts;
        bytes = length-replaced (bytes_of c) l.bytes i 0 ∙ z.bytes;
      })
      (every_made (typed (put l i c).bytes) 64 (typed-written e))

-- a row that is replaced by itself
pub lent_same : (l : Lent) (w h b : List ℕ) → w ≡ l.words → h ≡ l.shorts → b ≡ l.bytes → lent w h b ≡ l
lent_same l w h b p q r = rw (p, q, r)

pub put_same : (l : Lent) (i : ℕ) → i < 64 → every (typed l.bytes) 64 ≡ true
    → put l i (context_in l.words l.shorts l.bytes i) ≡ l
put_same l i s e =
    let t = typed_row-true (row l.bytes i 0 13) (every-at (typed l.bytes) 64 i s e) in
    let c = context_in l.words l.shorts l.bytes i in
    lent_same l (replaced l.words i 0 (words_of c)) (replaced l.shorts i 0 (shorts_of c)) (replaced l.bytes i 0 (bytes_of c))
    (ap (replaced l.words i 0) (words-forth l.words l.shorts l.bytes i) ∙ replaced-row l.words i 0 20)
    (ap (replaced l.shorts i 0) (shorts-forth l.words l.shorts l.bytes i) ∙ replaced-row l.shorts i 0 5)
    (ap (replaced l.bytes i 0) (bytes-forth l.words l.shorts l.bytes i t) ∙ replaced-row l.bytes i 0 13)

pub puts-put : (l : Lent) (i : ℕ) (c : DecompressorContext) → Fits l → i < 64 → length c.csrc.words ≡ 15
    → Puts l i c (lent (replaced l.words i 0 (words_of c)) (replaced l.shorts i 0 (shorts_of c))
    (replaced l.bytes i 0 (bytes_of c)))
puts-put l i c f s n =
    let z = fits-sizes l f in
    let after = fits-written l i c s z n (fits-typed l f) in
    record {
      fit = after;
      table = table_of-fits (put l i c) after ∙ plane_table-written l i c s z n
          ∙ ap (λ (t : Table). with_context t i c) (sym (table_of-fits l f));
      same = λ e. ap (put l i) e ∙ put_same l i s (fits-typed l f);
    }

-- a sound table has slices that hold one
pub sound-fits : (l : Lent) → sound_of (table_of l) ≡ true → Fits l
sound-fits l e = go (fits l) refl
  where
    go : (b : Bool) → fits l ≡ b → fits l ≡ true
    go true q = q
    go false q = let z : false ≡ true = sym unsound-unopened ∙ (ap sound_of (sym (table_of-unfit l q)) ∙ e) in cc
