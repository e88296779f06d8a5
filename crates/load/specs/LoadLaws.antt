-- Iarwennol. Laws of a load: what an accepted front tells of K, when a header's form fails, the answer by case, the table that
-- is put. Assume nothing.
-- Used by the proofs of load.
use Rattle.std.specs.Prelude.{ℕ, ◌+◌, ◌-◌, ◌≤◌, ◌<◌, ◌≡◌, refl, Bool, true, false, cond, eqb, length, get_or, take, drop}
use Rattle.std.proofs.Common.{sym, ap, ◌∙◌, add-one, arith, take-suc, take-suc-set, take_all}
use mathlib.Core.List.{List, []}
use Rattle.packet.specs.Refusal.{is_accepted, verdict_number}
use Rattle.packet.specs.declared.refusal.Refusal.{Refusal}
use Rattle.packet.specs.declared.refusal.Refusal.TheVariants.{Unsound}
use Rattle.packet.specs.Refusal.{Verdict}
use Rattle.fields.specs.declared.place.Place.{Place}
use Rattle.settings.specs.declared.Settings.{Settings}
use Rattle.context.specs.declared.decompressor.DecompressorContext.{DecompressorContext}
use Rattle.planes.specs.Planes.{Lent}
use Rattle.decompressor.specs.Answer.{Outcome}
use Rattle.std.specs.Prelude.{Ok, Err}
use Rattle.decompressor.specs.declared.table.Table.{Table}
use Rattle.decompressor.specs.Answer.{Result, said, refused}
use Rattle.decompressor.specs.Table.{no_context}
use Rattle.decompressor_table.specs.Layout.{sized, table_of, Fits, Puts}
use Rattle.decompressor_table.specs.LayoutLaws.{length-table_of}
use Rattle.decompressor_table.specs.Calls.{Gives}
use Rattle.decompressor_table.specs.CallsLaws.{gives-kept, gives-accepted, gives-by}
use Rattle.saves.specs.declared.read.Front.{Front}
use Rattle.saves.specs.declared.read.GotContexts.{GotContexts}
use Rattle.saves.proofs.KeptLaws.{kept_form-true}
use Rattle.saves.proofs.LoadLaws.{front_of-read}
use Rattle.saves.specs.Saves.{allowed, kept_form, records_of, front_of, settled, load_records, load_of}
use Rattle.load.specs.Load.{load_lent}

---- front_of: the contexts that were accepted are in their bounds

pub front_of-most : (s : List ℕ) → is_accepted (front_of s).place.verdict ≡ true → (front_of s).settings.contexts ≤ 64
front_of-most s e = let r = front_of-read s e in rw r.same r.most

---- kept_form

-- no header has fewer than 40 bytes, since its own count says how long it is
pub kept_form-short : (size : ℕ) (p : List ℕ) → size < 40 → kept_form size p ≡ false
kept_form-short size p h = by (kept_form size p) refl
  where
    by : (b : Bool) → kept_form size p ≡ b → kept_form size p ≡ false
    by true e = absurd (omega (arith, (kept_form-true size p e).size))
    by false e = e

-- the part of a slice from a place on, of so many bytes
pub part-size : (l : List ℕ) (at n : ℕ) → take (at + n - at) (drop at l) ≡ take n (drop at l)
part-size l at n = let e : at + n - at ≡ n = omega arith in rw e

---- load_of; f: what stands before the records

module _ (t : Table) (s : List ℕ) (f : Front) (e : f ≡ front_of s) where
  -- what is made of a front with this verdict
  abbrev by : Verdict → Result
  by v = cond (is_accepted v) (load_records t f.settings (records_of s f.place f.settings.contexts) s)
      (refused t (verdict_number v) [])

  load_of-by : (v : Verdict) → f.place.verdict ≡ v → by v ≡ load_of t s
  unfolding load_of
  load_of-by v h = rw (← e) (sym (ap by h))

  pub load-refused : (why : Refusal) → f.place.verdict ≡ Err why → said (Err why) t [] ≡ load_of t s
  load-refused why h = load_of-by (Err why) h

  -- q: the records; p: where the reading ends
  pub load-records : (q : GotContexts) (p : Place) → f.place.verdict ≡ Ok tt
      → q ≡ records_of s f.place f.settings.contexts
      → p ≡ allowed q.place (eqb q.place.cursor.at (length s))
      → settled t p (record { settings = f.settings; contexts = q.contexts }) ≡ load_of t s
  load-records q p h k g = rw (g, k) (load_of-by (Ok tt) h)

---- load_lent

module _ (l : Lent) (s : List ℕ) where
  pub load-unsized : sized l ≡ false → Gives l l (Err Unsound) [] (load_lent l s)
  unfolding load_lent
  load-unsized e = gives-kept l (Err Unsound) [] (load_lent l s) (rw e)

  load_lent-sized : sized l ≡ true → load_of (table_of l) s ≡ load_lent l s
  unfolding load_lent
  load_lent-sized z = rw z

  module _ (z : sized l ≡ true) (f : Front) (e : f ≡ front_of s) where
    pub lent-refused : (why : Refusal) → f.place.verdict ≡ Err why → Gives l l (Err why) [] (load_lent l s)
    lent-refused why h = gives-kept l (Err why) [] (load_lent l s) (load-refused (table_of l) s f e why h ∙ load_lent-sized z)

    pub lent-records : (q : GotContexts) (p : Place) (after : Lent) (o : Outcome) → f.place.verdict ≡ Ok tt
        → q ≡ records_of s f.place f.settings.contexts
        → p ≡ allowed q.place (eqb q.place.cursor.at (length s))
        → Gives l after o [] (settled (table_of l) p (record { settings = f.settings; contexts = q.contexts }))
        → Gives l after o [] (load_lent l s)
    lent-records q p after o h k g v =
        gives-by l after o [] (settled (table_of l) p (record { settings = f.settings; contexts = q.contexts })) (load_lent l s)
        (load-records (table_of l) s f e q p h k g ∙ load_lent-sized z) v

---- settled

module _ (l : Lent) (p : Place) (new : Table) where
  pub settled-refused : (why : Refusal) → p.verdict ≡ Err why → Gives l l (Err why) [] (settled (table_of l) p new)
  settled-refused why e = gives-kept l (Err why) [] (settled (table_of l) p new) (rw e)

  pub settled-accepted : (after : Lent) → p.verdict ≡ Ok tt → table_of after ≡ new
      → Gives l after (Ok 0) [] (settled (table_of l) p new)
  settled-accepted after e h = gives-accepted l after 0 [] (settled (table_of l) p new) (rw (e, h))

---- contexts put one after another

pub record Storing (s : Settings) (contexts : List DecompressorContext) (i : ℕ) (l : Lent) : Type 0 where
  pub fit : Fits l
  pub settings : (table_of l).settings ≡ s
  pub front : take i (table_of l).contexts ≡ take i contexts

module _ (s : Settings) (contexts : List DecompressorContext) where
  pub storing-more : (i : ℕ) (l after : Lent) → i < 64 → length contexts ≡ 64 → Storing s contexts i l
      → Puts l i (get_or contexts i no_context) after → Storing s contexts (i + 1) after
  storing-more i l after h n g p = record {
    fit = p.fit;
    settings = ap (λ (t : Table). t.settings) p.table ∙ g.settings;
    front = rw (add-one, p.table, take-suc contexts i no_context (omega arith), ← g.front)
        (take-suc-set (table_of l).contexts i (get_or contexts i no_context) (omega (arith, length-table_of l g.fit)));
  }

  pub storing-all : (i : ℕ) (l : Lent) → 64 ≤ i → length contexts ≡ 64 → Storing s contexts i l
      → table_of l ≡ record { settings = s; contexts = contexts }
  storing-all i l h n g =
      let e = sym (take_all i (table_of l).contexts (omega (arith, length-table_of l g.fit))) ∙ g.front
      ∙ take_all i contexts (omega arith) in
      λ j. record { settings = g.settings j; contexts = e j }
