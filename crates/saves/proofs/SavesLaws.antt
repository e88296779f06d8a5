-- Iarwennol. Loading what was saved gives the same table, whatever table is handed in (rule 14.8). Assumes nothing; that numbers
-- are within their types, which a definition cannot see, is asked of the table.
-- Used by the theorem on lists of calls (crtp).
use Rattle.std.specs.Prelude.{ℕ, zero, suc, ◌+◌, ◌-◌, ◌^◌, ◌≤◌, ◌<◌, ◌≡◌, Bool, false, cond, not, List, [], ◌∷◌, ◌++◌, ltb, length}
use Rattle.std.specs.Prelude.{get_or, set, take, drop, replicate}
use Rattle.std.proofs.Math.Path.{refl}
use Rattle.std.proofs.Common.{sym, ap, ◌∙◌, append_assoc, append-nil, add_assoc, add-zero, add-one, arith, length-append}
use Rattle.std.proofs.Common.{length-drop, take-append-drop, take-suc, length-take-le, get_or-drop}
use Rattle.std.proofs.Math.Bool.{true, and-eq-true_iff}
use borrow.Author.Tests.{eq-eqb, le-leb, not-true}
use Rattle.std.proofs.lemmas.List.{set_at}
use Rattle.std.proofs.Math.Seq.{take-append_seam}
use Rattle.codes.specs.Bytes.{big_endian}
use Rattle.codes.specs.Numbers.{unsound, cut, forbidden, no_room}
use Rattle.settings.specs.SettingsLaws.{range-least}
use Rattle.fields.specs.Place.{good}
use Rattle.fields.specs.NextLaws.{left-past, next_byte-written, next_word-written}
use Rattle.context.specs.All.{all}
use Rattle.context.specs.Ranges.{ContextInRange}
use Rattle.context.specs.Sound.{sound_decompressor, sound_decompressor_by, unfilled_sound, empty_decompressor}
use Rattle.context.specs.declared.decompressor.Status.{Status}
use Rattle.context.specs.declared.decompressor.Status.TheVariants.{Empty, Live, Broken}
use Rattle.context.specs.declared.decompressor.DecompressorContext.{DecompressorContext}
use Rattle.context.proofs.AllLaws.{all-dropped}
use Rattle.context.proofs.Unfilled.{blank, unfilled-blank}
use Rattle.decompressor.specs.declared.table.Table.{Table}
use Rattle.decompressor.specs.Answer.{Result, accepted, refused, delivered}
use Rattle.decompressor.specs.Table.{no_context, context_at, empty_by, is_empty, sound_of, Sound}
use Rattle.decompressor.proofs.TableLaws.{sound-context_at, sound-repeats, sound-most}
use Rattle.saves.specs.declared.read.GotContexts.{GotContexts}
use Rattle.saves.specs.Saves.{record_bytes, records_bytes, records_of, front_bytes, whole_of, front_of}
use Rattle.saves.specs.Saves.{body_bytes, saved_bytes, save_of, load_of}
use Rattle.saves.proofs.StepLaws.{checked-passed, next_up_to-written}
use Rattle.saves.proofs.SizeLaws.{records_bytes-more, length-saved_bytes, saves-longest}
use Rattle.saves.proofs.RecordLaws.{record_of-bytes}

---- A context that is empty

empty-by : (c : DecompressorContext) (x : Status) → c.status ≡ x → empty_by x ≡ true → sound_decompressor_by x c ≡ true
    → length c.csrc.words ≡ 15 → c ≡ empty_decompressor
unfolding sound_decompressor_by empty_decompressor
empty-by c Empty u e z n =
    let p = (and-eq-true_iff (not c.filled) (unfilled_sound c)).0 z in
    unfilled-blank c (not-true c.filled p.0) p.1 n ∙ ap blank u
empty-by c Live u e z n = cc
empty-by c Broken u e z n = cc

empty-same : (c : DecompressorContext) → is_empty c ≡ true → sound_decompressor c ≡ true → length c.csrc.words ≡ 15
    → c ≡ empty_decompressor
unfolding sound_decompressor
empty-same c e z n = empty-by c c.status refl e z n

all-empty : (l : List DecompressorContext) → all is_empty l ≡ true → all sound_decompressor l ≡ true
    → ((i : ℕ) → i < length l → length (get_or l i no_context).csrc.words ≡ 15) → l ≡ replicate (length l) empty_decompressor
all-empty [] e z n = refl
all-empty (c ∷ cs) e z n =
    let p = (and-eq-true_iff (is_empty c) (all is_empty cs)).0 e in
    let q = (and-eq-true_iff (sound_decompressor c) (all sound_decompressor cs)).0 z in
    λ i. empty-same c p.0 q.0 (n 0 (omega arith)) i ∷ all-empty cs p.1 q.1 (λ j h. n (suc j) (omega arith)) i

---- A table

-- a sound table, each of whose numbers is within its type
pub record TableFits (t : Table) : Type 0 where
  pub sound : Sound t
  pub size : length t.contexts ≡ 64
  pub range : (i : ℕ) → i < 64 → ContextInRange (context_at t i)

module _ (t : Table) (f : TableFits t) where
  abbrev most : ℕ
  most = t.settings.contexts

  abbrev cs : List DecompressorContext
  cs = t.contexts

  ---- the records

  -- the first n contexts, and empty ones past them
  abbrev front : ℕ → List DecompressorContext
  front n = take n cs ++ replicate (64 - n) empty_decompressor

  front-more : (n : ℕ) → n < 64 → set (front n) n (context_at t n) ≡ front (suc n)
  front-more n h =
      let z : 64 - n ≡ suc (64 - suc n) = omega arith in
      let q = length-take-le n cs (omega (arith, f.size)) in
      rw (z, take-suc cs n no_context (omega (arith, f.size)), append_assoc)
      (set_at (take n cs) empty_decompressor (replicate (64 - suc n) empty_decompressor) (context_at t n) n q)

  rest-empty : drop most cs ≡ replicate (64 - most) empty_decompressor
  rest-empty =
      all-empty (drop most cs) f.sound.rest (all-dropped sound_decompressor most cs f.sound.contexts) sized
      ∙ ap (λ (k : ℕ). replicate k empty_decompressor) (length-drop most cs ∙ ap (λ (k : ℕ). k - most) f.size)
    where
      sized : (i : ℕ) → i < length (drop most cs) → length (get_or (drop most cs) i no_context).csrc.words ≡ 15
      sized i h = rw (get_or-drop most cs i no_context)
          (f.range (most + i) (omega (arith, length-drop most cs, f.size))).csrc.size

  front-whole : front most ≡ cs
  front-whole = rw (← rest-empty) (take-append-drop most cs)

  bytes-suc : (n : ℕ) → n < 64 → records_bytes (take (suc n) cs) ≡ records_bytes (take n cs) ++ record_bytes (context_at t n)
  bytes-suc n h = rw add-one at (records_bytes-more cs n no_context (omega (arith, f.size)))

  module _ (s : List ℕ) (at : ℕ) where
    abbrev read_to : ℕ → GotContexts
    read_to n = record { place = good (at + length (records_bytes (take n cs))); contexts = front n }

    records-more : (n : ℕ) (l : List ℕ) → n < 64 → drop at s ≡ records_bytes (take n cs) ++ (record_bytes (context_at t n) ++ l)
        → records_of s (good at) n ≡ read_to n → records_of s (good at) (suc n) ≡ read_to (suc n)
    records-more n l h e ih =
        let bs = records_bytes (take n cs) in
        let c = context_at t n in
        rw (
          ih,
          record_of-bytes c (f.range n h) s (at + length bs) l (sound-context_at t n f.sound)
              (left-past s at bs (record_bytes c ++ l) e),
          front-more n h,
          bytes-suc n h,
          length-append bs (record_bytes c),
          add_assoc,
        )

    records-from : (n : ℕ) (l : List ℕ) → n ≤ 64 → drop at s ≡ records_bytes (take n cs) ++ l → records_of s (good at) n ≡ read_to n
    records-from zero l h e = rw add-zero
    records-from (suc n) l h e =
        let d = rw (bytes-suc n h, append_assoc (records_bytes (take n cs)) (record_bytes (context_at t n)) l) at e in
        records-more n l h d (records-from n (record_bytes (context_at t n) ++ l) (omega arith) d)

  ---- what stands before them

  abbrev records : List ℕ
  records = records_bytes (take most cs)

  abbrev body : ℕ
  body = length (body_bytes t)

  body-fits : body < 2 ^ 16
  body-fits = omega (arith, length-saved_bytes t, saves-longest t f.sound)

  module _ (s : List ℕ) (e : s ≡ saved_bytes t) where
    length-s : length s ≡ 2 + body
    unfolding saved_bytes
    length-s = rw e (omega arith)

    left-start : drop 0 s ≡ big_endian 2 body ++ body_bytes t
    unfolding saved_bytes
    left-start = e

    whole_of-saved : whole_of s ≡ good 2
    unfolding whole_of
    whole_of-saved =
        rw (
          next_word-written s 0 true body (body_bytes t) body-fits left-start,
          le-leb (2 + body) (length s) (omega (arith, length-s)),
          le-leb (length s) (2 + body) (omega (arith, length-s)),
          checked-passed (good 2) cut,
          checked-passed (good 2) forbidden,
        )

    front_of-saved : front_of s ≡ record { place = good 5; settings = t.settings }
    unfolding front_of
    front_of-saved =
        let n = t.settings.repeats in
        let e2 = left-past s 0 (big_endian 2 body) (body_bytes t) left-start in
        let e3 = left-past s 2 (1 ∷ []) (n ∷ most ∷ records) e2 in
        let e4 = left-past s 3 (n ∷ []) (most ∷ records) e3 in
        rw (
          whole_of-saved,
          next_byte-written s 2 true 1 (n ∷ most ∷ records) e2,
          checked-passed (good 3) forbidden,
          next_up_to-written s 3 14 n (most ∷ records) (sound-repeats t f.sound) e3,
          next_up_to-written s 4 64 most records (sound-most t f.sound) e4,
          le-leb 1 most (range-least n most f.sound.settings),
          checked-passed (good 5) forbidden,
        )

    left-records : drop 5 s ≡ records ++ []
    left-records =
        left-past s 0 (big_endian 2 body ++ front_bytes t.settings) records left-start ∙ sym (append-nil records)

    records-end : 5 + length records ≡ length s
    records-end = omega (arith, length-s)

    records-saved : records_of s (good 5) most ≡ record { place = good (length s); contexts = cs }
    records-saved =
        records-from s 5 most [] (sound-most t f.sound) left-records
        ∙ (λ i. record { place = good (records-end i); contexts = front-whole i })

    -- a table that was saved is loaded
    load_of-saved : (u : Table) → load_of u s ≡ accepted t [] []
    unfolding load_of
    load_of-saved u =
        rw (front_of-saved, records-saved, eq-eqb (length s) (length s) refl, checked-passed (good (length s)) forbidden)

  -- rule 14.8: whatever table u is handed in
  pub load-saved : (u : Table) → load_of u (saved_bytes t) ≡ accepted t [] []
  load-saved u = load_of-saved (saved_bytes t) refl u

---- A save

save-table : (t : Table) (bytes output : List ℕ) (a b : Bool)
    → (cond a (cond b (refused t no_room output) (accepted t bytes output)) (refused t unsound output)).table ≡ t
save-table t bytes output true true = refl
save-table t bytes output true false = refl
save-table t bytes output false b = refl

-- rule 14.4: it leaves the table
pub table-save_of : (t : Table) (output : List ℕ) → (save_of t output).table ≡ t
unfolding save_of
table-save_of t output = save-table t (saved_bytes t) output (sound_of t) (ltb (length output) (length (saved_bytes t)))

-- accepted, what it gave out is the table's bytes
delivered-bytes : (t : Table) (bytes output : List ℕ) (b : Bool)
    → let r = cond b (refused t no_room output) (accepted t bytes output) in
    r.number ≡ 0 → take r.length r.output ≡ bytes
delivered-bytes t bytes output true e = absurd (omega (arith, e))
delivered-bytes t bytes output false e = take-append_seam bytes (drop (length bytes) output)

save-by : (t : Table) (bytes output : List ℕ) (b : Bool) → let r = cond b (delivered t t bytes output) (refused t unsound output) in
    r.number ≡ 0 → take r.length r.output ≡ bytes
save-by t bytes output true e = delivered-bytes t bytes output (ltb (length output) (length bytes)) e
save-by t bytes output false e = absurd (omega (arith, e))

pub save_of-bytes : (t : Table) (output : List ℕ) → (save_of t output).number ≡ 0
    → take (save_of t output).length (save_of t output).output ≡ saved_bytes t
unfolding save_of
save_of-bytes t output e = save-by t (saved_bytes t) output (sound_of t) e

-- rule 14.8: what a save gave out is loaded again, whatever table is handed in
pub load-save : (t u : Table) (output : List ℕ) → Sound t → length t.contexts ≡ 64
    → ((i : ℕ) → i < 64 → ContextInRange (context_at t i)) → (save_of t output).number ≡ 0
    → (load_of u (take (save_of t output).length (save_of t output).output)).table ≡ t
load-save t u output s n r e =
    ap (λ (bs : List ℕ). (load_of u bs).table) (save_of-bytes t output e)
    ∙ ap (λ (x : Result). x.table) (load-saved t (record { sound = s; size = n; range = r }) u)
