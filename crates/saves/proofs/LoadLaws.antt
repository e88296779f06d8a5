-- Iarwennol. Laws of what is loaded (rule 14.8): it is a sound table, and saving it gives the same bytes, so that a table has one
-- file; a file that was cut is refused. Assume nothing.
-- Used by nobody: they hold the two directions of the format together.
use Rattle.std.specs.Prelude.{ℕ, zero, suc, ◌+◌, ◌≤◌, ◌<◌, ◌≡◌, Bool, true, false, cond, eqb, leb, length, get_or, set, take}
use Rattle.std.proofs.Math.Path.{refl, ap}
use Rattle.std.proofs.Common.{sym, subst, ◌∙◌, true≢false, add-one, arith, eqb-true, leb-true, le-leb, length-set, length-drop}
use Rattle.std.proofs.Common.{drop_of_length-le, drop-drop, drop-set-lt, take-suc-set}
use mathlib.Core.List.{List, [], ◌∷◌, ◌++◌, append_assoc, append-nil}
use Rattle.std.proofs.Math.ListN.{drop}
use Rattle.std.proofs.lemmas.List.{length-replicate}
use Rattle.codes.specs.Bytes.{AllBytes, big_endian}
use Rattle.codes.specs.Numbers.{cut, forbidden}
use Rattle.codes.specs.Reading.{byte_at, word_at}
use Rattle.codes.proofs.BytesRead.{big_endian-word_at, places-drop}
use Rattle.packet.specs.Refusal.{verdict_number, is_accepted}
use Rattle.packet.specs.RefusalLaws.{number_of-least}
use Rattle.packet.specs.Refusal.{Verdict}
use Rattle.std.specs.Prelude.{Ok, Err}
use Rattle.fields.specs.declared.place.Place.{Place}
use Rattle.fields.specs.declared.place.Got.{Got}
use Rattle.fields.specs.Place.{good, there, or_zero}
use Rattle.fields.specs.Next.{next_byte, next_word}
use Rattle.context.specs.All.{all}
use Rattle.context.specs.Ranges.{ContextInRange}
use Rattle.context.specs.Sound.{sound_decompressor, empty_decompressor}
use Rattle.context.proofs.AllLaws.{all_set, all_replicate, all-dropped}
use Rattle.context.proofs.Arrays.{set_keeps}
use Rattle.context.proofs.DecompressorSound.{sound_none}
use Rattle.decompressor.specs.declared.table.Table.{Table}
use Rattle.decompressor.specs.Answer.{accepted, refused}
use Rattle.decompressor.specs.Table.{no_context, is_empty}
use Rattle.decompressor.proofs.TableLaws.{range-empty_table}
use Rattle.saves.specs.declared.read.Front.{Front}
use Rattle.saves.specs.declared.read.GotContext.{GotContext}
use Rattle.saves.specs.declared.read.GotContexts.{GotContexts}
use Rattle.saves.specs.Saves.{checked, allowed, next_up_to, record_bytes, records_bytes, record_of, records_of, with_record}
use Rattle.saves.specs.Saves.{whole_of}
use Rattle.saves.specs.Saves.{front_of, body_bytes, saved_bytes, settled, load_records, load_of}
use Rattle.saves.proofs.StepLaws.{Goes, checked-goes, allowed-goes, checked-passed, next_byte-goes, next_up_to-goes}
use Rattle.saves.proofs.StepLaws.{next_byte-took, next_word-took, next_up_to-took}
use Rattle.saves.proofs.SizeLaws.{records_bytes-append}
use Rattle.saves.proofs.SavesLaws.{TableFits}
use Rattle.saves.proofs.ReadLaws.{RecordRead, record_of-goes, record_of-read}

---- The records

pub record RecordsRead (s : List ℕ) (at n : ℕ) (g : GotContexts) : Type 0 where
  pub next : ℕ
  pub place : g.place ≡ good next
  pub sound : all sound_decompressor g.contexts ≡ true
  pub rest : all is_empty (drop n g.contexts) ≡ true
  pub size : length g.contexts ≡ 64
  pub range : (i : ℕ) → i < 64 → ContextInRange (get_or g.contexts i no_context)
  pub back : records_bytes (take n g.contexts) ++ drop next s ≡ drop at s

no-records : (s : List ℕ) (at : ℕ) → RecordsRead s at 0 (records_of s (good at) 0)
unfolding empty_decompressor
no-records s at = record {
  next = at;
  place = refl;
  sound = all_replicate sound_decompressor 64 empty_decompressor sound_none;
  rest = all_replicate is_empty 64 empty_decompressor refl;
  size = length-replicate 64 empty_decompressor;
  range = range-empty_table (record { repeats = 0; contexts = 1 });
  back = refl;
}

-- one more
module _ (s : List ℕ) (at n : ℕ) (small : n < 64) (q : GotContexts) (g : GotContext) (p : RecordsRead s at n q)
    (r : RecordRead s p.next g) where
  rest_more : all is_empty (drop (suc n) (set q.contexts n g.context)) ≡ true
  rest_more =
      rw (drop-set-lt (suc n) q.contexts n g.context (omega arith), ← add-one, ← drop-drop 1 n q.contexts)
      (all-dropped is_empty 1 (drop n q.contexts) p.rest)

  bytes-more : records_bytes (take (suc n) (set q.contexts n g.context))
      ≡ records_bytes (take n q.contexts) ++ record_bytes g.context
  bytes-more =
      ap records_bytes (take-suc-set q.contexts n g.context (omega (arith, p.size)))
      ∙ records_bytes-append (take n q.contexts) (g.context ∷ [])
      ∙ ap (λ (x : List ℕ). records_bytes (take n q.contexts) ++ x) (append-nil (record_bytes g.context))

  back_more : records_bytes (take (suc n) (set q.contexts n g.context)) ++ drop r.next s ≡ drop at s
  back_more =
      ap (λ (x : List ℕ). x ++ drop r.next s) bytes-more
      ∙ append_assoc (records_bytes (take n q.contexts)) (record_bytes g.context) (drop r.next s)
      ∙ ap (λ (x : List ℕ). records_bytes (take n q.contexts) ++ x) r.back
      ∙ p.back

  more-records : RecordsRead s at (suc n) (with_record n q g)
  more-records = record {
    next = r.next;
    place = r.place;
    sound = all_set sound_decompressor q.contexts n g.context r.sound p.sound;
    rest = rest_more;
    size = length-set q.contexts n g.context ∙ p.size;
    range = λ i h. set_keeps ContextInRange q.contexts n i g.context no_context (λ e. r.range) (p.range i h);
    back = back_more;
  }

module _ (s : List ℕ) (a : AllBytes s) (at : ℕ) where
  records-step : (n : ℕ) → n < 64 → (q : GotContexts) → RecordsRead s at n q → Goes (record_of s q.place).place
      → RecordsRead s at (suc n) (with_record n q (record_of s q.place))
  records-step n h q p x =
      more-records s at n h q (record_of s q.place) p
      (subst (λ (y : Place). RecordRead s p.next (record_of s y)) (sym p.place)
      (record_of-read s p.next a (subst (λ (y : Place). Goes (record_of s y).place) p.place x)))

  pub records_of-read : (n : ℕ) → n ≤ 64 → Goes (records_of s (good at) n).place → RecordsRead s at n (records_of s (good at) n)
  records_of-read zero h x = no-records s at
  records_of-read (suc n) h x =
      records-step n h (records_of s (good at) n)
      (records_of-read n (omega arith) (record_of-goes s (records_of s (good at) n).place x)) x

---- What stands before them

pub record FrontRead (s : List ℕ) (f : Front) : Type 0 where
  pub there : 5 ≤ length s
  pub whole : 2 + word_at s 0 ≡ length s
  pub version : byte_at s 2 ≡ 1
  pub repeats : byte_at s 3 ≤ 14
  pub least : 1 ≤ byte_at s 4
  pub most : byte_at s 4 ≤ 64
  pub same : f ≡ record { place = good 5; settings = record { repeats = byte_at s 3; contexts = byte_at s 4 } }

module _ (s : List ℕ) where
  module _ (x : Goes (whole_of s)) where
    abbrev size : Got ℕ
    size = next_word s (good 0) true

    abbrev not_less : Bool
    not_less = leb (2 + (or_zero size.field)) (length s)

    abbrev not_more : Bool
    not_more = leb (length s) (2 + (or_zero size.field))

    more-goes : Goes (checked size.place not_less cut) × (not_more ≡ true)
    unfolding whole_of
    more-goes = allowed-goes (checked size.place not_less cut) not_more x

    less-goes : Goes size.place × (not_less ≡ true)
    less-goes = checked-goes size.place not_less cut refl more-goes.0

    size-took : (0 + 2 ≤ length s) × (size ≡ there 2 (word_at s 0))
    size-took = next_word-took s 0 less-goes.0

    whole_length : 2 + word_at s 0 ≡ length s
    whole_length =
        let l = leb-true (2 + word_at s 0) (length s) (rw size-took.1 at less-goes.1) in
        let m = leb-true (length s) (2 + word_at s 0) (rw size-took.1 at more-goes.1) in
        omega arith

    whole_of-read : whole_of s ≡ good 2
    unfolding whole_of
    whole_of-read =
        ap (λ (ok : Bool). allowed (checked size.place not_less cut) ok) more-goes.1
        ∙ checked-passed (checked size.place not_less cut) forbidden
        ∙ ap (λ (ok : Bool). checked size.place ok cut) less-goes.1
        ∙ checked-passed size.place cut
        ∙ ap (λ (g : Got ℕ). g.place) size-took.1

  module _ (x : Goes (front_of s).place) where
    abbrev version : Got ℕ
    version = next_byte s (whole_of s) true

    abbrev is_one : Bool
    is_one = eqb (or_zero version.field) 1

    abbrev repeats : Got ℕ
    repeats = next_up_to s (allowed version.place is_one) true 14

    abbrev contexts : Got ℕ
    contexts = next_up_to s repeats.place true 64

    goes-contexts : Goes contexts.place × (leb 1 (or_zero contexts.field) ≡ true)
    unfolding front_of
    goes-contexts = allowed-goes contexts.place (leb 1 (or_zero contexts.field)) x

    goes-repeats : Goes repeats.place
    goes-repeats = (next_up_to-goes s repeats.place true 64 goes-contexts.0).0

    goes-version : Goes version.place × (is_one ≡ true)
    goes-version = allowed-goes version.place is_one (next_up_to-goes s (allowed version.place is_one) true 14 goes-repeats).0

    goes-whole : Goes (whole_of s)
    goes-whole = next_byte-goes s (whole_of s) true goes-version.0

    version-step : version ≡ next_byte s (good 2) true
    version-step = ap (λ (p : Place). next_byte s p true) (whole_of-read goes-whole)

    version-took : (2 + 1 ≤ length s) × (next_byte s (good 2) true ≡ there 3 (byte_at s 2))
    version-took = next_byte-took s 2 (rw version-step at goes-version.0)

    version-is : version ≡ there 3 (byte_at s 2)
    version-is = version-step ∙ version-took.1

    repeats-step : repeats ≡ next_up_to s (good 3) true 14
    repeats-step =
        ap (λ (ok : Bool). next_up_to s (allowed version.place ok) true 14) goes-version.1
        ∙ ap (λ (p : Place). next_up_to s p true 14) (checked-passed version.place forbidden)
        ∙ ap (λ (g : Got ℕ). next_up_to s g.place true 14) version-is

    repeats-took : (3 + 1 ≤ length s) × (byte_at s 3 ≤ 14) × (next_up_to s (good 3) true 14
        ≡ there 4 (byte_at s 3))
    repeats-took = next_up_to-took s 3 14 (rw repeats-step at goes-repeats)

    repeats-is : repeats ≡ there 4 (byte_at s 3)
    repeats-is = repeats-step ∙ repeats-took.2

    contexts-step : contexts ≡ next_up_to s (good 4) true 64
    contexts-step = ap (λ (g : Got ℕ). next_up_to s g.place true 64) repeats-is

    contexts-took : (4 + 1 ≤ length s) × (byte_at s 4 ≤ 64) × (next_up_to s (good 4) true 64
        ≡ there 5 (byte_at s 4))
    contexts-took = next_up_to-took s 4 64 (rw contexts-step at goes-contexts.0)

    contexts-is : contexts ≡ there 5 (byte_at s 4)
    contexts-is = contexts-step ∙ contexts-took.2

    front_same : front_of s ≡ record { place = good 5; settings = record { repeats = byte_at s 3; contexts = byte_at s 4 } }
    unfolding front_of
    front_same = λ i. record {
      place = (ap (allowed contexts.place) goes-contexts.1 ∙ checked-passed contexts.place forbidden
          ∙ ap (λ (g : Got ℕ). g.place) contexts-is) i;
      settings = record { repeats = or_zero (repeats-is i).field; contexts = (or_zero (contexts-is i).field) };
    }

    pub front_of-read : FrontRead s (front_of s)
    front_of-read = record {
      there = contexts-took.0;
      whole = whole_length goes-whole;
      version = eqb-true (byte_at s 2) 1 (rw version-is at goes-version.1);
      repeats = repeats-took.1;
      least = leb-true 1 (byte_at s 4) (rw contexts-is at goes-contexts.1);
      most = contexts-took.1;
      same = front_same;
    }

---- A load that was accepted

-- a number of 0 is that of no refusal
pub zero-accepted : (v : Verdict) → verdict_number v ≡ 0 → is_accepted v ≡ true
zero-accepted (Ok u) e = refl
zero-accepted (Err r) e = absurd (omega (arith, e, number_of-least r))

settled-by : (t : Table) (p : Place) (new : Table) (b : Bool) → is_accepted p.verdict ≡ b
    → let r = cond b (accepted new [] []) (refused t (verdict_number p.verdict) []) in r.number ≡ 0 → Goes p × (r.table ≡ new)
settled-by t p new true e z = (e, refl)
settled-by t p new false e z = absurd (true≢false (sym (zero-accepted p.verdict z) ∙ e))

settled-goes : (t : Table) (p : Place) (new : Table) → (settled t p new).number ≡ 0 → Goes p × ((settled t p new).table ≡ new)
settled-goes t p new z = settled-by t p new (is_accepted p.verdict) refl z

-- the bytes s, of which the front and the records were read to their end
module _ (s : List ℕ) (a : AllBytes s) (f : Front) (r : FrontRead s f) (q : GotContexts)
    (p : RecordsRead s 5 (byte_at s 4) q) (ended : p.next ≡ length s) where
  abbrev read : Table
  read = record { settings = record { repeats = byte_at s 3; contexts = byte_at s 4 }; contexts = q.contexts }

  read_fits : TableFits read
  read_fits = record {
    sound = record {
      settings = rw (le-leb (byte_at s 3) 14 r.repeats, le-leb 1 (byte_at s 4) r.least, le-leb (byte_at s 4) 64 r.most);
      contexts = p.sound;
      rest = p.rest;
    };
    size = p.size;
    range = p.range;
  }

  records-back : records_bytes (take (byte_at s 4) q.contexts) ≡ drop 5 s
  records-back =
      sym (append-nil (records_bytes (take (byte_at s 4) q.contexts)))
      ∙ ap (λ (x : List ℕ). records_bytes (take (byte_at s 4) q.contexts) ++ x) (sym nothing_left)
      ∙ p.back
    where
      nothing_left : drop p.next s ≡ []
      nothing_left = drop_of_length-le s {i = p.next} (omega (arith, ended))

  body_back : body_bytes read ≡ byte_at s 2 ∷ byte_at s 3 ∷ byte_at s 4 ∷ drop 5 s
  body_back = λ i. sym r.version i ∷ byte_at s 3 ∷ byte_at s 4 ∷ records-back i

  body-length : length (body_bytes read) ≡ word_at s 0
  body-length =
      ap (length {A = ℕ}) body_back
      ∙ omega (arith, length-drop 5 s, r.whole, r.there)

  saved-back : saved_bytes read ≡ s
  unfolding saved_bytes
  saved-back =
      (λ i. big_endian 2 (body-length i) ++ body_back i)
      ∙ ap (λ (x : List ℕ). x ++ (byte_at s 2 ∷ byte_at s 3 ∷ byte_at s 4 ∷ drop 5 s)) (big_endian-word_at a 0)
      ∙ places-drop 5 s r.there

-- what an accepted load leaves
pub record Loaded (s : List ℕ) (t : Table) : Type 0 where
  -- a sound table, each number within its type
  pub fits : TableFits t
  -- saved again, it is the same file
  pub same : saved_bytes t ≡ s

module _ (t : Table) (s : List ℕ) (a : AllBytes s) where
  abbrev front : Front
  front = record { place = good 5; settings = record { repeats = byte_at s 3; contexts = byte_at s 4 } }

  records-load : FrontRead s front
      → (load_records t front.settings (records_of s (good 5) (byte_at s 4)) s).number ≡ 0
      → Loaded s (load_records t front.settings (records_of s (good 5) (byte_at s 4)) s).table
  records-load r z =
      let q = records_of s (good 5) (byte_at s 4) in
      let ended = eqb q.place.cursor.at (length s) in
      let new : Table = record { settings = front.settings; contexts = q.contexts } in
      let g = settled-goes t (allowed q.place ended) new z in
      let x = allowed-goes q.place ended g.0 in
      let p = records_of-read s a 5 (byte_at s 4) r.most x.0 in
      let n = sym (ap (λ (y : Place). y.cursor.at) p.place) ∙ eqb-true q.place.cursor.at (length s) x.1 in
      subst (Loaded s) (sym g.1) (record { fits = read_fits s a front r q p n; same = saved-back s a front r q p n })

  load-by : (f : Front) (b : Bool) → is_accepted f.place.verdict ≡ b → (Goes f.place → FrontRead s f)
      → let x = cond b (load_records t f.settings (records_of s f.place f.settings.contexts) s)
      (refused t (verdict_number f.place.verdict) []) in
      x.number ≡ 0 → Loaded s x.table
  load-by f true e r z = by_front (r e) z
    where
      by_front : FrontRead s f → (load_records t f.settings (records_of s f.place f.settings.contexts) s).number ≡ 0
          → Loaded s (load_records t f.settings (records_of s f.place f.settings.contexts) s).table
      by_front r z =
          subst (λ (y : Front). FrontRead s y
          → (load_records t y.settings (records_of s y.place y.settings.contexts) s).number ≡ 0
          → Loaded s (load_records t y.settings (records_of s y.place y.settings.contexts) s).table)
          (sym r.same) records-load r z
  load-by f false e r z = absurd (true≢false (sym (zero-accepted f.place.verdict z) ∙ e))

  -- rule 14.8: what loads is sound, and saving it gives the same bytes
  pub load_read : (load_of t s).number ≡ 0 → Loaded s (load_of t s).table
  unfolding load_of
  load_read z = load-by (front_of s) (is_accepted (front_of s).place.verdict) refl (λ x. front_of-read s x) z
