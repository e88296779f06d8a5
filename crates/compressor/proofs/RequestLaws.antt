-- Iarwennol. Laws of a request. Assume nothing.
-- Used by the proofs of request, and by the theorem on lists of calls (crtp).
use Rattle.std.specs.Prelude.{ℕ, zero, suc, ◌+◌, ◌<◌, ◌≡◌, refl, Bool, true, false, cond, List, [], ◌∷◌, eqb, length, get_or, set}
use Rattle.std.specs.Prelude.{drop}
use Rattle.std.proofs.Common.{sym, ap, ◌∙◌, add-one, arith, length-set, length-drop, get_or-drop}
use Rattle.std.proofs.lemmas.List.{set-get_or}
use Rattle.links.specs.Cs.{record_count, record_context, record_asks, request_judged}
use Rattle.packet.specs.declared.refusal.Refusal.{Refusal}
use Rattle.packet.specs.Refusal.{number_of}
use Rattle.packet.specs.RefusalLaws.{number_of-refused}
use Rattle.context.specs.All.{all}
use Rattle.context.proofs.AllLaws.{all-at}
use Rattle.context.proofs.Arrays.{set_keeps}
use Rattle.context.specs.Compressor.{skips, started_unless_due, requested_by, requested}
use Rattle.context.proofs.Relation.{Held}
use Rattle.context.specs.Sound.{sound_compressor}
use Rattle.context.specs.declared.compressor.Usage.{Usage}
use Rattle.context.specs.declared.compressor.Usage.TheVariants.{Empty, Live}
use Rattle.context.specs.declared.compressor.CompressorContext.{CompressorContext}
use Rattle.context.proofs.CompressorSound.{sound-requested, requested-kept}
use Rattle.context.proofs.Begun.{started-held}
use Rattle.context.proofs.Tests.{cond_both}
use Rattle.compressor.specs.declared.table.Table.{Table}
use Rattle.compressor.specs.Answer.{accepted, refused}
use Rattle.compressor.specs.Table.{no_context, context_at, is_empty, empty_by, sound_of}
use Rattle.compressor.specs.Table.{Sound}
use Rattle.compressor.specs.Request.{asked, asked_all, request_table, request_by, request_of}

---- all, by its elements

all-elements : {A : Type 0} (f : A → Bool) (l : List A) (d : A) → ((i : ℕ) → i < length l → f (get_or l i d) ≡ true)
    → all f l ≡ true
all-elements f [] d h = refl
all-elements f (x ∷ l) d h = rw (h 0 (omega arith)) (all-elements f l d (λ i k. h (suc i) (omega arith)))

---- asked

-- a record that asks for nothing stores the context that was there
asked-set : (n : ℕ) (asks : Bool) (i : ℕ) (cs : List CompressorContext)
    → set cs i (cond asks (requested n (get_or cs i no_context)) (get_or cs i no_context)) ≡ asked n asks i cs
asked-set n true i cs = refl
asked-set n false i cs = set-get_or cs i no_context

---- asked_all

asked_all-next : (n : ℕ) (s : List ℕ) (cs : List CompressorContext) (i : ℕ)
    → asked n (record_asks s i) (record_context s i) (asked_all n s cs i) ≡ asked_all n s cs (i + 1)
asked_all-next n s cs i = sym (ap (λ (k : ℕ). asked_all n s cs k) (add-one i))

-- one record more, for a loop that goes over them
module _ (n : ℕ) (s : List ℕ) (cs now : List CompressorContext) (i : ℕ) where
  pub asked_all-more : (asks : Bool) (place : ℕ) (d : CompressorContext) → now ≡ asked_all n s cs i
      → asks ≡ record_asks s i → place ≡ record_context s i
      → d ≡ cond asks (requested n (get_or now place no_context)) (get_or now place no_context)
      → set now place d ≡ asked_all n s cs (i + 1)
  asked_all-more asks place d e a p q = rw (q, asked-set n asks place now) (rw (e, a, p) (asked_all-next n s cs i))

---- request_of

module _ (t : Table) (s : List ℕ) where
  pub request_table-made : (next : Table) (i : ℕ) → i ≡ record_count s → next.settings ≡ t.settings
      → next.contexts ≡ asked_all t.settings.repeats s t.contexts i → next ≡ request_table t s
  request_table-made next i e p q =
      let r : next.contexts ≡ (request_table t s).contexts = rw (← e) q in
      λ j. record { settings = p j; contexts = r j }

  pub request_of-unsound : sound_of t ≡ false → refused t 1 [] ≡ request_of t s
  unfolding request_of
  request_of-unsound e = rw e

  module _ (e : sound_of t ≡ true) where
    pub request_of-good : request_judged t.settings.contexts s ≡ 0 → accepted (request_table t s) 0 [] [] ≡ request_of t s
    unfolding request_of
    request_of-good q = rw (e, q)

    pub request_of-refused : (r : Refusal) → request_judged t.settings.contexts s ≡ number_of r
        → refused t (number_of r) [] ≡ request_of t s
    unfolding request_of
    request_of-refused r q = rw (e, q, number_of-refused r)

---- what a request leaves of each context

module _ (n : ℕ) (P : CompressorContext → Type 0) (step : (c : CompressorContext) → P c → P (requested n c)) where
  -- one record, at one place
  asked-keeps : (cs : List CompressorContext) (k i : ℕ) (asks : Bool) → P (get_or cs i no_context)
      → P (get_or (asked n asks k cs) i no_context)
  asked-keeps cs k i true before =
      set_keeps P cs k i (requested n (get_or cs k no_context)) no_context (λ e. step (get_or cs k no_context) (rw e at before))
      before
  asked-keeps cs k i false before = before

  asked_all-keeps : (s : List ℕ) (cs : List CompressorContext) (m i : ℕ) → P (get_or cs i no_context)
      → P (get_or (asked_all n s cs m) i no_context)
  asked_all-keeps s cs zero i before = before
  asked_all-keeps s cs (suc m) i before =
      asked-keeps (asked_all n s cs m) (record_context s m) i (record_asks s m) (asked_all-keeps s cs m i before)

length-asked : (n k : ℕ) (cs : List CompressorContext) (asks : Bool) → length (asked n asks k cs) ≡ length cs
length-asked n k cs true = length-set cs k (requested n (get_or cs k no_context))
length-asked n k cs false = refl

length-asked_all : (n : ℕ) (s : List ℕ) (cs : List CompressorContext) (m : ℕ) → length (asked_all n s cs m) ≡ length cs
length-asked_all n s cs zero = refl
length-asked_all n s cs (suc m) =
    length-asked n (record_context s m) (asked_all n s cs m) (record_asks s m) ∙ length-asked_all n s cs m

-- a table after a request: every context as it was, or asked for full headers some number of times
pub record Asks (t after : Table) : Type 1 where
  pub settings : after.settings ≡ t.settings
  pub size : length after.contexts ≡ length t.contexts
  pub keeps : (P : CompressorContext → Type 0) → ((c : CompressorContext) → P c → P (requested t.settings.repeats c))
      → (i : ℕ) → P (context_at t i) → P (context_at after i)

asks_nothing : (t : Table) → Asks t t
asks_nothing t = record { settings = refl; size = refl; keeps = λ P step i before. before }

asks-table : (t : Table) (s : List ℕ) → Asks t (request_table t s)
asks-table t s = record {
  settings = refl;
  size = length-asked_all t.settings.repeats s t.contexts (record_count s);
  keeps = λ P step i before. asked_all-keeps t.settings.repeats P step s t.contexts (record_count s) i before;
}

asks-if : (t : Table) (s : List ℕ) (number : ℕ) (b : Bool)
    → Asks t (cond b (accepted (request_table t s) 0 [] []) (refused t number [])).table
asks-if t s number true = asks-table t s
asks-if t s number false = asks_nothing t

asks-by : (t : Table) (s : List ℕ) (number : ℕ) → Asks t (request_by number t s).table
asks-by t s number = asks-if t s number (eqb number 0)

asks-sound : (t : Table) (s : List ℕ) (b : Bool) → sound_of t ≡ b → Asks t (request_of t s).table
unfolding request_of
asks-sound t s true e = rw e (asks-by t s (request_judged t.settings.contexts s))
asks-sound t s false e = rw e (asks_nothing t)

pub request-asks : (t : Table) (s : List ℕ) → Asks t (request_of t s).table
request-asks t s = asks-sound t s (sound_of t) refl

---- a sound table

requested-empty : (n : ℕ) (c : CompressorContext) → is_empty (requested n c) ≡ is_empty c
requested-empty n c = ap empty_by (requested-kept n c).status

module _ (t after : Table) (a : Asks t after) (s : Sound t) where
  sound-each : (i : ℕ) → i < length after.contexts
      → sound_compressor t.settings.repeats (get_or after.contexts i no_context) ≡ true
  sound-each i h =
      a.keeps (λ c. sound_compressor t.settings.repeats c ≡ true) (λ c e. sound-requested t.settings.repeats c e) i
      (all-at (sound_compressor t.settings.repeats) t.contexts i no_context (omega (arith, a.size)) s.contexts)

  empty-each : (i : ℕ) → i < length (drop t.settings.contexts after.contexts)
      → is_empty (get_or (drop t.settings.contexts after.contexts) i no_context) ≡ true
  empty-each i h =
      let k = t.settings.contexts in
      let n = length-drop k after.contexts in
      let m = length-drop k t.contexts in
      let e : is_empty (get_or t.contexts (k + i) no_context) ≡ true =
      rw (get_or-drop k t.contexts i no_context)
      at (all-at is_empty (drop k t.contexts) i no_context (omega (arith, a.size)) s.rest) in
      rw (get_or-drop k after.contexts i no_context)
      (a.keeps (λ c. is_empty c ≡ true) (λ c e. requested-empty t.settings.repeats c ∙ e) (k + i) e)

  asks-keeps-sound : Sound after
  asks-keeps-sound = record {
    settings = rw a.settings s.settings;
    contexts = rw a.settings (all-elements (sound_compressor t.settings.repeats) after.contexts no_context sound-each);
    rest = rw a.settings (all-elements is_empty (drop t.settings.contexts after.contexts) no_context empty-each);
  }

pub sound-request : (t : Table) (s : List ℕ) → Sound t → Sound (request_of t s).table
sound-request t s k = asks-keeps-sound t (request_of t s).table (request-asks t s) k

---- numbers within their types

held-unless : (n : ℕ) (c : CompressorContext) → Held c → Held (started_unless_due n c)
unfolding started_unless_due
held-unless n c h = cond_both Held (skips c) _ _ h (started-held n c h)

held_by : (u : Usage) (n : ℕ) (c : CompressorContext) → Held c → Held (requested_by u n c)
held_by Empty n c h = h
held_by Live n c h = held-unless n c h

held-requested : (n : ℕ) (c : CompressorContext) → Held c → Held (requested n c)
unfolding requested
held-requested n c h = held_by c.status n c h

pub held-request : (t : Table) (s : List ℕ) → ((i : ℕ) → Held (context_at t i)) → (i : ℕ)
    → Held (context_at (request_of t s).table i)
held-request t s held i = (request-asks t s).keeps Held (held-requested t.settings.repeats) i (held i)
