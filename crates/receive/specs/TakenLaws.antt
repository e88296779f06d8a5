-- Iarwennol. Laws of an arrival on a copy of its context: the copy, stored back as it was, leaves the table. Assume nothing.
-- Used by the functions that work on such a copy.
use Rattle.std.specs.Prelude.{ℕ, zero, suc, ◌+◌, ◌≤◌, ◌<◌, ◌≡◌, refl, Bool, true, false, cond, not, ◌&&◌, List, [], ◌∷◌, eqb, ltb}
use Rattle.std.specs.Prelude.{length, get_or, set}
use Rattle.std.proofs.Math.Path.{sym, ap}
use Rattle.std.proofs.Common.{◌∙◌, ◌⊎◌, inl, inr, arith, lt-ltb, le-ltb}
use Rattle.std.proofs.lemmas.Bool.{false≢true}
use Rattle.octets.specs.Put.{fronted}
use Rattle.headers.specs.Header.{header_size}
use Rattle.links.specs.declared.head.Head.{Head}
use Rattle.links.specs.declared.head.ReadParts.{ReadParts}
use Rattle.links.specs.declared.whole.ReadWhole.{ReadWhole}
use Rattle.links.specs.Head.{head_of}
use Rattle.links.proofs.HeadLaws.{head_of-low, head_of-within}
use Rattle.links.specs.Cu.{cu_flags_of, cu_of}
use Rattle.links.specs.Cr.{cr_of}
use Rattle.links.specs.Whole.{whole_of}
use Rattle.packet.specs.Refusal as refusal
use Rattle.packet.specs.declared.refusal.Refusal.{Refusal}
use Rattle.packet.specs.declared.refusal.Refusal.TheVariants.{TooLong, NoRoom, Disproved}
use Rattle.packet.specs.Ranges.{Narrow}
use Rattle.context.specs.Decompressor.{broke, rebuilt, Effect, effect_of, applied, applied_whole, checksum_read}
use Rattle.context.specs.declared.decompressor.Applied.{Applied}
use Rattle.context.specs.declared.decompressor.Status.{Status}
use Rattle.context.specs.declared.decompressor.Status.TheVariants.{Empty, Live, Broken}
use Rattle.context.specs.declared.decompressor.DecompressorContext.{DecompressorContext}
use Rattle.std.specs.Prelude.{Ok, Err}
use Rattle.decompressor.specs.declared.table.Table.{Table}
use Rattle.receive.specs.declared.settle.Taken.{Taken}
use Rattle.receive.specs.declared.settle.Arrived.{Arrived}
use Rattle.decompressor.specs.Answer.{Result, accepted, refused, delivered}
use Rattle.decompressor.specs.Table.{no_context, context_at, with_context, Sound}
use Rattle.decompressor.proofs.TableLaws.{sound-repeats, sound-context_at}
use Rattle.decompressor.specs.Receive.{packet_of, is_disproved, rebuild_to, settle_read, receive_parts, receive_whole, receive_old}
use Rattle.decompressor.specs.Receive.{receive_udp, receive_rtp, receive_on}
use Rattle.decompressor.specs.declared.old.OldForm.{OldForm}
use Rattle.decompressor.specs.declared.old.OldForm.TheVariants as old
use Rattle.receive.specs.Taken.{Takes, Arrives, left_broken, HeadRead}

---- with_context

set_get_d : {A : Type 0} (l : List A) (i : ℕ) (d : A) → set l i (get_or l i d) ≡ l
set_get_d [] i d = refl
set_get_d (x ∷ xs) zero d = refl
set_get_d {A} (x ∷ xs) (suc i) d = ap (λ (r : List A). x ∷ r) (set_get_d xs i d)

pub with_context-same : (t : Table) (i : ℕ) (c : DecompressorContext) → context_at t i ≡ c → with_context t i c ≡ t
with_context-same t i c e = ap (with_context t i) (sym e)
    ∙ (λ j. record { settings = t.settings; contexts = set_get_d t.contexts i no_context j })

---- Takes

module _ (n : ℕ) (c : DecompressorContext) (output : List ℕ) where
  -- refused, with the context as it was
  pub takes-refused : (r : Refusal)
      → Takes n c (record { outcome = Err r; context = c }) output (λ t i. refused t (refusal.number_of r) output)
  takes-refused r = record {
    anywhere = λ t i e f. ap (λ (u : Table). refused u (refusal.number_of r) output)
        (with_context-same t i c f);
  }

  -- refused, and the context left otherwise
  pub takes-broken : (r : Refusal) (d : DecompressorContext)
      → Takes n c (record { outcome = Err r; context = d }) output
      (λ t i. refused (with_context t i d) (refusal.number_of r) output)
  takes-broken r d = record { anywhere = λ t i e f. refl }

  -- accepted: the bytes are at the front of the output
  pub takes-accepted : (d : DecompressorContext) (m : ℕ) (bytes after : List ℕ) → m ≡ length bytes → after ≡ fronted output bytes
      → Takes n c (record { outcome = Ok m; context = d }) after (λ t i. accepted (with_context t i d) bytes output)
  takes-accepted d m bytes after e w = record {
    anywhere = λ t i x y. λ j.
        record { number = 0; length = e j; output = w j; table = with_context t i d };
  }

---- rebuild_to

-- a result of so many bytes, that is judged by total; wrong: it is disproved
module _ (n : ℕ) (before c : DecompressorContext) (bytes output : List ℕ) (total : ℕ) (wrong : Bool) where
  abbrev made : Table → ℕ → Result
  made t i =
      cond (ltb 1500 total) (refused t 10 output)
      (cond wrong (refused (with_context t i (broke (context_at t i))) 12 output) (delivered t (with_context t i c) bytes output))

  made-long : 1500 < total → Takes n before (record { outcome = Err TooLong; context = before }) output (λ t i. made t i)
  made-long h = rw (lt-ltb 1500 total h) (takes-refused n before output TooLong)

  module _ (h : total ≤ 1500) where
    made-wrong : (d : DecompressorContext) → d ≡ broke before → wrong ≡ true
        → Takes n before (record { outcome = Err Disproved; context = d }) output (λ t i. made t i)
    made-wrong d b e = record {
      anywhere = λ t i x f. rw (le-ltb 1500 total h, e) (λ j. refused (with_context t i ((b ∙ ap broke (sym f)) j)) 12 output);
    }

    module _ (e : wrong ≡ false) where
      made-no_room : length output < length bytes
          → Takes n before (record { outcome = Err NoRoom; context = before }) output (λ t i. made t i)
      made-no_room r = rw (le-ltb 1500 total h, e, lt-ltb (length output) (length bytes) r) (takes-refused n before output NoRoom)

      made-accepted : (m : ℕ) (after : List ℕ) → length bytes ≤ length output → m ≡ length bytes → after ≡ fronted output bytes
          → Takes n before (record { outcome = Ok m; context = c }) after (λ t i. made t i)
      made-accepted m after r f w = rw (le-ltb 1500 total h, e, le-ltb (length output) (length bytes) r)
          (takes-accepted n before output c m bytes after f w)

-- size: how long the packet is
module _ (n g : ℕ) (before c : DecompressorContext) (sent : ℕ) (rest output : List ℕ) (size : ℕ)
    (e : size ≡ header_size (rebuilt c sent) + length rest) where
  abbrev packet : List ℕ
  packet = packet_of (rebuilt c sent) rest

  abbrev total : ℕ
  total = header_size (rebuilt c sent) + length rest

  abbrev wrong : Bool
  wrong = is_disproved c g packet

  pub rebuild_to-long : 1500 < size
      → Takes n before (record { outcome = Err TooLong; context = before }) output (λ t i. rebuild_to t i g c sent rest output)
  rebuild_to-long h = made-long n before c packet output total wrong (omega arith)

  module _ (h : size ≤ 1500) where
    pub rebuild_to-wrong : (d : DecompressorContext) → d ≡ broke before → wrong ≡ true
        → Takes n before (record { outcome = Err Disproved; context = d }) output (λ t i. rebuild_to t i g c sent rest output)
    rebuild_to-wrong d b w = made-wrong n before c packet output total wrong (omega arith) d b w

    module _ (undisproved : wrong ≡ false) (f : size ≡ length packet) where
      pub rebuild_to-no_room : length output < size
          → Takes n before (record { outcome = Err NoRoom; context = before }) output
          (λ t i. rebuild_to t i g c sent rest output)
      rebuild_to-no_room r = made-no_room n before c packet output total wrong (omega arith) undisproved (rw (← f) r)

      pub rebuild_to-accepted : (after : List ℕ) → size ≤ length output → after ≡ fronted output packet
          → Takes n before (record { outcome = Ok size; context = c }) after (λ t i. rebuild_to t i g c sent rest output)
      rebuild_to-accepted after r w =
          made-accepted n before c packet output total wrong (omega arith) undisproved size after (rw (← f) r) f w

---- HeadRead

pub head_read : (t : Table) (i : ℕ) (s : List ℕ) → Sound t → 1 ≤ length s → length s ≤ 1500
    → HeadRead t.settings.repeats (context_at t i) (head_of s) s
head_read t i s sound some few = record {
  few = sound-repeats t sound;
  sound = sound-context_at t i sound;
  link = head_of-low s;
  within = head_of-within s;
  short = few;
}

---- the context's status

abbrev pub not_live : Status → Bool
not_live Empty = true
not_live Live = false
not_live Broken = true

-- one of the two that are not live
pub not_live-either : (u : Status) → (u ≡ Empty) ⊎ (u ≡ Broken) → not_live u ≡ true
not_live-either u (inl e) = ap not_live e
not_live-either u (inr e) = ap not_live e

---- Arrives: the repeats and the context are those of the table

module _ (n : ℕ) (c : DecompressorContext) (s : List ℕ) where
  pub arrives-parts : (q : ℕ) (r : ReadParts) (a : Applied) → effect_of a ≡ applied n q c r.parts
      → ((effect_of a).number ≡ 0 → Narrow (rebuilt a.context r.parts.checksum)) → r.place.cursor.at ≤ length s
      → Arrives n c (record { place = r.place; applied = a; checksum = r.parts.checksum }) s
      (λ t i output. receive_parts r t i q s output)
  arrives-parts q r a y narrow within = record {
    settles = λ t i output e f. ap (λ (z : Effect). settle_read r.place z t i r.parts.checksum s output) y
        ∙ sym (λ j. settle_read r.place (applied (e j) q (f j) r.parts) t i r.parts.checksum s output);
    narrow = narrow;
    within = within;
  }

  pub arrives-whole : (h : Head) (r : ReadWhole) → r ≡ whole_of s h.place h.flags (checksum_read c)
      → (a : Applied) → effect_of a ≡ applied_whole n h.flags.low c r.parts r.header
      → ((effect_of a).number ≡ 0 → Narrow (rebuilt a.context r.parts.checksum)) → r.place.cursor.at ≤ length s
      → Arrives n c (record { place = r.place; applied = a; checksum = r.parts.checksum }) s
      (λ t i output. receive_old old.Taken t i h s output)
  unfolding receive_old
  arrives-whole h r w a y narrow within = record {
    settles = λ t i output e f. ap (λ (z : Effect). settle_read r.place z t i r.parts.checksum s output) y
        ∙ sym (λ j. settle_read r.place (applied_whole (e j) h.flags.low (f j) r.parts r.header) t i
        r.parts.checksum s output)
        ∙ ap (λ (y : ReadWhole). receive_whole y t i h.flags.low s output) w
        ∙ sym (λ j. receive_whole (whole_of s h.place h.flags (checksum_read (f j))) t i h.flags.low s output);
    narrow = narrow;
    within = within;
  }

---- receive_on: by the context's status, then by form

-- b: a CU; v: with F
on-parts : (b v : Bool) → (b && not v) ≡ false → (f : ReadParts → Result) (cu cr : ReadParts) (whole : Result)
    → f (cond b cu cr) ≡ cond b (cond v (f cu) whole) (f cr)
on-parts true true e f cu cr whole = refl
on-parts true false e f cu cr whole = absurd (false≢true (sym e))
on-parts false v e f cu cr whole = refl

on-old : (b v : Bool) → (b && not v) ≡ true → (parts whole rtp : Result) → whole ≡ cond b (cond v parts whole) rtp
on-old true true e parts whole rtp = absurd (false≢true e)
on-old true false e parts whole rtp = refl
on-old false v e parts whole rtp = absurd (false≢true e)

module _ (n : ℕ) (c : DecompressorContext) (s : List ℕ) (x : Arrived) (form : OldForm) (kind : ℕ) (h : Head)
    (live : c.status ≡ Live) where
  -- there is one way to take a CU without F
  old-form : (t : Table) (i : ℕ) (output : List ℕ) → receive_old old.Taken t i h s output ≡ receive_old form t i h s output
  old-form = by_form form where
    by_form : (form : OldForm) (t : Table) (i : ℕ) (output : List ℕ)
        → receive_old old.Taken t i h s output ≡ receive_old form t i h s output
    by_form old.Taken t i output = refl

  on-live : (t : Table) (i : ℕ) (output : List ℕ)
      → receive_on form c.status kind t i h s output
      ≡ cond (eqb kind 2) (receive_udp form t i h s output) (receive_rtp t i h s output)
  on-live t i output = ap (λ (u : Status). receive_on form u kind t i h s output) live

  pub arrives-on_old : (eqb kind 2 && not (cu_flags_of h.flags).values) ≡ true
      → Arrives n c x s (λ t i output. receive_old old.Taken t i h s output)
      → Arrives n c x s (λ t i output. receive_on form c.status kind t i h s output)
  arrives-on_old g k = record {
    settles = λ t i output e f. k.settles t i output e f ∙ old-form t i output
        ∙ on-old (eqb kind 2) (cu_flags_of h.flags).values g
        (receive_parts (cu_of s h.place h.flags (checksum_read (context_at t i))) t i h.flags.low s output)
        (receive_old form t i h s output) (receive_rtp t i h s output)
        ∙ sym (on-live t i output);
    narrow = k.narrow;
    within = k.within;
  }

  pub arrives-on_parts : (eqb kind 2 && not (cu_flags_of h.flags).values) ≡ false → (r : ReadParts)
      → r ≡ cond (eqb kind 2) (cu_of s h.place h.flags (checksum_read c)) (cr_of s h.place h.flags (checksum_read c))
      → Arrives n c x s (λ t i output. receive_parts r t i h.flags.low s output)
      → Arrives n c x s (λ t i output. receive_on form c.status kind t i h s output)
  arrives-on_parts g r y k = record {
    settles = λ t i output e f. k.settles t i output e f
        ∙ ap (λ (z : ReadParts). receive_parts z t i h.flags.low s output) y
        ∙ on-parts (eqb kind 2) (cu_flags_of h.flags).values g (λ z. receive_parts z t i h.flags.low s output)
        (cu_of s h.place h.flags (checksum_read c)) (cr_of s h.place h.flags (checksum_read c))
        (receive_old form t i h s output)
        ∙ sym (λ j. cond (eqb kind 2)
        (cond (cu_flags_of h.flags).values
        (receive_parts (cu_of s h.place h.flags (checksum_read (f j))) t i h.flags.low s output)
        (receive_old form t i h s output))
        (receive_parts (cr_of s h.place h.flags (checksum_read (f j))) t i h.flags.low s output))
        ∙ sym (on-live t i output);
    narrow = k.narrow;
    within = k.within;
  }

-- what was settled is what arrived
pub takes-arrived : (n : ℕ) (c : DecompressorContext) (x : Arrived) (y : Taken) (after s output : List ℕ)
    (f : Table → ℕ → List ℕ → Result) → Arrives n c x s f
    → ((m : ℕ) → Takes m c y after (λ t i. settle_read x.place (effect_of x.applied) t i x.checksum s output))
    → Takes n c y after (λ t i. f t i output)
takes-arrived n c x y after s output f k h = record {
  anywhere = λ t i e g. (h n).anywhere t i e g ∙ k.settles t i output e g;
}

-- a context that is not live is left broken
module _ (form : OldForm) (n kind : ℕ) (c : DecompressorContext) (h : Head) (s output : List ℕ) where
  not_live-by : (u : Status) → not_live u ≡ true → (t : Table) (i : ℕ)
      → receive_on form u kind t i h s output ≡ refused (with_context t i (broke (context_at t i))) 8 output
  not_live-by Empty g t i = refl
  not_live-by Broken g t i = refl
  not_live-by Live g t i = absurd (false≢true g)

  pub takes-not_live : (x : Taken) → Takes n c x output (left_broken c output) → not_live c.status ≡ true
      → Takes n c x output (λ t i. receive_on form c.status kind t i h s output)
  takes-not_live x k g = record {
    anywhere = λ t i e f. k.anywhere t i e f
        ∙ sym (not_live-by c.status g t i ∙ (λ j. refused (with_context t i (broke (f j))) 8 output));
  }
