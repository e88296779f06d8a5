-- Iarwennol. What an arrival leaves (rules 3.1, 3.5, 10.3): at most the context that the link packet names is changed, a sound
-- table stays sound, and its numbers stay within their types; with too little output everything stays. Assume nothing.
-- Used by the theorem on lists of calls (crtp).
use Prim.Native.Nat.{ℕ, ◌+◌, ◌≤◌, ◌<◌}
use mathlib.Core.Path.{◌≡◌, refl, sym, ap, subst, ◌∙◌}
use mathlib.Core.Bool.{Bool, true, false, cond}
use mathlib.Core.List.{List}
use native.Mathlib.Omega.{arith}
use borrow.Author.Tests.{eqb-true, eqb-false, ltb-true, lt-ltb}
use lib.Dec.{eqb, leb, ltb}
use lib.ListN.{length, drop, length-set}
use lib.Seq.{get_or-set_other}
use Rattle.codes.specs.Bytes.{AllBytes}
use Rattle.codes.specs.Reading.{byte_at}
use Rattle.packet.specs.Ranges.{HeaderFits, PartsFit}
use Rattle.packet.specs.RangesLaws.{parts-sound, header-sound}
use Rattle.headers.specs.Header.{header_size}
use Rattle.links.specs.declared.head.Head.{Head}
use Rattle.links.specs.declared.head.ReadParts.{ReadParts}
use Rattle.links.specs.declared.whole.ReadWhole.{ReadWhole}
use Rattle.links.specs.Head.{context_of, head_of}
use Rattle.links.proofs.HeadLaws.{context_of-first, head_of-low}
use Rattle.links.specs.Cu.{cu_flags_of, cu_of}
use Rattle.links.specs.Cr.{cr_of}
use Rattle.links.specs.Whole.{whole_of}
use Rattle.links.specs.Fh.{fh_judged, fh_of}
use Rattle.links.proofs.FhLaws.{fh_of-context, fh_of-generation, fh_of-link, fh_of-range}
use Rattle.links.proofs.Range as links
use Rattle.context.specs.Ranges.{ContextInRange}
use Rattle.context.specs.Sound.{sound_decompressor}
use Rattle.context.proofs.Arrays.{set_keeps}
use Rattle.context.proofs.SoundFacts.{bounds-sound_link}
use Rattle.packet.specs.Refusal.{number_of, is_accepted}
use Rattle.packet.specs.RefusalLaws.{number_of-least}
use Rattle.settings.specs.Settings.{length_allowed}
use Rattle.context.specs.Decompressor.{filled, broke, Effect, applied, applied_whole, checksum_read, rebuilt}
use Rattle.context.proofs.DecompressorSound.{sound-filled, sound-broke, sound-applied, sound-applied_whole}
use Rattle.context.proofs.DecompressorRange.{range-filled, range-broke, range-applied, range-applied_whole}
use Rattle.context.specs.declared.kept.Link.{Link}
use Rattle.context.specs.declared.decompressor.Status.{Status}
use Rattle.context.specs.declared.decompressor.Status.TheVariants.{Empty, Live, Broken}
use Rattle.context.specs.declared.decompressor.DecompressorContext.{DecompressorContext}
use Rattle.packet.specs.Refusal.{Verdict}
use Rattle.std.specs.Prelude.{Ok, Err}
use Rattle.decompressor.specs.declared.old.OldForm.{OldForm}
use Rattle.decompressor.specs.declared.old.OldForm.TheVariants.{Taken}
use Rattle.decompressor.specs.declared.table.Table.{Table}
use Rattle.decompressor.specs.Answer.{Result, accepted, refused, delivered}
use Rattle.decompressor.specs.Table.{no_context, sound_of, context_at, with_context, Sound}
use Rattle.decompressor.proofs.TableLaws.{sound-context_at, sound-with_context}
use Rattle.decompressor.specs.Receive.{packet_of, receive_plain, full_table, receive_full_by, receive_full, rebuild_to}
use Rattle.decompressor.specs.Receive.{is_disproved, settle, settle_read}
use Rattle.decompressor.specs.Receive.{receive_parts, receive_whole, receive_old, receive_udp, receive_rtp, receive_on}
use Rattle.decompressor.specs.Receive.{receive_compressed, receive_kind}
use Rattle.decompressor.specs.Receive.{receive_by, receive_of}

-- the context number that a link packet carries; a plain one carries none
abbrev pub named : (kind : ℕ) → List ℕ → ℕ
named kind s = cond (eqb kind 1) (byte_at s 3) (byte_at s 0)

---- What is left of a table

-- a context that may take another's place: it is sound, and in range where the other is
pub record Follows (before c : DecompressorContext) : Type 0 where
  pub sound : sound_decompressor c ≡ true
  pub range : ContextInRange before → ContextInRange c

-- the table itself, or with another context at place i
pub data Leaves (t : Table) (i : ℕ) : Table → Type 0 where
  same : Leaves t i t
  one : (c : DecompressorContext) → i < t.settings.contexts → Follows (context_at t i) c → Leaves t i (with_context t i c)

module _ {t : Table} {i : ℕ} where
  pub leaves-sound : {u : Table} → Leaves t i u → Sound t → Sound u
  leaves-sound same s = s
  leaves-sound (one c h f) s = sound-with_context t i c s h f.sound

  pub leaves-range : {u : Table} → Leaves t i u → (j : ℕ) → ContextInRange (context_at t j) → ContextInRange (context_at u j)
  leaves-range same j r = r
  leaves-range (one c h f) j r =
      set_keeps ContextInRange t.contexts i j c no_context
      (λ e. f.range (subst (λ (k : ℕ). ContextInRange (context_at t k)) e r)) r

  pub leaves-settings : {u : Table} → Leaves t i u → u.settings ≡ t.settings
  leaves-settings same = refl
  leaves-settings (one c h f) = refl

  pub leaves-length : {u : Table} → Leaves t i u → length u.contexts ≡ length t.contexts
  leaves-length same = refl
  leaves-length (one c h f) = length-set t.contexts i c

  pub leaves-other : {u : Table} → Leaves t i u → (j : ℕ) → (j ≡ i → ⊥) → context_at u j ≡ context_at t j
  leaves-other same j n = refl
  leaves-other (one c h f) j n = get_or-set_other t.contexts i j c no_context n

---- The two ways that a call goes, as a function of its output

-- refused whatever the output; or a result that is delivered where the output has room for it
pub data Way (t : Table) (i : ℕ) (f : List ℕ → Result) : Type 0 where
  refuses : (after : Table) (n : ℕ) → 1 ≤ n → Leaves t i after → ((output : List ℕ) → f output ≡ refused after n output) → Way t i f
  gives : (after : Table) (bytes : List ℕ) → Leaves t i after → ((output : List ℕ) → f output ≡ delivered t after bytes output)
      → Way t i f

-- what is delivered to one output is refused where another is too short for it
delivered-room : (b : Bool) (t after : Table) (bytes room output : List ℕ)
    → (cond b (refused t 11 room) (accepted after bytes room)).number ≡ 0
    → length output < (cond b (refused t 11 room) (accepted after bytes room)).length
    → delivered t after bytes output ≡ refused t 11 output
delivered-room true t after bytes room output z h = absurd (omega arith)
delivered-room false t after bytes room output z h = rw (lt-ltb (length output) (length bytes) h)

module _ {t : Table} {i : ℕ} where
  way-if : (b : Bool) (f g : List ℕ → Result) → (b ≡ true → Way t i f) → Way t i g
      → Way t i (λ output. cond b (f output) (g output))
  way-if true f g w v = w refl
  way-if false f g w v = v

  -- 0 goes on, any other number is a refusal that leaves a table
  module _ (number : ℕ) (after : Table) (f : List ℕ → Result) (w : number ≡ 0 → Way t i f) (l : Leaves t i after) where
    number_by : (b : Bool) → eqb number 0 ≡ b → Way t i (λ output. cond b (f output) (refused after number output))
    number_by true e = w (eqb-true number 0 e)
    number_by false e = refuses after number (omega (arith, eqb-false)) l (λ output. refl)

    way-number : Way t i (λ output. cond (eqb number 0) (f output) (refused after number output))
    way-number = number_by (eqb number 0) refl

  delivered-leaves : (b : Bool) (after : Table) (bytes output : List ℕ) → Leaves t i after
      → Leaves t i (cond b (refused t 11 output) (accepted after bytes output)).table
  delivered-leaves true after bytes output l = same
  delivered-leaves false after bytes output l = l

  pub way-leaves : (f : List ℕ → Result) → Way t i f → (output : List ℕ) → Leaves t i (f output).table
  way-leaves f (refuses after n h l e) output = subst (λ (r : Result). Leaves t i r.table) (sym (e output)) l
  way-leaves f (gives after bytes l e) output =
      subst (λ (r : Result). Leaves t i r.table) (sym (e output))
      (delivered-leaves (ltb (length output) (length bytes)) after bytes output l)

  pub way-room : (f : List ℕ → Result) → Way t i f → (room output : List ℕ)
      → (f room).number ≡ 0 → length output < (f room).length → f output ≡ refused t 11 output
  way-room f (refuses after n h l e) room output z r =
      let m : (f room).number ≡ n = ap (λ (x : Result). x.number) (e room) in
      absurd (omega arith)
  way-room f (gives after bytes l e) room output z r =
      e output
      ∙ delivered-room (ltb (length room) (length bytes)) t after bytes room output
      (sym (ap (λ (x : Result). x.number) (e room)) ∙ z)
      (subst (λ (x : Result). length output < x.length) (e room) r)

---- FULL_HEADER

module _ (t : Table) (s : List ℕ) (a : AllBytes s) where
  abbrev full_link : Link
  full_link = record { sequence = (fh_of s).link; generation = (fh_of s).generation }

  -- it asks nothing of the context that was there
  full-follows : (before : DecompressorContext) → Follows before (filled (fh_of s).header full_link)
  full-follows before = record {
    sound = sound-filled (fh_of s).header full_link (fh_of-range s a)
        (bounds-sound_link _ (record { sequence = omega (arith, fh_of-link s); generation = omega (arith, fh_of-generation s) }));
    range = λ r. range-filled (fh_of s).header full_link (fh_of-range s a);
  }

  full-leaves : fh_judged t.settings.contexts s ≡ 0 → Leaves t (fh_of s).context (full_table t (fh_of s))
  full-leaves e =
      one (filled (fh_of s).header full_link) (fh_of-context s t.settings.contexts e)
      (full-follows (context_at t (fh_of s).context))

  full-way : Way t (fh_of s).context (λ output. receive_full_by (fh_judged t.settings.contexts s) t (fh_of s) s output)
  full-way =
      way-number (fh_judged t.settings.contexts s) t
      (λ output. delivered t (full_table t (fh_of s)) (packet_of (fh_of s).header (drop (fh_of s).start s)) output)
      (λ e. gives (full_table t (fh_of s)) (packet_of (fh_of s).header (drop (fh_of s).start s)) (full-leaves e) (λ output. refl))
      same

  receive_full-way : Way t (byte_at s 3) (λ output. receive_full t s output)
  unfolding receive_full fh_of
  receive_full-way = full-way

---- COMPRESSED_UDP and COMPRESSED_RTP

module _ (t : Table) (i : ℕ) (sound : Sound t) (among : i < t.settings.contexts) where
  -- refused, with the context broken
  broken-way : (number : ℕ) → 1 ≤ number → Way t i (λ output. refused (with_context t i (broke (context_at t i))) number output)
  broken-way number some =
      refuses (with_context t i (broke (context_at t i))) number some
      (one (broke (context_at t i)) among (record {
        sound = sound-broke (context_at t i) (sound-context_at t i sound);
        range = range-broke (context_at t i);
      })) (λ output. refl)

  rebuild_to-way : (g : ℕ) (c : DecompressorContext) (sent : ℕ) (rest : List ℕ) → Follows (context_at t i) c
      → Way t i (λ output. rebuild_to t i g c sent rest output)
  rebuild_to-way g c sent rest f =
      way-if (ltb 1500 (header_size (rebuilt c sent) + length rest))
      (λ output. refused t 10 output)
      (λ output. cond (is_disproved c g (packet_of (rebuilt c sent) rest))
      (refused (with_context t i (broke (context_at t i))) 12 output)
      (delivered t (with_context t i c) (packet_of (rebuilt c sent) rest) output))
      (λ long. refuses t 10 (omega arith) same (λ output. refl))
      (way-if (is_disproved c g (packet_of (rebuilt c sent) rest))
      (λ output. refused (with_context t i (broke (context_at t i))) 12 output)
      (λ output. delivered t (with_context t i c) (packet_of (rebuilt c sent) rest) output)
      (λ wrong. broken-way 12 (omega arith))
      (gives (with_context t i c) (packet_of (rebuilt c sent) rest) (one c among f) (λ output. refl)))

  settle-way : (x : Effect) (sent : ℕ) (rest : List ℕ) → Follows (context_at t i) x.context
      → Way t i (λ output. settle x t i sent rest output)
  settle-way x sent rest f =
      way-number x.number (with_context t i x.context) (λ output. rebuild_to t i x.gap x.context sent rest output)
      (λ z. rebuild_to-way x.gap x.context sent rest f) (one x.context among f)

  -- o: what was found of the reading
  settle_read-way : (o : Verdict) (at : ℕ) (x : Effect) (sent : ℕ) (s : List ℕ) → Follows (context_at t i) x.context
      → Way t i (λ output. settle_read (record { verdict = o; cursor = record { at = at } }) x t i sent s output)
  settle_read-way (Ok u) at x sent s f = settle-way x sent (drop at s) f
  settle_read-way (Err r) at x sent s f = refuses t (number_of r) (number_of-least r) same (λ output. refl)

  -- on a live context
  module _ (live : (context_at t i).status ≡ Live) where
    receive_parts-way : {carried : Bool} (r : ReadParts) (q : ℕ) (s : List ℕ) → q < 16 → PartsFit carried r.parts
        → Way t i (λ output. receive_parts r t i q s output)
    receive_parts-way r q s small p =
        settle_read-way r.place.verdict r.place.cursor.at (applied t.settings.repeats q (context_at t i) r.parts)
        r.parts.checksum s (record {
          sound = sound-applied t.settings.repeats q (context_at t i) r.parts (omega arith) (parts-sound p) live
              (sound-context_at t i sound);
          range = range-applied t.settings.repeats q (context_at t i) r.parts p;
        })

    receive_whole-way : {carried : Bool} (r : ReadWhole) (q : ℕ) (s : List ℕ) → q < 16 → PartsFit carried r.parts
        → HeaderFits r.header → Way t i (λ output. receive_whole r t i q s output)
    receive_whole-way r q s small p w =
        settle_read-way r.place.verdict r.place.cursor.at
        (applied_whole t.settings.repeats q (context_at t i) r.parts r.header) r.parts.checksum s (record {
          sound = sound-applied_whole t.settings.repeats q (context_at t i) r.parts (omega arith) (parts-sound p) live
              (sound-context_at t i sound) r.header (header-sound w);
          range = λ c. range-applied_whole t.settings.repeats q (context_at t i) r.parts p c r.header w;
        })

    receive_old-way : (old : OldForm) (h : Head) (s : List ℕ) → h.flags.low < 16 → AllBytes s
        → Way t i (λ output. receive_old old t i h s output)
    unfolding receive_old
    receive_old-way Taken h s small a =
        receive_whole-way (whole_of s h.place h.flags (checksum_read (context_at t i))) h.flags.low s small
        (links.whole_of-range s a h.place h.flags (checksum_read (context_at t i)))
        (links.whole_of-header-range s a h.place h.flags (checksum_read (context_at t i)))

module _ (old : OldForm) (t : Table) (sound : Sound t) (s : List ℕ) (a : AllBytes s) where
  module _ (i : ℕ) (among : i < t.settings.contexts) (h : Head) (small : h.flags.low < 16) where
    module _ (live : (context_at t i).status ≡ Live) where
      receive_udp-way : Way t i (λ output. receive_udp old t i h s output)
      receive_udp-way =
          way-if (cu_flags_of h.flags).values
          (λ output. receive_parts (cu_of s h.place h.flags (checksum_read (context_at t i))) t i h.flags.low s output)
          (λ output. receive_old old t i h s output)
          (λ e. receive_parts-way t i sound among live (cu_of s h.place h.flags (checksum_read (context_at t i)))
          h.flags.low s small
          (links.cu_of-range s a h.place h.flags (checksum_read (context_at t i))))
          (receive_old-way t i sound among live old h s small a)

      receive_rtp-way : Way t i (λ output. receive_rtp t i h s output)
      receive_rtp-way =
          receive_parts-way t i sound among live (cr_of s h.place h.flags (checksum_read (context_at t i)))
          h.flags.low s small
          (links.cr_of-range s a h.place h.flags (checksum_read (context_at t i)))

    receive_on-way : (u : Status) (kind : ℕ) → (context_at t i).status ≡ u
        → Way t i (λ output. receive_on old u kind t i h s output)
    receive_on-way Empty kind e = broken-way t i sound among 8 (omega arith)
    receive_on-way Broken kind e = broken-way t i sound among 8 (omega arith)
    receive_on-way Live kind e =
        way-if (eqb kind 2) (λ output. receive_udp old t i h s output) (λ output. receive_rtp t i h s output)
        (λ b. receive_udp-way e)
        (receive_rtp-way e)

  receive_compressed-way : (kind : ℕ) → Way t (context_of s) (λ output. receive_compressed old kind t s output)
  unfolding receive_compressed
  receive_compressed-way kind =
      way-if (ltb (context_of s) t.settings.contexts)
      (λ output. cond (is_accepted (head_of s).place.verdict)
      (receive_on old (context_at t (context_of s)).status kind t (context_of s) (head_of s) s output) (refused t 4 output))
      (λ output. refused t 6 output)
      (λ e. way-if (is_accepted (head_of s).place.verdict)
      (λ output. receive_on old (context_at t (context_of s)).status kind t (context_of s) (head_of s) s output)
      (λ output. refused t 4 output)
      (λ g. receive_on-way (context_of s) (ltb-true (context_of s) t.settings.contexts e) (head_of s) (head_of-low s)
      (context_at t (context_of s)).status kind refl)
      (refuses t 4 (omega arith) same (λ output. refl)))
      (refuses t 6 (omega arith) same (λ output. refl))

  -- the context number is the first byte
  first_way : (kind : ℕ) → Way t (byte_at s 0) (λ output. receive_compressed old kind t s output)
  first_way kind = rw (← context_of-first s) (receive_compressed-way kind)

  ---- By type

  full_or-way : (b : Bool) (kind : ℕ)
      → Way t (cond b (byte_at s 3) (byte_at s 0))
      (λ output. cond b (receive_full t s output) (receive_compressed old kind t s output))
  full_or-way true kind = receive_full-way t s a
  full_or-way false kind = first_way kind

  receive_kind-way : (kind : ℕ) → Way t (named kind s) (λ output. receive_kind old kind t s output)
  unfolding receive_kind
  receive_kind-way kind =
      way-if (eqb kind 0)
      (λ output. receive_plain t s output)
      (λ output. cond (eqb kind 1) (receive_full t s output) (receive_compressed old kind t s output))
      (λ e. gives t s same (λ output. refl))
      (full_or-way (eqb kind 1) kind)

  pub receive_by-way : (kind : ℕ) → Way t (named kind s) (λ output. receive_by old t kind s output)
  unfolding receive_by
  receive_by-way kind =
      way-if (sound_of t)
      (λ output. cond (leb kind 3) (cond (length_allowed (length s)) (receive_kind old kind t s output) (refused t 2 output))
      (refused t 3 output))
      (λ output. refused t 1 output)
      (λ e. way-if (leb kind 3)
      (λ output. cond (length_allowed (length s)) (receive_kind old kind t s output) (refused t 2 output))
      (λ output. refused t 3 output)
      (λ f. way-if (length_allowed (length s)) (λ output. receive_kind old kind t s output) (λ output. refused t 2 output)
      (λ g. receive_kind-way kind)
      (refuses t 2 (omega arith) same (λ output. refl)))
      (refuses t 3 (omega arith) same (λ output. refl)))
      (refuses t 1 (omega arith) same (λ output. refl))

---- receive_of

module _ (t : Table) (kind : ℕ) (s : List ℕ) (sound : Sound t) (a : AllBytes s) where
  pub receive-way : Way t (named kind s) (λ output. receive_of t kind s output)
  receive-way = receive_by-way Taken t sound s a kind

  module _ (output : List ℕ) where
    pub receive-leaves : Leaves t (named kind s) (receive_of t kind s output).table
    receive-leaves = way-leaves (λ o. receive_of t kind s o) receive-way output

    pub sound-receive : Sound (receive_of t kind s output).table
    sound-receive = leaves-sound receive-leaves sound

    -- one place at a time, since past the end of a table stands no_context, whose list has no words
    pub range-receive : (i : ℕ) → ContextInRange (context_at t i) → ContextInRange (context_at (receive_of t kind s output).table i)
    range-receive = leaves-range receive-leaves

    pub settings-receive : (receive_of t kind s output).table.settings ≡ t.settings
    settings-receive = leaves-settings receive-leaves

    pub length-receive : length (receive_of t kind s output).table.contexts ≡ length t.contexts
    length-receive = leaves-length receive-leaves

    pub context_at-receive : (j : ℕ) → (j ≡ named kind s → ⊥) → context_at (receive_of t kind s output).table j ≡ context_at t j
    context_at-receive j n = leaves-other receive-leaves j n

    -- what would be accepted with more output is refused 11, and leaves the table
    pub receive-no_room : (room : List ℕ) → (receive_of t kind s room).number ≡ 0
        → length output < (receive_of t kind s room).length
        → receive_of t kind s output ≡ refused t 11 output
    receive-no_room room z r = way-room (λ o. receive_of t kind s o) receive-way room output z r
