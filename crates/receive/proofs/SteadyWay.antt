-- Iarwennol. The short way of an arrival leads where the rules do. Assumes nothing.
-- Used by the proofs of the functions on that way, and of receive_compressed, which chooses it.
use Prim.Native.Nat.{ℕ, ◌+◌, ◌-◌, ◌≤◌}
use mathlib.Core.Path.{◌≡◌, refl, sym, ap, ◌∙◌}
use mathlib.Core.Bool.{Bool, true, false, cond, not, ◌&&◌, ◌||◌, and-false, and-eq-true_iff, false≢true}
use mathlib.Core.List.{List}
use native.Mathlib.Omega.{arith}
use borrow.Author.Tests.{not-true, not-false, leb-true, le-ltb}
use lib.Dec.{eqb, leb}
use lib.ListN.{length, drop, length-drop}
use Rattle.octets.specs.Put.{Wrote}
use Rattle.octets.specs.PutLaws.{wrote-front}
use Rattle.octets.specs.declared.flags.Flags.{Flags}
use Rattle.codes.specs.Reading.{Reading}
use Rattle.fields.specs.declared.place.Place.{Place}
use Rattle.fields.specs.declared.place.Got.{Got}
use Rattle.fields.specs.Place.{passed, or_zero}
use Rattle.fields.specs.Next.{next, next_as, next_byte, next_word, next_delta16, next_delta32}
use Rattle.fields.proofs.NextRange.{next_word-within}
use Rattle.packet.specs.Refusal.{Verdict, is_accepted}
use Rattle.packet.specs.Ranges.{Narrow}
use Rattle.packet.specs.declared.header.Header.{Header}
use Rattle.headers.specs.Header.{header_size}
use Rattle.headers.specs.UdpChecksum.{udp_right}
use Rattle.links.specs.declared.head.Head.{Head}
use Rattle.links.specs.declared.head.ReadParts.{ReadParts}
use Rattle.links.specs.Head.{head_of}
use Rattle.links.specs.Cr.{cr_flags_of, second_with, second_of, deltas_of, cr_rest, cr_of}
use Rattle.context.specs.Decompressor.{accepted_as, Effect, applied, checksum_read, rebuilt}
use Rattle.decompressor_steady.specs.Steady.{is_next, moved_to, one_step_on}
use Rattle.context.specs.declared.decompressor.Status.{Status}
use Rattle.context.specs.declared.decompressor.DecompressorContext.{DecompressorContext}
use Rattle.decompressor_steady.proofs.Rules.{Next, is_next-true, one_step_on-moved, bare_parts, applied-bare}
use Rattle.std.specs.Prelude.{Ok, Err, is_err, None, IfSome}
use Rattle.std.specs.Bool.{then_some}
use Rattle.decompressor.specs.declared.old.OldForm.{OldForm}
use Rattle.decompressor.specs.declared.table.Table.{Table}
use Rattle.decompressor.specs.Answer.{Result}
use Rattle.decompressor.proofs.PacketLaws.{length-packet_of, said-accepted}
use Rattle.decompressor.specs.Receive.{packet_of, rebuild_to, settle_read, receive_parts, receive_udp, receive_rtp, receive_on}
use Rattle.decompressor.specs.Table.{context_at, with_context}
use Rattle.planes.specs.Planes.{Lent}
use Rattle.decompressor_table.specs.Layout.{context_in, table_of, Puts}
use Rattle.decompressor_table.specs.Calls.{Gives}
use Rattle.receive.specs.declared.steady.SteadyRead.{SteadyRead}
use Rattle.receive.specs.Taken.{Found, found_on}
use Rattle.receive.specs.Steady.{is_steady, word_past, Steadily, delivered_on}
use Rattle.receive.proofs.NarrowLaws.{rebuilt-narrow}
use Rattle.receive.proofs.Placing.{head-here, gives-full}

---- is_steady

pub record Bare (f : Flags) (c : DecompressorContext) : Type 0 where
  pub dsn : f.bit6 ≡ false
  pub dts : f.bit5 ≡ false
  pub did : f.bit4 ≡ false
  pub next : Next f.low c

pub is_steady-true : (f : Flags) (c : DecompressorContext) → is_steady f c ≡ true → Bare f c
is_steady-true f c e =
    let p = (and-eq-true_iff (not f.bit6 && not f.bit5 && not f.bit4) (is_next f.low c)).0 e in
    let q = (and-eq-true_iff (not f.bit6 && not f.bit5) (not f.bit4)).0 p.0 in
    let r = (and-eq-true_iff (not f.bit6) (not f.bit5)).0 q.0 in
    record {
      dsn = not-true f.bit6 r.0;
      dts = not-true f.bit5 r.1;
      did = not-true f.bit4 q.1;
      next = is_next-true f.low c p.1;
    }

---- read_steady

either-false : (a b : Bool) → (a || b) ≡ false → (a ≡ false) × (b ≡ false)
either-false true b e = absurd (false≢true (sym e))
either-false false b e = (refl, e)

module _ (kind : ℕ) (c : DecompressorContext) (h : Head) (s : List ℕ) (room : ℕ) (within : h.place.cursor.at ≤ length s)
    (steady : Bool) (w : Got ℕ) (found : Bool) where
  abbrev size : ℕ
  size = 40 + (length s - w.place.cursor.at)

  abbrev test : Bool
  test = found && leb size 1500 && leb size room

  word-within : w ≡ word_past c h s → w.place.cursor.at ≤ length s
  word-within e = rw e (next_word-within s h.place within (checksum_read c))

  pub steadily-made : steady ≡ is_steady h.flags c → (eqb kind 2 || not steady) ≡ false → w ≡ word_past c h s
      → found ≡ is_accepted w.place.verdict → test ≡ true
      → (eqb kind 2 ≡ false) × Steadily c h s room (record { sent = or_zero w.field; start = w.place.cursor.at })
  steadily-made y t e a g =
      let o = either-false (eqb kind 2) (not steady) t in
      let p = (and-eq-true_iff (found && leb size 1500) (leb size room)).0 g in
      let q = (and-eq-true_iff found (leb size 1500)).0 p.0 in (
        o.0,
        record {
          steady = sym y ∙ not-false steady o.1;
          whole = ap (λ (x : Got ℕ). is_accepted x.place.verdict) (sym e) ∙ sym a ∙ q.0;
          sent = ap (λ (x : Got ℕ). or_zero x.field) e;
          start = ap (λ (x : Got ℕ). x.place.cursor.at) e;
          within = word-within e;
          allowed = leb-true size 1500 q.1;
          fits = leb-true size room p.1;
        },
      )

-- a verdict, by whether it is a refusal
pub accepted_if : (v : Verdict) (b : Bool) → b ≡ is_err v → b ≡ false → is_accepted v ≡ true
accepted_if (Ok u) b e f = refl
accepted_if (Err r) b e f = absurd (false≢true (sym f ∙ e))

pub refused_if : (v : Verdict) (b : Bool) → b ≡ is_err v → b ≡ true → is_accepted v ≡ false
refused_if (Ok u) b e f = absurd (false≢true (sym e ∙ f))
refused_if (Err r) b e f = refl

-- what is given where a test holds is as the test makes it
pub if_then_some : {A : Type 0} (P : A → Type 0) (b : Bool) (x : A) → (b ≡ true → P x) → IfSome (then_some b x) P
if_then_some P true x h = h refl
if_then_some P false x h = tt

---- the fields of a CR without any but its checksum

next-unwanted : (read : ℕ → Reading) (p : Place) → next read p false ≡ passed p
unfolding next_as
next-unwanted read p = rw (and-false (is_accepted p.verdict))

module _ (s : List ℕ) (p : Place) where
  byte-unwanted : next_byte s p false ≡ passed p
  unfolding next_byte
  byte-unwanted = rw (next-unwanted _ p)

  delta16-unwanted : next_delta16 s p false ≡ passed p
  unfolding next_delta16
  delta16-unwanted = rw (next-unwanted _ p)

  delta32-unwanted : next_delta32 s p false ≡ passed p
  unfolding next_delta32
  delta32-unwanted = rw (next-unwanted _ p)

-- the flag byte of such a CR
abbrev bare : (marker : Bool) → (q : ℕ) → Flags
bare marker q = record { bit7 = marker; bit6 = false; bit5 = false; bit4 = false; low = q }

flags-bare : (f : Flags) (c : DecompressorContext) → Bare f c → f ≡ bare f.bit7 f.low
flags-bare f c b = λ j. record { bit7 = f.bit7; bit6 = b.dsn j; bit5 = b.dts j; bit4 = b.did j; low = f.low }

-- what is read of it, past the word w
abbrev bare_read : (marker : Bool) → (w : Got ℕ) → ReadParts
bare_read marker w = record { place = w.place; parts = bare_parts marker (or_zero w.field) }

module _ (s : List ℕ) (marker : Bool) (q : ℕ) where
  second-bare : (p : Place) → second_of s p (cr_flags_of (bare marker q))
      ≡ record { place = p; listed = false; flags = cr_flags_of (bare marker q); count = 0 }
  unfolding second_of second_with
  second-bare p = rw (and-false marker, byte-unwanted s p)

  deltas-bare : (p : Place) → deltas_of s p (cr_flags_of (bare marker q))
      ≡ record {
        place = p;
        did = None;
        dsn = None;
        dts = None;
      }
  unfolding deltas_of
  deltas-bare p = rw (delta16-unwanted s p, delta16-unwanted s p, delta32-unwanted s p)

  cr_of-bare : (p : Place) (carried : Bool) → cr_of s p (bare marker q) carried ≡ bare_read marker (next_word s p carried)
  unfolding cr_of cr_rest
  cr_of-bare p carried = rw (second-bare (next_word s p carried).place, deltas-bare (next_word s p carried).place)

---- rebuilt, on a context that has no list

at_most : (a b n : ℕ) → a ≡ b → a ≤ n → b ≤ n
at_most a b n e h = omega arith

module _ (c : DecompressorContext) (sent : ℕ) (none : c.csrc.count ≡ 0) where
  pub rebuilt-count : (rebuilt c sent).csrc.count ≡ 0
  unfolding rebuilt
  rebuilt-count = none

  pub rebuilt-size : (n : ℕ) → 40 + n ≡ header_size (rebuilt c sent) + n
  rebuilt-size n = omega (arith, rebuilt-count)

  length-bare : (rest : List ℕ) → 40 + length rest ≡ length (packet_of (rebuilt c sent) rest)
  length-bare rest = rebuilt-size (length rest) ∙ sym (length-packet_of (rebuilt c sent) rest (omega (arith, rebuilt-count)))

  -- deliver: the packet at the front of the output, and the context at its place
  pub gives-delivered : (l after : Lent) (i : ℕ) (rest before out : List ℕ) (past : ℕ) (h : Header) → h ≡ rebuilt c sent
      → 40 + length rest ≤ length before → Puts l i c after → Wrote before out 0 past (packet_of h rest)
      → Gives l after (Ok (40 + length rest)) out (delivered_on (table_of l) i c sent rest before)
  gives-delivered l after i rest before out past h e room p w =
      let n = length-bare rest in
      let r = at_most (40 + length rest) (length (packet_of (rebuilt c sent) rest)) (length before) n room in
      gives-full l after i (40 + length rest) c out (delivered_on (table_of l) i c sent rest before) p
      (said-accepted (table_of l) (with_context (table_of l) i c) (packet_of (rebuilt c sent) rest) before (40 + length rest) out r
      n
      (wrote-front (rw e at w) r))

---- one_step_on, from a context that was found

step_count : (q : ℕ) (marker : Bool) (c : DecompressorContext) → c.csrc.count ≡ 0 → (one_step_on q marker c).csrc.count ≡ 0
unfolding one_step_on
step_count q marker c e = e

step-narrow : (q : ℕ) (marker : Bool) (c : DecompressorContext) (sent : ℕ) → Narrow (rebuilt c sent)
    → Narrow (rebuilt (one_step_on q marker c) sent)
unfolding rebuilt one_step_on
step-narrow q marker c sent n = record { flags = n.flags; payload = n.payload; count = n.count }

module _ (l : Lent) (i : ℕ) (c : DecompressorContext) (h : Head) (s : List ℕ) (room : ℕ) (x : SteadyRead) (f : Found l i c h s)
    (t : Steadily c h s room x) where
  abbrev after : DecompressorContext
  after = one_step_on h.flags.low h.flags.bit7 c

  next-found : Next h.flags.low c
  next-found = (is_steady-true h.flags c t.steady).next

  pub found-moved : after ≡ moved_to after (context_in l.words l.shorts l.bytes i)
  found-moved = one_step_on-moved h.flags.low h.flags.bit7 c ∙ ap (moved_to after) f.context

  pub found-narrow : Narrow (rebuilt after x.sent)
  found-narrow = step-narrow h.flags.low h.flags.bit7 c x.sent (rebuilt-narrow c x.sent next-found.live
      (head-here l i f.fits f.place c f.context h s f.sound f.some f.short f.head).sound)

  pub found-count : after.csrc.count ≡ 0
  found-count = step_count h.flags.low h.flags.bit7 c next-found.unlisted

  pub rest-allowed : 40 + length (drop x.start s) ≤ 1500
  rest-allowed = omega (arith, t.allowed, length-drop x.start s)

  pub rest-fits : 40 + length (drop x.start s) ≤ room
  rest-fits = omega (arith, t.fits, length-drop x.start s)

---- receive_on

other : (b : Bool) (x y : Result) → b ≡ false → cond b x y ≡ y
other b x y e = rw e

-- fields that were read to their end, on a context that accepts them
settle-whole : (p : Place) (g : ℕ) (c : DecompressorContext) (t : Table) (i sent : ℕ) (s output : List ℕ)
    → is_accepted p.verdict ≡ true
    → settle_read p (accepted_as g c) t i sent s output ≡ rebuild_to t i g c sent (drop p.cursor.at s) output
settle-whole p g c t i sent s output e = rw e

-- one step on, nothing is judged
undisproved : (carried right : Bool) → (carried && false && right) ≡ false
undisproved true right = refl
undisproved false right = refl

module _ (t : Table) (i : ℕ) (c : DecompressorContext) (sent : ℕ) (rest output : List ℕ) where
  rebuild_to-bare : c.csrc.count ≡ 0 → 40 + length rest ≤ 1500
      → rebuild_to t i 1 c sent rest output ≡ delivered_on t i c sent rest output
  rebuild_to-bare none h = rw (
    le-ltb 1500 (header_size (rebuilt c sent) + length rest)
        (at_most (40 + length rest) (header_size (rebuilt c sent) + length rest) 1500 (rebuilt-size c sent none (length rest)) h),
    undisproved (checksum_read c) (not (udp_right (packet_of (rebuilt c sent) rest))),
  )

module _ (t : Table) (i : ℕ) (c : DecompressorContext) (h : Head) (s output : List ℕ) (room : ℕ) (x : SteadyRead)
    (e : context_at t i ≡ c) (y : Steadily c h s room x) where
  abbrev q : ℕ
  q = h.flags.low

  abbrev marker : Bool
  marker = h.flags.bit7

  abbrev word : Got ℕ
  word = word_past c h s

  abbrev on : DecompressorContext
  on = one_step_on q marker c

  steadily-bare : Bare h.flags c
  steadily-bare = is_steady-true h.flags c y.steady

  rest-short : 40 + length (drop word.place.cursor.at s) ≤ 1500
  rest-short = omega (arith, y.allowed, y.start, length-drop word.place.cursor.at s)

  -- its fields
  rtp-read : receive_rtp t i h s output ≡ receive_parts (bare_read marker word) t i q s output
  rtp-read =
      (λ j. receive_parts (cr_of s h.place (flags-bare h.flags c steadily-bare j) (checksum_read (e j))) t i q s output)
      ∙ ap (λ (r : ReadParts). receive_parts r t i q s output) (cr_of-bare s marker q h.place (checksum_read c))

  -- what its context makes of them
  parts-applied : receive_parts (bare_read marker word) t i q s output
      ≡ settle_read word.place (accepted_as 1 on) t i (or_zero word.field) s output
  parts-applied = ap (λ (z : Effect). settle_read word.place z t i (or_zero word.field) s output)
      (ap (λ (d : DecompressorContext). applied t.settings.repeats q d (bare_parts marker (or_zero word.field))) e
      ∙ applied-bare q c marker (or_zero word.field) t.settings.repeats steadily-bare.next.step)

  -- the packet
  settled-bare : settle_read word.place (accepted_as 1 on) t i (or_zero word.field) s output
      ≡ delivered_on t i on x.sent (drop x.start s) output
  settled-bare =
      settle-whole word.place 1 on t i (or_zero word.field) s output y.whole
      ∙ rebuild_to-bare t i on (or_zero word.field) (drop word.place.cursor.at s) output
      (step_count q marker c steadily-bare.next.unlisted) rest-short
      ∙ (λ j. delivered_on t i on (sym y.sent j) (drop (sym y.start j) s) output)

  pub steady-found : (old : OldForm) (kind : ℕ) → eqb kind 2 ≡ false → h ≡ head_of s
      → delivered_on t i on x.sent (drop x.start s) output ≡ found_on old kind t i s output
  steady-found old kind k r = sym (
      (λ j. receive_on old (e j).status kind t i (sym r j) s output)
      ∙ ap (λ (u : Status). receive_on old u kind t i h s output) steadily-bare.next.live
      ∙ other (eqb kind 2) (receive_udp old t i h s output) (receive_rtp t i h s output) k
      ∙ rtp-read ∙ parts-applied ∙ settled-bare)
