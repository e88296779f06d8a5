-- Iarwennol. A send and an arrival, seen from context c: on c and lost, on c and arrived, or elsewhere. Assumes nothing.
-- Used by the laws of the two ends (Laws), and by the law of a full header (FullHeader).
use Prim.Native.Nat.{ℕ, suc, ◌≤◌, ◌<◌}
use mathlib.Core.Path.{◌≡◌, refl, sym, ap, ◌∙◌, subst}
use mathlib.Core.Bool.{Bool, true, false, cond}
use mathlib.Core.List.{List}
use native.Mathlib.Omega.{arith}
use borrow.Author.Tests.{lt-ltb, le-ltb}
use lib.Dec.{ltb}
use lib.ListN.{length}
use lib.Seq.{get_or-set_same, take-append_seam}
use Rattle.settings.specs.declared.Settings.{Settings}
use Rattle.headers.specs.Header.{header_of}
use Rattle.headers.proofs.HeaderLaws.{header_of-range}
use Rattle.context.proofs.Relation.{Related, Arrives}
use Rattle.context.specs.declared.decompressor.DecompressorContext.{DecompressorContext}
use Rattle.context.specs.Compressor.{full_header}
use Rattle.outgoing.specs.StepLaws.{lost-step_on, arrives-step_on, full-step_on}
use Rattle.compressor.specs.declared.table.Table as compressor
use Rattle.compressor.specs.Table as compressing
use Rattle.compressor.proofs.SendLaws.{On, step_at, table_at, kind_at, bytes_at}
use Rattle.compressor.proofs.CanSendLaws.{sound-repeats}
use Rattle.compressor.proofs.SoundLaws.{context_at-same, context_at-other}
use Rattle.decompressor.specs.declared.table.Table as decompressor
use Rattle.decompressor.specs.Answer as receiving
use Rattle.decompressor.specs.Table as decompressing
use Rattle.decompressor.proofs.TableLaws.{sound_of-made, sound-most}
use Rattle.decompressor.specs.Receive.{receive_of}
use Rattle.decompressor.proofs.ReceiveLaws.{receive-plain}
use Rattle.decompressor.proofs.ReceiveSound.{context_at-receive}
use Rattle.calls.specs.Calls as calls
use Rattle.crtp.specs.Robust.{Bytes, checksum_fits, Rebuilt}
use Rattle.crtp.proofs.Lists.{Frame, frame_context}
use Rattle.crtp.proofs.Arrivals.{receive-sent}
use Rattle.crtp.proofs.Tables.{SenderFit, ReceiverFit, RelatedAt}
use Rattle.crtp.proofs.Given.{Gave, gave-plain, gave-on, writable, carried, named-at, gave-bytes, number-off}

---- An answer with room, and without

module _ (d x : decompressor.Table) (p output : List ℕ) where
  delivered-right : length p ≤ length output → Rebuilt p (receiving.delivered d x p output)
  delivered-right h =
      rw (le-ltb (length output) (length p) h) (record { accepted = refl; whole = refl; exact = take-append_seam p _ })

  delivered-table : length p ≤ length output → (receiving.delivered d x p output).table ≡ x
  delivered-table h = rw (le-ltb (length output) (length p) h)

  delivered-short : length output < length p → receiving.delivered d x p output ≡ receiving.refused d 11 output
  delivered-short h = rw (lt-ltb (length output) (length p) h)

delivered-same : (d : decompressor.Table) (p output : List ℕ) → (receiving.delivered d d p output).table ≡ d
delivered-same d p output = by (ltb (length output) (length p))
  where
    by : (b : Bool) → (cond b (receiving.refused d 11 output) (receiving.accepted d p output)).table ≡ d
    by true = refl
    by false = refl

module _ (s : Settings) (t : compressor.Table) (sender : SenderFit s t) (d : decompressor.Table) (receiver : ReceiverFit s d)
    (p : Bytes) where
  ---- On context c

  module _ (c : ℕ) (on : On t p.list c) where
    -- lost
    pub here-lost : (j : ℕ) → RelatedAt c j d t → suc j ≤ s.repeats → RelatedAt c (suc j) d (table_at t p.list c)
    here-lost j r few =
        rw (context_at-same t p.list c on sender.size)
        (lost-step_on t.settings.repeats (header_of p.list) (header_of-range p.small) (compressing.context_at t c)
        (decompressing.context_at d c) j r (rw sender.settings few))

    -- the decompressor's context accepts it after j lost ones: by the relation, or because it is a full header
    abbrev pub Accepts : (j : ℕ) → Settings → Type 0
    Accepts j x = Arrives x.repeats j (decompressing.context_at d c) (header_of p.list) (step_at t p.list c)

    pub accepts-related : (j : ℕ) → RelatedAt c j d t → Accepts j t.settings
    accepts-related j r =
        arrives-step_on t.settings.repeats (header_of p.list) (header_of-range p.small) (compressing.context_at t c)
        (decompressing.context_at d c) on.place.flow j r (sound-repeats t sender.sound)

    pub accepts-full : (step_at t p.list c).kind ≡ full_header → Accepts 0 t.settings
    accepts-full =
        full-step_on t.settings.repeats (header_of p.list) (header_of-range p.small) (compressing.context_at t c)
        (decompressing.context_at d c) on.place.flow (sender.held c)

    -- it arrives, and its checksum fits if one was lost before it
    module _ (j : ℕ) (accepts : Accepts j t.settings) (fits : 1 ≤ j → checksum_fits p.list ≡ true) (output : List ℕ) where
      same : t.settings ≡ d.settings
      same = sender.settings ∙ sym receiver.settings

      there : Accepts j d.settings
      there = subst (Accepts j) same accepts

      place : c < d.settings.contexts
      place = subst (λ (x : Settings). c < x.contexts) same on.place.among

      abbrev after : decompressor.Table
      after = decompressing.with_context d c there.after

      abbrev answer : receiving.Result
      answer = receive_of d (kind_at t p.list c) (bytes_at t p.list c) output

      received : answer ≡ receiving.delivered d after p.list output
      received =
          receive-sent p.list p.small on.compressible on.most c (step_at t p.list c) (writable s t sender p c on)
          (carried s t sender p c on) d receiver.sound place j there fits output

      -- with room it is rebuilt, and nothing is lost any more
      module _ (room : length p.list ≤ length output) where
        pub here-right : Rebuilt p.list answer
        here-right = rw received (delivered-right d after p.list output room)

        context-after : decompressing.context_at answer.table c ≡ there.after
        context-after =
            ap (λ (x : receiving.Result). decompressing.context_at x.table c) received
            ∙ ap (λ (x : decompressor.Table). decompressing.context_at x c) (delivered-table d after p.list output room)
            ∙ get_or-set_same d.contexts c there.after decompressing.no_context
            (omega (arith, place, sound-most d receiver.sound, receiver.size))

        pub here-taken : RelatedAt c 0 answer.table (table_at t p.list c)
        here-taken =
            rw (context-after, context_at-same t p.list c on sender.size)
            (subst (λ (x : Settings). Related x.repeats 0 there.after (step_at t p.list c).context) (sym same)
            there.keeps)

      -- without room it is refused for that, and the table stays
      module _ (short : length output < length p.list) where
        here-refused : answer ≡ receiving.refused d 11 output
        here-refused = received ∙ delivered-short d after p.list output short

        pub here-lacks : answer.number ≡ 11
        here-lacks = ap (λ (x : receiving.Result). x.number) here-refused

        pub here-stays : answer.table ≡ d
        here-stays = ap (λ (x : receiving.Result). x.table) here-refused

  ---- Plain

  module _ (least : 1 ≤ length p.list) (most : length p.list ≤ 1500) (output : List ℕ) where
    plain-answer : receive_of d 0 p.list output ≡ receiving.delivered d d p.list output
    plain-answer = receive-plain d p.list output (sound_of-made d receiver.sound) least most

    plain-table : (receive_of d 0 p.list output).table ≡ d
    plain-table = ap (λ (x : receiving.Result). x.table) plain-answer ∙ delivered-same d p.list output

    pub plain-right : length p.list ≤ length output → Rebuilt p.list (receive_of d 0 p.list output)
    plain-right room = rw plain-answer (delivered-right d d p.list output room)

    pub plain-lacks : length output < length p.list → (receive_of d 0 p.list output).number ≡ 11
    plain-lacks short = ap (λ (x : receiving.Result). x.number) (plain-answer ∙ delivered-short d d p.list output short)

  ---- Elsewhere: on another context than c, or plain

  module _ (c j : ℕ) where
    off-on : (i : ℕ) → (c ≡ i → ⊥) → RelatedAt c j d t → RelatedAt c j d (table_at t p.list i)
    off-on i ne r = rw (context_at-other t p.list i c ne) r

    pub off-sent : (l : Frame) (x : compressor.Table) → Gave t p.list l x → calls.is_on (frame_context l) c ≡ false
        → RelatedAt c j d t → RelatedAt c j d x
    off-sent _ _ (gave-plain least most) e r = r
    off-sent _ _ (gave-on i on) e r = off-on i (number-off s t sender p c i on e) r

    off-context : (i : ℕ) (on : On t p.list i) → (c ≡ i → ⊥) → (output : List ℕ)
        → decompressing.context_at (receive_of d (kind_at t p.list i) (bytes_at t p.list i) output).table c
        ≡ decompressing.context_at d c
    off-context i on ne output =
        context_at-receive d (kind_at t p.list i) (bytes_at t p.list i) receiver.sound
        (gave-bytes s t sender p _ _ (gave-on i on)) output c (λ e. ne (e ∙ named-at s t sender p i on))

    off-arrived : (l : Frame) (x : compressor.Table) → Gave t p.list l x → calls.is_on (frame_context l) c ≡ false
        → (output : List ℕ)
        → decompressing.context_at (receive_of d l.kind l.bytes output).table c ≡ decompressing.context_at d c
    off-arrived _ _ (gave-plain least most) e output =
        ap (λ (y : decompressor.Table). decompressing.context_at y c) (plain-table least most output)
    off-arrived _ _ (gave-on i on) e output = off-context i on (number-off s t sender p c i on e) output

    pub off-passes : (l : Frame) (x : compressor.Table) → Gave t p.list l x → calls.is_on (frame_context l) c ≡ false
        → RelatedAt c j d t → (output : List ℕ) → RelatedAt c j (receive_of d l.kind l.bytes output).table x
    off-passes l x g e r output =
        subst (λ (v : DecompressorContext). Related x.settings.repeats j v (compressing.context_at x c))
        (sym (off-arrived l x g e output)) (off-sent l x g e r)
