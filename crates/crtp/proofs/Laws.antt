-- Iarwennol. The two ends meet the laws of the list theorem (calls), one context at a time. Assumes nothing.
-- Used by the theorem (Robust).
use Prim.Native.Nat.{ℕ, suc, ◌≤◌, ◌<◌}
use mathlib.Core.Path.{◌≡◌, refl, sym, subst}
use mathlib.Core.Bool.{Bool, true, false, cond}
use mathlib.Core.List.{List}
use mathlib.Core.Option.{none, some, none-ne-some, some-injective}
use borrow.Author.Tests.{eqb-true}
use lib.Dec.{eqb}
use lib.ListN.{length, take}
use Rattle.settings.specs.declared.Settings.{Settings}
use Rattle.context.proofs.Relation.{Related}
use Rattle.context.proofs.Others.{related-requested}
use Rattle.compressor.specs.declared.table.Table as compressor
use Rattle.compressor.specs.Table as compressing
use Rattle.compressor.specs.Send.{send_of}
use Rattle.compressor.proofs.SendLaws.{On}
use Rattle.compressor.specs.Request.{request_of}
use Rattle.compressor.proofs.RequestLaws.{request-asks}
use Rattle.decompressor.specs.declared.table.Table as decompressor
use Rattle.decompressor.specs.Answer as receiving
use Rattle.decompressor.specs.Table as decompressing
use Rattle.decompressor.specs.Receive.{receive_of}
use Rattle.saves.specs.Saves.{save_of, load_of}
use Rattle.saves.proofs.SavesLaws.{load-save}
use Rattle.calls.specs.Calls as calls
use Rattle.calls.proofs.Laws as calls-laws
use Rattle.crtp.specs.Robust.{Bytes, checksum_fits, Rebuilt}
use Rattle.crtp.proofs.Lists.{Frame, frame_of, form_of, frame_context, ends}
use Rattle.crtp.proofs.Tables.{SenderFit, ReceiverFit, RelatedAt, Rel, sender-send, sender-request, receiver-receive}
use Rattle.crtp.proofs.Given.{Gave, gave, kept, gave-bytes, gave-here, gave-plainly}
use Rattle.crtp.proofs.OneContext.{Accepts, here-lost, accepts-related, here-right, here-taken, here-lacks, here-stays}
use Rattle.crtp.proofs.OneContext.{plain-right, plain-lacks, off-sent, off-passes}

module _ (s : Settings) where
  ---- A request

  request-related : (c j : ℕ) (d : decompressor.Table) (t : compressor.Table) (q : Bytes) → RelatedAt c j d t
      → RelatedAt c j d (request_of t q.list).table
  request-related c j d t q r =
      let asks = request-asks t q.list in
      let v = decompressing.context_at d c in
      subst (λ (x : Settings). Related x.repeats j v (compressing.context_at (request_of t q.list).table c))
      (sym asks.settings) (asks.keeps (Related t.settings.repeats j v) (related-requested t.settings.repeats j v) c r)

  asks : (c j : ℕ) (d : decompressor.Table) (t : compressor.Table) (q : Bytes) → Rel s c j d t
      → Rel s c j d (request_of t q.list).table
  asks c j d t q r = record {
    sender = sender-request s t r.sender q;
    receiver = r.receiver;
    related = request-related c j d t q r.related;
  }

  ---- A send that gave out the frame l

  module _ (t : compressor.Table) (p output : Bytes) where
    abbrev next : compressor.Table
    next = (send_of t p.list output.list).table

    module _ (l : Frame) (gives : frame_of (send_of t p.list output.list) ≡ some l) where
      given : Gave t p.list l next
      given = gave t p.list output.list l gives

      ---- by the two tables alone

      module _ (d : decompressor.Table) (sender : SenderFit s t) (receiver : ReceiverFit s d) (b : Bytes) where
        pub received : ReceiverFit s (receive_of d l.kind l.bytes b.list).table
        received = receiver-receive s d l.kind l.bytes b.list (gave-bytes s t sender p l next given) receiver

        module _ (plain : frame_context l ≡ none) where
          plains : length p.list ≤ length b.list → Rebuilt p.list (receive_of d l.kind l.bytes b.list)
          plains room =
              gave-plainly s t sender p (λ f. Rebuilt p.list (receive_of d f.kind f.bytes b.list))
              (λ least most. plain-right s t sender d receiver p least most b.list room) l next given plain

          plain_lacks : length b.list < length p.list → (receive_of d l.kind l.bytes b.list).number ≡ 11
          plain_lacks short =
              gave-plainly s t sender p (λ f. (receive_of d f.kind f.bytes b.list).number ≡ 11)
              (λ least most. plain-lacks s t sender d receiver p least most b.list short) l next given plain

      ---- at context c

      module _ (d : decompressor.Table) (c j : ℕ) (r : Rel s c j d t) where
        lost-to : (j' : ℕ) → RelatedAt c j' d next → Rel s c j' d next
        lost-to j' k = record { sender = sender-send s t r.sender p output; receiver = r.receiver; related = k }

        abbrev arrived : Bytes → decompressor.Table
        arrived b = (receive_of d l.kind l.bytes b.list).table

        arrived-to : (b : Bytes) (j' : ℕ) → RelatedAt c j' (arrived b) next → Rel s c j' (arrived b) next
        arrived-to b j' k = record {
          sender = sender-send s t r.sender p output;
          receiver = received d r.sender r.receiver b;
          related = k;
        }

        -- on another context, or plain
        module _ (off : calls.is_on (frame_context l) c ≡ false) where
          others : Rel s c j d next
          others = lost-to j (off-sent s t r.sender d r.receiver p c j l next given off r.related)

          passes : (b : Bytes) → Rel s c j (arrived b) next
          passes b = arrived-to b j (off-passes s t r.sender d r.receiver p c j l next given off r.related b.list)

        -- on c
        module _ (on : calls.is_on (frame_context l) c ≡ true) where
          accepts : (o : On t p.list c) → Accepts s t r.sender d r.receiver p c o j t.settings
          accepts o = accepts-related s t r.sender d r.receiver p c o j r.related

          loses : suc j ≤ s.repeats → Rel s c (suc j) d next
          loses few =
              lost-to (suc j)
              (gave-here s t r.sender p c (λ f x. RelatedAt c (suc j) d x)
              (λ o. here-lost s t r.sender d r.receiver p c o j r.related few) l next given on)

          -- it arrives; its checksum fits if one was lost before it
          module _ (fits : 1 ≤ j → checksum_fits p.list ≡ true) (b : Bytes) where
            -- with room
            module _ (room : length p.list ≤ length b.list) where
              right : Rebuilt p.list (receive_of d l.kind l.bytes b.list)
              right =
                  gave-here s t r.sender p c (λ f x. Rebuilt p.list (receive_of d f.kind f.bytes b.list))
                  (λ o. here-right s t r.sender d r.receiver p c o j (accepts o) fits b.list room) l next given on

              takes : Rel s c 0 (arrived b) next
              takes =
                  arrived-to b 0
                  (gave-here s t r.sender p c (λ f x. RelatedAt c 0 (receive_of d f.kind f.bytes b.list).table x)
                  (λ o. here-taken s t r.sender d r.receiver p c o j (accepts o) fits b.list room) l next given on)

            -- without room
            module _ (short : length b.list < length p.list) where
              lacks : (receive_of d l.kind l.bytes b.list).number ≡ 11
              lacks =
                  gave-here s t r.sender p c (λ f x. (receive_of d f.kind f.bytes b.list).number ≡ 11)
                  (λ o. here-lacks s t r.sender d r.receiver p c o j (accepts o) fits b.list short) l next given on

              stays : arrived b ≡ d
              stays =
                  gave-here s t r.sender p c (λ f x. (receive_of d f.kind f.bytes b.list).table ≡ d)
                  (λ o. here-stays s t r.sender d r.receiver p c o j (accepts o) fits b.list short) l next given on

              shorts : suc j ≤ s.repeats → Rel s c (suc j) (arrived b) next
              shorts few = subst (λ (x : decompressor.Table). Rel s c (suc j) x next) (sym stays) (loses few)

  refuses : (c j : ℕ) (d : decompressor.Table) (t : compressor.Table) (p output : Bytes)
      → frame_of (send_of t p.list output.list) ≡ none → Rel s c j d t → Rel s c j d (next t p output)
  refuses c j d t p output e r = subst (λ (x : compressor.Table). Rel s c j d x) (sym (kept t p.list output.list e)) r

  ---- A load of what a save gave out, handed any table

  module _ (d : decompressor.Table) (receiver : ReceiverFit s d) (output : Bytes) (handed : decompressor.Table) where
    abbrev saved : receiving.Result
    saved = save_of d output.list

    loads-by : (b : Bool) (f : List ℕ) → eqb saved.number 0 ≡ b
        → cond b (some (take saved.length saved.output)) none ≡ some f → (load_of handed f).table ≡ d
    loads-by true f e gives =
        subst (λ (x : List ℕ). (load_of handed x).table ≡ d) (some-injective _ f gives)
        (load-save d handed output.list receiver.sound receiver.size receiver.held (eqb-true saved.number 0 e))
    loads-by false f e gives = absurd (none-ne-some f gives)

    loads : (f : List ℕ) → form_of saved ≡ some f → (load_of handed f).table ≡ d
    loads f gives = loads-by (eqb saved.number 0) f refl gives

  ---- The laws

  pub laws : calls-laws.Laws s.repeats ends (SenderFit s) (ReceiverFit s) (Rel s)
  laws = record {
    asks_start = λ t q f. sender-request s t f q;
    sends_start = λ t p b f. sender-send s t f p b;
    receives_fine = λ d t p b l f e g b'. received t p b l e d f g b';
    loads = λ d b f g e x. loads d g b x f e;
    plains = λ d t p b l f e o g b' room. plains t p b l e d f g b' o room;
    plain_lacks = λ d t p b l f e o g b' short. plain_lacks t p b l e d f g b' o short;
    asks = asks;
    refuses = refuses;
    others = λ c j d t p b l e o r. others t p b l e d c j r o;
    loses = λ c j d t p b l e o r few. loses t p b l e d c j r o few;
    passes = λ c j d t p b l e o r b'. passes t p b l e d c j r o b';
    takes = λ c j d t p b l e o r fit b' room. (right t p b l e d c j r o fit b' room, takes t p b l e d c j r o fit b' room);
    shorts = λ c j d t p b l e o r few fit b' short. shorts t p b l e d c j r o fit b' short few;
    lacks = λ c j d t p b l e o r fit b' short. lacks t p b l e d c j r o fit b' short;
  }
