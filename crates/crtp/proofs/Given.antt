-- Iarwennol. What a send gave out: plain, or on a context; its bytes, and the context number that it carries. Assumes nothing.
-- Used by the send and the arrival seen from one context (OneContext), and by the laws of the two ends (Laws).
use Prim.Native.Nat.{ℕ, ◌≤◌, ◌<◌}
use mathlib.Core.Path.{◌≡◌, refl, sym, ap, ◌∙◌, subst}
use mathlib.Core.Bool.{true, false, not, false≢true}
use mathlib.Core.List.{List, ◌++◌}
use mathlib.Core.Option.{Option, none, some, none-ne-some, some-injective}
use native.Mathlib.Omega.{arith}
use borrow.Author.Tests.{eqb-true, eqb-false, ne_eqb}
use lib.ListN.{length, drop}
use lib.Seq.{take-append_seam}
use Rattle.codes.specs.Bytes.{AllBytes}
use Rattle.codes.specs.BytesLaws.{AllBytes-append}
use Rattle.codes.specs.Reading.{byte_at}
use Rattle.packet.specs.declared.header.Header.{Header}
use Rattle.settings.specs.declared.Settings.{Settings}
use Rattle.headers.specs.Header.{header_of, header_size}
use Rattle.headers.proofs.HeaderLaws.{header_of-range}
use Rattle.codes.proofs.BytesRead.{AllBytes-drop}
use Rattle.links.specs.Fh.{fh_of}
use Rattle.links.proofs.FhLaws.{FhFits, AllBytes-fh_bytes, fh_of-fh_bytes}
use Rattle.links.specs.declared.fh.FullHeader as fh
use Rattle.links.proofs.CuLaws.{first-cu_bytes, AllBytes-cu_bytes}
use Rattle.links.proofs.CrLaws.{first-cr_bytes, AllBytes-cr_bytes}
use Rattle.context.specs.Compressor.{full_header, Going}
use Rattle.context.proofs.PartsLaws.{LinkType, full-header, compressed-udp, compressed-rtp}
use Rattle.outgoing.specs.Outgoing.{link_by, link_bytes}
use Rattle.outgoing.specs.Size.{Writable}
use Rattle.compressor.specs.declared.table.Table as compressor
use Rattle.compressor.specs.Answer as sending
use Rattle.compressor.specs.Table as compressing
use Rattle.compressor.specs.Send.{send_of}
use Rattle.compressor.proofs.SendLaws.{On, step_at, table_at, kind_at, bytes_at, Goes, goes-refused, goes-plain, goes_on}
use Rattle.compressor.proofs.SendLaws.{send_of-goes}
use Rattle.compressor.proofs.CanSendLaws.{sound-most, CanSend-on}
use Rattle.compressor.proofs.SoundLaws.{sound-context}
use Rattle.decompressor.proofs.ReceiveSound.{named}
use Rattle.calls.specs.Calls as calls
use Rattle.crtp.specs.Robust.{Bytes}
use Rattle.crtp.proofs.Lists.{Frame, frame_of, frame_context}
use Rattle.outgoing.specs.StepLaws.{Carried, carried-step_on, full-fits}
use Rattle.crtp.proofs.Tables.{SenderFit}

---- The ways of a send, by what it gave out

abbrev pub plain_frame : List ℕ → Frame
plain_frame p = record { kind = 0; bytes = p }

abbrev pub frame_at : compressor.Table → List ℕ → ℕ → Frame
frame_at t p i = record { kind = kind_at t p i; bytes = bytes_at t p i }

-- a packet p that the table t gave out as this frame, and the table that this left
pub data Gave (t : compressor.Table) (p : List ℕ) : Frame → compressor.Table → Type 0 where
  gave-plain : 1 ≤ length p → length p ≤ 1500 → Gave t p (plain_frame p) t
  gave-on : (i : ℕ) → On t p i → Gave t p (frame_at t p i) (table_at t p i)

-- an accepted send's frame is its type and exactly its bytes; a refused one has none
frame-accepted : (t : compressor.Table) (kind : ℕ) (bytes output : List ℕ)
    → frame_of (sending.accepted t kind bytes output) ≡ some (record { kind = kind; bytes = bytes })
frame-accepted t kind bytes output = rw (take-append_seam bytes _)

frame_refused : (t : compressor.Table) (m : ℕ) (output : List ℕ) → 1 ≤ m → frame_of (sending.refused t m output) ≡ none
frame_refused t m output h = rw (ne_eqb m 0 (omega arith))

module _ (t : compressor.Table) (p output : List ℕ) where
  module _ (l : Frame) where
    gave-frame : (x : compressor.Table) (f : Frame) → Gave t p f x
        → frame_of (sending.accepted x f.kind f.bytes output) ≡ some l → Gave t p l x
    gave-frame x f g e =
        subst (λ (y : Frame). Gave t p y x) (some-injective f l (sym (frame-accepted x f.kind f.bytes output) ∙ e)) g

    gave-by : (x : sending.Result) → Goes t p output x → frame_of x ≡ some l → Gave t p l x.table
    gave-by _ (goes-refused m h) e = absurd (none-ne-some l (sym (frame_refused t m output h) ∙ e))
    gave-by _ (goes-plain s least most) e = gave-frame t (plain_frame p) (gave-plain least most) e
    gave-by _ (goes_on i on) e = gave-frame (table_at t p i) (frame_at t p i) (gave-on i on) e

    pub gave : frame_of (send_of t p output) ≡ some l → Gave t p l (send_of t p output).table
    gave = gave-by (send_of t p output) (send_of-goes t p output)

  -- a send that gave out nothing left the table
  kept_by : (x : sending.Result) → Goes t p output x → frame_of x ≡ none → x.table ≡ t
  kept_by _ (goes-refused m h) e = refl
  kept_by _ (goes-plain s least most) e = refl
  kept_by _ (goes_on i on) e =
      absurd (none-ne-some (frame_at t p i) (sym e ∙ frame-accepted (table_at t p i) (kind_at t p i) (bytes_at t p i) output))

  pub kept : frame_of (send_of t p output) ≡ none → (send_of t p output).table ≡ t
  kept = kept_by (send_of t p output) (send_of-goes t p output)

---- A packet on context i

-- what is not plain counts for the context that its bytes name
frame-named : (k : ℕ) → LinkType k → (bytes : List ℕ) → frame_context (record { kind = k; bytes = bytes }) ≡ some (named k bytes)
frame-named _ full-header bytes = refl
frame-named _ compressed-udp bytes = refl
frame-named _ compressed-rtp bytes = refl

module _ (s : Settings) (t : compressor.Table) (fit : SenderFit s t) (p : Bytes) where
  module _ (i : ℕ) (on : On t p.list i) where
    pub writable : Writable (header_of p.list) (step_at t p.list i)
    writable = (CanSend-on t p.list i fit.size p.small on).writable

    pub carried : Carried (step_at t p.list i)
    carried =
        carried-step_on t.settings.repeats (header_of p.list) (header_of-range p.small) (compressing.context_at t i)
        (fit.held i) (sound-context t p.list i on fit.size)

    few-contexts : t.settings.contexts ≤ 64
    few-contexts = sound-most t fit.sound

    byte-sized : i < 256
    byte-sized = omega (arith, on.place.among, few-contexts)

    abbrev a : Going
    a = step_at t p.list i

    abbrev h : Header
    h = header_of p.list

    fits : FhFits t.settings.contexts i a.link.generation a.link.sequence h
    fits = full-fits writable (omega (arith, few-contexts)) on.place.among

    abbrev front : ℕ → List ℕ
    front k = link_by k i (length p.list) h a

    abbrev rest : List ℕ
    rest = drop (header_size h) p.list

    -- its bytes are bytes
    front_bytes : (k : ℕ) → LinkType k → a.kind ≡ k → AllBytes (front k)
    front_bytes _ full-header e =
        AllBytes-fh_bytes t.settings.contexts i a.link.generation a.link.sequence (length p.list) h fits
    front_bytes _ compressed-udp e =
        AllBytes-cu_bytes i a.link.sequence (not a.context.blank) a.parts (carried.udp e) byte-sized
    front_bytes _ compressed-rtp e =
        AllBytes-cr_bytes i a.link.sequence (not a.context.blank) a.parts (carried.rtp e) byte-sized

    bytes-at : AllBytes (bytes_at t p.list i)
    unfolding link_bytes
    bytes-at = AllBytes-append (front_bytes a.kind carried.type refl) (AllBytes-drop (header_size h) p.small)

    -- the context number that it carries
    full-context : byte_at (front full_header ++ rest) 3 ≡ i
    unfolding fh_of
    full-context =
        ap (λ (x : fh.FullHeader). x.context)
        (fh_of-fh_bytes t.settings.contexts i a.link.generation a.link.sequence (length p.list) h fits rest)

    named_by : (k : ℕ) → LinkType k → a.kind ≡ k → named k (front k ++ rest) ≡ i
    named_by _ full-header e = full-context
    named_by _ compressed-udp e =
        first-cu_bytes i a.link.sequence (not a.context.blank) a.parts (carried.udp e) rest
    named_by _ compressed-rtp e =
        first-cr_bytes i a.link.sequence (not a.context.blank) a.parts (carried.rtp e) rest

    pub named-at : named (kind_at t p.list i) (bytes_at t p.list i) ≡ i
    unfolding link_bytes
    named-at = named_by a.kind carried.type refl

    context-at : frame_context (frame_at t p.list i) ≡ some i
    context-at = frame-named a.kind carried.type (bytes_at t p.list i) ∙ ap (λ (m : ℕ). some m) named-at

  ---- What was given out, seen from context c

  pub gave-bytes : (l : Frame) (x : compressor.Table) → Gave t p.list l x → AllBytes l.bytes
  gave-bytes _ _ (gave-plain least most) = p.small
  gave-bytes _ _ (gave-on i on) = bytes-at i on

  module _ (c : ℕ) where
    number_is : (i : ℕ) → On t p.list i → calls.is_on (frame_context (frame_at t p.list i)) c ≡ true → i ≡ c
    number_is i on e = eqb-true i c (sym (ap (λ (o : Option ℕ). calls.is_on o c) (context-at i on)) ∙ e)

    pub number-off : (i : ℕ) → On t p.list i → calls.is_on (frame_context (frame_at t p.list i)) c ≡ false → c ≡ i → ⊥
    number-off i on e q = eqb-false i c (sym (ap (λ (o : Option ℕ). calls.is_on o c) (context-at i on)) ∙ e) (sym q)

    -- on c: what holds of a packet on c holds of it
    module _ (P : Frame → compressor.Table → Type 0)
        (k : On t p.list c → P (frame_at t p.list c) (table_at t p.list c)) where
      here-at : (i : ℕ) → i ≡ c → On t p.list i → P (frame_at t p.list i) (table_at t p.list i)
      here-at i e on =
          subst (λ (m : ℕ). P (frame_at t p.list m) (table_at t p.list m)) (sym e)
          (k (subst (λ (m : ℕ). On t p.list m) e on))

      pub gave-here : (l : Frame) (x : compressor.Table) → Gave t p.list l x → calls.is_on (frame_context l) c ≡ true → P l x
      gave-here _ _ (gave-plain least most) e = absurd (false≢true e)
      gave-here _ _ (gave-on i on) e = here-at i (number_is i on e) on

  -- on no context: what holds of a plain packet holds of it
  pub gave-plainly : (P : Frame → Type 0) → (1 ≤ length p.list → length p.list ≤ 1500 → P (plain_frame p.list))
      → (l : Frame) (x : compressor.Table) → Gave t p.list l x → frame_context l ≡ none → P l
  gave-plainly P k _ _ (gave-plain least most) e = k least most
  gave-plainly P k _ _ (gave-on i on) e = absurd (none-ne-some i (sym e ∙ context-at i on))
