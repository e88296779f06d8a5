-- Iarwennol. Lists of calls that meet the premises and lists that miss them, with their answers computed. Assumes nothing.
-- So the theorems are about something: a lost full header, a lost CU, an arrival without room, a late arrival, a plain packet, a
-- save and a load of it, right checksums across every gap. And two lists show why no less is asked of checksums.
use Prim.Native.Nat.{ℕ}
use mathlib.Core.Path.{◌≡◌, refl, sym, ◌∙◌}
use mathlib.Core.Bool.{Bool, true, false, false≢true}
use mathlib.Core.List.{List, [], ◌∷◌, ◌++◌, map}
use borrow.Author.Tests.{eqb-true}
use lib.Dec.{eqb, lit≤}
use lib.ListN.{replicate}
use Rattle.codes.specs.Bytes.{are_bytes}
use Rattle.codes.specs.BytesLaws.{AllBytes-are_bytes}
use Rattle.compressor.specs.Table as compressing
use Rattle.decompressor.specs.Table as decompressing
use Rattle.settings.specs.Settings as settings
use Rattle.settings.specs.declared.Settings.{Settings}
use Rattle.octets.specs.Sum.{plus}
use Rattle.codes.specs.Code.{code_of}
use Rattle.codes.specs.Difference.{difference, sum, has_code}
use Rattle.codes.specs.Reading.{read_byte, read_word, read_long, read_by}
use Rattle.compressor.specs.Lookup.{place_of}
use Rattle.compressor.specs.Request.{request_of}
use Rattle.compressor.specs.Send.{step_on, link_bytes, send_at, send_of}
use Rattle.context.specs.Compressor.{first, started, same_constants, begun, started_unless_due, requested, reset, adopts_id}
use Rattle.context.specs.Compressor.{adopts_timestamp, judged, due_now, any_due, kind_of, list_if, parts_of, due_after}
use Rattle.context.specs.Compressor.{deltas_after, moved}
use Rattle.context.specs.Compressor.{sent_with, step_of, first_step}
use Rattle.context.specs.Decompressor.{filled, gap_judged, ip_after, rtp_after, deltas_held, advanced, broke}
use Rattle.context.specs.Decompressor.{settled, applied, rebuilt}
use Rattle.context.specs.Field.{next_sequence, next_generation, off_pattern, counted, is_due, gap, moved_on}
use Rattle.context.specs.Sound.{sound_list, sound_link, sound_due, zero_list, used_sound, unused_sound, sound_compressor_by}
use Rattle.context.specs.Sound.{sound_compressor, filled_sound, unfilled_sound, sound_decompressor_by, sound_decompressor}
use Rattle.context.specs.Sound.{empty_compressor, empty_decompressor}
use Rattle.decompressor.specs.Receive.{receive_full, receive_old, receive_compressed, receive_kind, receive_by}
use Rattle.fields.specs.Next.{next_as, read_payload, next_byte, next_word, next_long, next_delta16, next_delta32, next_payload}
use Rattle.headers.specs.Checksum.{ip_checksum_of, ip_checksum}
use Rattle.headers.specs.UdpChecksum.{udp_checksum_of, udp_right}
use Rattle.headers.specs.Compressible.{fixed_form, compressible}
use Rattle.headers.specs.Header.{rtp_at, flow_of, ip_of, header_of, ip_front, ip_back, udp_bytes, rtp_fixed, header_bytes}
use Rattle.links.specs.Cr.{cr_bytes, second_with, second_of, deltas_of, cr_rest, cr_of}
use Rattle.links.specs.Cs.{record_with, record_judged, request_judged}
use Rattle.links.specs.Cu.{cu_bytes, changes_of, values_of, cu_rest, cu_of}
use Rattle.links.specs.Fh.{fh_bytes, fields_form, fh_judged, fh_of}
use Rattle.links.specs.Head.{head_of}
use Rattle.packet.specs.Csrc.{same_list}
use Rattle.saves.specs.Saves.{checked, next_up_to, kept_form, header_from, record_bytes, fixed_of, size_allowed, context_of}
use Rattle.saves.specs.Saves.{record_of}
use Rattle.saves.specs.Saves.{whole_of, front_of, saved_bytes, save_of, load_of}
use Rattle.crtp.specs.Robust as robust
use Rattle.crtp.specs.Robust.{Bytes, Sent, Bounded, Opened}
use Rattle.crtp.specs.Unsaved.{Call, send, request, arrival, other, World, after, Ordered, losses, Premises}
use Rattle.crtp.specs.Example.{packet0, packet1, packet2, packet3, packet4, packet5, packet6, packet7, packet8, odd, asks}
use Rattle.crtp.specs.Example.{asks_first, blank0, blank1, wrong4, wrong5, Shown, answers}
use Rattle.crtp.proofs.Calm.{bounded-calm}
use Rattle.crtp.proofs.Tested.{gone, is_orderly, are_allowed, all_tested, are_fit, all_fit}
use Rattle.crtp.proofs.Unsaved.{as_robust}

abbrev pub bytes : (l : List ℕ) → are_bytes l ≡ true → Bytes
bytes l e = record { list = l; small = AllBytes-are_bytes l e }

abbrev pub wide : Bytes
wide = bytes (replicate 44 0xAA) refl

abbrev roomy : Bytes
roomy = bytes (replicate 60 0xAA) refl

abbrev pub narrow : Bytes
narrow = bytes (replicate 10 0xAA) refl

abbrev pub chosen : Settings
chosen = record { repeats = 1; contexts = 2 }

abbrev pub start : World
start = record { compressor = compressing.empty_table chosen; decompressor = decompressing.empty_table chosen; sent = [] }

-- calls that leave both tables stand between
abbrev pub list : List Call
list =
    send (bytes packet0 refl) wide
    ∷ other
    ∷ send (bytes packet1 refl) wide
    ∷ other
    ∷ arrival 1 wide
    ∷ other
    ∷ send (bytes packet2 refl) wide
    ∷ send (bytes packet3 refl) wide
    ∷ request (bytes asks refl)
    ∷ send (bytes packet4 refl) wide
    ∷ arrival 3 wide
    ∷ other
    ∷ other
    ∷ other
    ∷ other
    ∷ arrival 4 narrow
    ∷ send (bytes packet5 refl) wide
    ∷ other
    ∷ send (bytes odd refl) wide
    ∷ arrival 5 wide
    ∷ arrival 6 wide
    ∷ []

-- of four packets only the last one arrives
abbrev pub missed : List Call
missed =
    other
    ∷ send (bytes packet0 refl) wide
    ∷ other
    ∷ send (bytes packet1 refl) wide
    ∷ other
    ∷ send (bytes packet2 refl) wide
    ∷ other
    ∷ other
    ∷ other
    ∷ other
    ∷ other
    ∷ send (bytes packet3 refl) wide
    ∷ arrival 3 wide
    ∷ other
    ∷ request (bytes asks_first refl)
    ∷ other
    ∷ other
    ∷ []

-- the first list again, with the decompressor's table saved at its end. The first save has no room, so the second is the 0th
abbrev saving : List robust.Call
saving = map as_robust list ++ (robust.save narrow ∷ robust.save roomy ∷ [])

-- after it a packet on the context and a plain one arrive, then the table is loaded, and both are lost; the next two are rebuilt
abbrev restored : List robust.Call
restored =
    saving
    ++ (robust.send (bytes packet6 refl) wide
    ∷ robust.arrival 7 wide
    ∷ robust.send (bytes odd refl) wide
    ∷ robust.arrival 8 wide
    ∷ robust.load 0 decompressing.unopened
    ∷ robust.send (bytes packet7 refl) wide
    ∷ robust.arrival 9 wide
    ∷ robust.send (bytes packet8 refl) wide
    ∷ robust.arrival 10 wide
    ∷ [])

-- two packets arrive before the load, and are lost
abbrev undoing : List robust.Call
undoing =
    saving
    ++ (robust.send (bytes packet6 refl) wide
    ∷ robust.arrival 7 wide
    ∷ robust.send (bytes packet7 refl) wide
    ∷ robust.arrival 8 wide
    ∷ robust.load 0 decompressing.unopened
    ∷ robust.send (bytes packet8 refl) wide
    ∷ [])

abbrev undone : List robust.Call
undone = undoing ++ (robust.arrival 9 wide ∷ [])

-- Were the premise on checksums asked only of flows all of whose packets have one: a flow that begins without and goes on with them
-- would be free of it. Of these packets the first two full headers have none; a CU is lost, and a wrong one follows
abbrev switching : List robust.Call
switching =
    robust.send (bytes blank0 refl) wide
    ∷ robust.send (bytes blank1 refl) wide
    ∷ robust.arrival 1 wide
    ∷ robust.send (bytes packet2 refl) wide
    ∷ robust.send (bytes packet3 refl) wide
    ∷ robust.arrival 3 wide
    ∷ robust.send (bytes packet4 refl) wide
    ∷ robust.send (bytes wrong5 refl) wide
    ∷ []

abbrev switched : List robust.Call
switched = switching ++ (robust.arrival 5 wide ∷ [])

-- Were it asked only of arrivals with room: N 2, three full headers, a CU that is lost, a wrong one without room, and a right one
-- after no more than these two
abbrev cramping : List robust.Call
cramping =
    robust.send (bytes packet0 refl) wide
    ∷ robust.send (bytes packet1 refl) wide
    ∷ robust.send (bytes packet2 refl) wide
    ∷ robust.arrival 2 wide
    ∷ robust.send (bytes packet3 refl) wide
    ∷ robust.send (bytes wrong4 refl) wide
    ∷ []

abbrev cramped : List robust.Call
cramped =
    cramping
    ++ (robust.arrival 4 narrow
    ∷ robust.send (bytes packet5 refl) wide
    ∷ robust.arrival 5 wide
    ∷ [])

abbrev origin : robust.World
origin = robust.fresh start.compressor start.decompressor

-- opened for two lost in a row
abbrev patience : Settings
patience = record { repeats = 2; contexts = 2 }

abbrev patient : robust.World
patient = robust.fresh (compressing.empty_table patience) (decompressing.empty_table patience)

abbrev pub shown : ℕ → List ℕ → Shown
shown n b = record { number = n; bytes = b }

-- the types of what was given out
abbrev kinds : List Sent → List ℕ
kinds [] = []
kinds (e ∷ es) = e.kind ∷ kinds es

pub record Computed : Type 0 where
  -- of the first list what is lost on context 0 and on another; and its arrivals are in order. Of the second its answer, and what
  -- is lost
  on : losses 0 list 0 (after start list).sent ≡ true ∷ false ∷ true ∷ false ∷ true ∷ false ∷ []
  off : (c : ℕ) → eqb 0 c ≡ false → losses c list 0 (after start list).sent ≡ []
  ordered : Ordered start 0 list
  fit : are_fit list (after start list).sent list ≡ true
  pub refused : answers origin (map as_robust missed) ≡ shown 8 [] ∷ []
  missing : losses 0 missed 0 (after start missed).sent ≡ true ∷ true ∷ true ∷ false ∷ []
  -- of the list with a save and a load of it: its answers, and the types: two full headers, two CU, two full headers by request,
  -- one plain packet, a CU, one plain packet, a CU and a CR; and it is allowed
  answered :
      answers origin restored
      ≡ shown 0 packet1 ∷ shown 0 packet3 ∷ shown 11 [] ∷ shown 0 packet5 ∷ shown 0 odd
      ∷ shown 0 packet6 ∷ shown 0 odd ∷ shown 0 packet7 ∷ shown 0 packet8 ∷ []
  given : kinds (robust.after origin restored).sent ≡ 1 ∷ 1 ∷ 2 ∷ 2 ∷ 1 ∷ 1 ∷ 0 ∷ 2 ∷ 0 ∷ 2 ∷ 3 ∷ []
  allowed : are_allowed 1 origin restored ≡ true
  -- of the last list its answers, and what is lost at its last arrival
  stale :
      answers origin undone
      ≡ shown 0 packet1 ∷ shown 0 packet3 ∷ shown 11 [] ∷ shown 0 packet5 ∷ shown 0 odd
      ∷ shown 0 packet6 ∷ shown 0 packet7 ∷ shown 9 [] ∷ []
  forgotten :
      gone (robust.after origin undoing) 9 ≡ true ∷ false ∷ true ∷ false ∷ true ∷ false ∷ true ∷ true ∷ []
  -- a flow that switches: all is as it should be but the checksum of its last packet, which is refused though it has room
  switch_answers : answers origin switched ≡ shown 0 blank1 ∷ shown 0 packet3 ∷ shown 12 [] ∷ []
  switch_allowed : are_allowed 1 origin switching ≡ true
  switch_orderly : is_orderly 1 (robust.after origin switching) 5 ≡ true
  switch_on : robust.is_on (robust.context_of (robust.sent_at (robust.after origin switching) 5)) 0 ≡ true
  switch_gone : gone (robust.after origin switching) 5 ≡ true ∷ false ∷ true ∷ false ∷ true ∷ []
  switch_wrong : robust.checksum_fits (robust.sent_at (robust.after origin switching) 5).packet ≡ false
  -- an arrival without room: all is as it should be but its checksum; it breaks its context, and the next one is refused
  cramp_answers : answers patient cramped ≡ shown 0 packet2 ∷ shown 12 [] ∷ shown 8 [] ∷ []
  cramp_allowed : are_allowed 2 patient cramping ≡ true
  cramp_orderly : is_orderly 2 (robust.after patient cramping) 4 ≡ true
  cramp_on : robust.is_on (robust.context_of (robust.sent_at (robust.after patient cramping) 4)) 0 ≡ true
  cramp_gone : gone (robust.after patient cramping) 4 ≡ true ∷ true ∷ false ∷ true ∷ []
  cramp_wrong : robust.checksum_fits (robust.sent_at (robust.after patient cramping) 4).packet ≡ false
  cramp_next : gone (robust.after patient cramped) 5 ≡ true ∷ true ∷ false ∷ true ∷ true ∷ []

pub computed : Computed
unfolding compressing.sound_of decompressing.sound_of plus code_of difference sum has_code read_byte read_word read_long read_by
    place_of
    request_of step_on link_bytes send_at send_of first started same_constants begun started_unless_due requested reset adopts_id
    adopts_timestamp judged due_now any_due kind_of list_if parts_of due_after deltas_after moved sent_with step_of first_step
    filled
    gap_judged ip_after rtp_after deltas_held advanced broke settled applied rebuilt next_sequence
    next_generation off_pattern counted is_due gap moved_on sound_list sound_link sound_due zero_list used_sound unused_sound
    sound_compressor_by sound_compressor filled_sound unfilled_sound sound_decompressor_by sound_decompressor empty_compressor
    empty_decompressor receive_full receive_old receive_compressed receive_kind receive_by next_as read_payload next_byte next_word
    next_long
    next_delta16 next_delta32 next_payload ip_checksum_of ip_checksum fixed_form compressible rtp_at flow_of ip_of header_of
    ip_front ip_back
    udp_bytes rtp_fixed header_bytes udp_checksum_of udp_right cr_bytes second_with second_of deltas_of cr_rest cr_of record_with
    record_judged
    request_judged cu_bytes
    changes_of values_of cu_rest cu_of fh_bytes fields_form fh_judged fh_of head_of same_list checked next_up_to kept_form
    header_from
    record_bytes fixed_of size_allowed context_of record_of whole_of front_of saved_bytes save_of load_of
computed = record {
  on = refl;
  off = λ c e. rw e;
  ordered = (lit≤ tt, lit≤ tt, (lit≤ tt, lit≤ tt, (lit≤ tt, lit≤ tt, (lit≤ tt, lit≤ tt, (lit≤ tt, lit≤ tt, tt)))));
  refused = refl;
  missing = refl;
  answered = refl;
  given = refl;
  allowed = refl;
  stale = refl;
  forgotten = refl;
  fit = refl;
  switch_answers = refl;
  switch_allowed = refl;
  switch_orderly = refl;
  switch_on = refl;
  switch_gone = refl;
  switch_wrong = refl;
  cramp_answers = refl;
  cramp_allowed = refl;
  cramp_orderly = refl;
  cramp_on = refl;
  cramp_gone = refl;
  cramp_wrong = refl;
  cramp_next = refl;
}

---- The premises

pub opened : Opened chosen start.compressor start.decompressor
unfolding compressing.open_of decompressing.open_of settings.open_of
opened = record {
  earlier_c = start.compressor;
  earlier_d = start.decompressor;
  accepted_c = refl;
  accepted_d = refl;
  compressor = refl;
  decompressor = refl;
}

bounded-by : (c : ℕ) (b : Bool) → eqb 0 c ≡ b → Bounded 1 (losses c list 0 (after start list).sent)
bounded-by c true e =
    rw (← eqb-true 0 c e, computed.on) (bounded-calm 1 (true ∷ false ∷ true ∷ false ∷ true ∷ false ∷ []) refl)
bounded-by c false e = rw (computed.off c e) (bounded-calm 1 [] refl)

pub premises : Premises chosen start list
premises = record {
  opened = opened;
  nothing = refl;
  ordered = computed.ordered;
  bounded = λ c. bounded-by c (eqb 0 c) refl;
  fits = all_fit list (after start list).sent list computed.fit;
}

-- the second list loses more than it may
pub too_many : Bounded 1 (losses 0 missed 0 (after start missed).sent) → ⊥
too_many b = b [] (true ∷ false ∷ []) computed.missing

-- with a save and a load
premises-restored : robust.Premises chosen start.compressor start.decompressor restored
premises-restored = record { opened = opened; allowed = all_tested 1 restored origin computed.allowed }

-- with a load that undoes two packets, the arrival that follows is not as it may be
too-many-undone : robust.Proper 1 (robust.after origin undoing) 9 → ⊥
too-many-undone p = p.bounded 0 (true ∷ false ∷ true ∷ false ∷ true ∷ false ∷ []) [] computed.forgotten

-- what the last two lists miss is the premise on checksums, and nothing else
too-wrong : robust.Proper 1 (robust.after origin switching) 5 → ⊥
too-wrong p =
    false≢true (sym computed.switch_wrong
    ∙ p.fits 0 computed.switch_on (true ∷ false ∷ true ∷ false ∷ [], computed.switch_gone))

too-wrong-cramped : robust.Proper 2 (robust.after patient cramping) 4 → ⊥
too-wrong-cramped p =
    false≢true (sym computed.cramp_wrong ∙ p.fits 0 computed.cramp_on (true ∷ true ∷ false ∷ [], computed.cramp_gone))
