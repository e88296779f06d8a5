-- Iarwennol. The worked cases (rules 11.1, 11.3): one table, one statement, over the definitions that the calls' contracts cite.
-- A difference is held against its code; a packet against what a send gives out and what a receive makes of that; a report against
-- its bytes; arrivals against what they are rebuilt to. Assumes nothing; used by no definition.
use Rattle.std.specs.Prelude.{ℕ, ◌/◌, ◌%◌, ◌≡◌, refl, List, [], ◌∷◌, ◌++◌, map, take, replicate}
use Rattle.settings.specs.Settings as settings
use Rattle.octets.specs.Sum.{plus}
use Rattle.codes.proofs.Cases as codes
use Rattle.codes.specs.Code.{code_of}
use Rattle.codes.specs.Difference.{difference, sum, has_code}
use Rattle.codes.specs.Reading.{read_byte, read_word, read_long, read_by}
use Rattle.context.specs.Compressor.{first, started, same_constants, begun, started_unless_due, requested, reset, adopts_id}
use Rattle.context.specs.Compressor.{adopts_timestamp, judged, due_now, any_due, kind_of, list_if, parts_of, due_after}
use Rattle.context.specs.Compressor.{deltas_after, moved}
use Rattle.context.specs.Compressor.{sent_with, step_of, first_step}
use Rattle.context.specs.Decompressor.{filled, gap_judged, ip_after, rtp_after, deltas_held, advanced, advanced_whole, broke}
use Rattle.context.specs.Decompressor.{settled, applied, applied_whole, rebuilt}
use Rattle.context.specs.Field.{next_sequence, next_generation, off_pattern, counted, is_due, gap, moved_on}
use Rattle.context.specs.Sound.{sound_list, sound_link, sound_due, zero_list, used_sound, unused_sound, sound_compressor_by}
use Rattle.context.specs.Sound.{sound_compressor, filled_sound, unfilled_sound, sound_decompressor_by, sound_decompressor}
use Rattle.context.specs.Sound.{empty_compressor, empty_decompressor}
use Rattle.fields.specs.Next.{next_as, read_version, read_payload, next_version, next_byte, next_word, next_long, next_delta16}
use Rattle.fields.specs.Next.{next_delta32}
use Rattle.fields.specs.Next.{next_payload}
use Rattle.headers.specs.Checksum.{ip_checksum_of, ip_checksum}
use Rattle.headers.specs.Compressible.{fixed_form, compressible}
use Rattle.headers.specs.Header.{rtp_at, flow_of, ip_of, header_of, ip_front, ip_back, udp_bytes, rtp_fixed, header_bytes}
use Rattle.links.specs.Cr.{cr_bytes, second_with, second_of, deltas_of, cr_rest, cr_of}
use Rattle.links.specs.Cs.{cs_bytes, record_with, record_judged, request_judged}
use Rattle.links.specs.Cu.{cu_bytes, changes_of, values_of, cu_rest, cu_of}
use Rattle.links.specs.Fh.{fh_bytes, fields_form, fh_judged, fh_of}
use Rattle.links.proofs.FhPacketLaws.{with_lengths}
use Rattle.links.specs.Head.{head_of}
use Rattle.links.specs.Whole.{fixed_of, rtp_rest, rtp_of, whole_of}
use Rattle.packet.specs.Csrc.{same_list}
use Rattle.compressor.specs.declared.table.Table as compressor
use Rattle.compressor.specs.Table as compressing
use Rattle.compressor.specs.Answer as sending
use Rattle.compressor.specs.Lookup.{place_of}
use Rattle.compressor.specs.Request.{request_of}
use Rattle.compressor.specs.Send.{step_on, link_bytes, send_at, send_of}
use Rattle.decompressor.specs.declared.table.Table as decompressor
use Rattle.decompressor.specs.Table as decompressing
use Rattle.decompressor.specs.Answer as receiving
use Rattle.decompressor.specs.Receive.{receive_full, receive_old, receive_compressed, receive_kind, receive_by, receive_of}
use Rattle.report.specs.Report.{report_of}

---- The packets

-- 41 bytes: IPv4 with DF, UDP with a blank checksum, RTP with no CSRC, one byte of payload. flow: the last byte of the SSRC;
-- checksum: that of IP, written out for each; marked: 80 hex where the marker is set, else 0
abbrev pub voice : (flow tos id checksum marked sequence timestamp : ℕ) → List ℕ
voice flow tos id checksum marked sequence timestamp =
    0x45 ∷ tos ∷ 0x00 ∷ 0x29 ∷ id / 256 ∷ id % 256 ∷ 0x40 ∷ 0x00 ∷ 0x40 ∷ 0x11 ∷ checksum / 256 ∷ checksum % 256
    ∷ 0x0A ∷ 0x00 ∷ 0x00 ∷ 0x01 ∷ 0x0A ∷ 0x00 ∷ 0x00 ∷ 0x02 ∷ 0x13 ∷ 0x88 ∷ 0x13 ∷ 0x8A ∷ 0x00 ∷ 0x15 ∷ 0x00 ∷ 0x00
    ∷ 0x80 ∷ marked ∷ 0x00 ∷ sequence ∷ 0x00 ∷ 0x00 ∷ 0x00 ∷ timestamp ∷ 0x00 ∷ 0x00 ∷ 0x00 ∷ flow ∷ 0xAB ∷ []

-- such a packet of flow 7 from its RTP header on
abbrev pub rtp : (sequence timestamp : ℕ) → List ℕ
rtp sequence timestamp =
    0x80 ∷ 0x00 ∷ 0x00 ∷ sequence ∷ 0x00 ∷ 0x00 ∷ 0x00 ∷ timestamp ∷ 0x00 ∷ 0x00 ∷ 0x00 ∷ 0x07 ∷ 0xAB ∷ []

---- The table

-- a link packet: its type and its bytes
pub record Link : Type 0 where
  pub kind : ℕ
  pub bytes : List ℕ

abbrev pub link : ℕ → List ℕ → Link
link kind bytes = record { kind = kind; bytes = bytes }

-- a link packet and the packet that it is rebuilt to
pub record Arrival : Type 0 where
  pub link : Link
  pub packet : List ℕ

abbrev pub arrival : (kind : ℕ) → (bytes packet : List ℕ) → Arrival
arrival kind bytes packet = record { link = link kind bytes; packet = packet }

-- a case of the differences' table; both ends opened with N and K, some packets sent and received with the types that they take,
-- then one more and the link packet that it becomes; a decompressor opened with N and K, some arrivals with the numbers that they
-- answer, and the bytes of its report; a decompressor opened with N and K, and some arrivals
pub data Case : Type 0 where
  difference-case : codes.Case → Case
  carries : (n k : ℕ) → (earlier : List (List ℕ)) → (types : List ℕ) → (packet : List ℕ) → Link → Case
  reports : (n k : ℕ) → (arrived : List Link) → (numbers : List ℕ) → (bytes : List ℕ) → Case
  rebuilds : (n k : ℕ) → List Arrival → Case

-- N 2: an FH with timestamp 10, a CU with F and a difference of 160, then some more
abbrev pub paced : List Arrival → Case
paced arrived =
    rebuilds 2 1
    (arrival 1 (with_lengths 0x40 0x00 0x00 0x00 (voice 7 0 1 0x26C1 0x00 1 10)) (voice 7 0 1 0x26C1 0x00 1 10)
    ∷ arrival 2 (0x00 ∷ 0xA1 ∷ 0x00 ∷ 0x80 ∷ 0xA0 ∷ 0xAB ∷ []) (voice 7 0 2 0x26C0 0x00 2 170)
    ∷ arrived)

unfoldable pub cases : List Case
cases =
    map difference-case codes.cases
    -- three flows before it; the tenth packet of the fourth, whose TOS has changed five times
    ++ (carries 0 4
    (voice 1 0 1 0x26C1 0x00 1 10 ∷ voice 2 0 1 0x26C1 0x00 1 10 ∷ voice 3 0 1 0x26C1 0x00 1 10
    ∷ voice 4 0 1 0x26C1 0x00 1 10 ∷ voice 4 0 2 0x26C0 0x00 2 10 ∷ voice 4 0 3 0x26BF 0x00 3 10
    ∷ voice 4 0 4 0x26BE 0x00 4 10 ∷ voice 4 0 5 0x26BD 0x00 5 10 ∷ voice 4 1 6 0x26BB 0x00 6 10
    ∷ voice 4 2 7 0x26B9 0x00 7 10 ∷ voice 4 3 8 0x26B7 0x00 8 10 ∷ voice 4 4 9 0x26B5 0x00 9 10 ∷ [])
    (1 ∷ 1 ∷ 1 ∷ 1 ∷ 3 ∷ 3 ∷ 3 ∷ 3 ∷ 1 ∷ 1 ∷ 1 ∷ 1 ∷ [])
    (voice 4 5 10 0x26B3 0x00 10 10)
    (link 1 (with_lengths 0x45 0x03 0x00 0x09 (voice 4 5 10 0x26B3 0x00 10 10)))
    -- an FH of context 3, generation 5, sequence 4; then a CR of the same sequence, which breaks it
    ∷ reports 0 4
    (link 1 (with_lengths 0x45 0x03 0x00 0x04 (voice 4 0 1 0x26C1 0x00 1 10)) ∷ link 3 (0x03 ∷ 0x04 ∷ []) ∷ [])
    (0 ∷ 9 ∷ [])
    (0x01 ∷ 0x01 ∷ 0x03 ∷ 0x84 ∷ 0x05 ∷ [])
    -- two FH, two CU and two CR, then the marker set
    ∷ carries 1 1
    (voice 7 0 1 0x26C1 0x00 1 0 ∷ voice 7 0 2 0x26C0 0x00 2 20 ∷ voice 7 0 3 0x26BF 0x00 3 40
    ∷ voice 7 0 4 0x26BE 0x00 4 60 ∷ voice 7 0 5 0x26BD 0x00 5 80 ∷ voice 7 0 6 0x26BC 0x00 6 100 ∷ [])
    (1 ∷ 1 ∷ 2 ∷ 2 ∷ 3 ∷ 3 ∷ [])
    (voice 7 0 7 0x26BB 0x80 7 120)
    (link 3 (0x00 ∷ 0x86 ∷ 0xAB ∷ []))
    -- timestamps 10, 20, 30 in FH, then 40, and ID 1234 hex off pattern
    ∷ carries 2 1
    (voice 7 0 1 0x26C1 0x00 1 10 ∷ voice 7 0 2 0x26C0 0x00 2 20 ∷ voice 7 0 3 0x26BF 0x00 3 30 ∷ [])
    (1 ∷ 1 ∷ 1 ∷ [])
    (voice 7 0 0x1234 0x148E 0x00 4 40)
    (link 2 (0x00 ∷ 0xE3 ∷ 0x20 ∷ 0x0A ∷ 0x12 ∷ 0x34 ∷ 0x00 ∷ 0x00 ∷ 0x00 ∷ 0x28 ∷ 0xAB ∷ []))
    -- rule 11.3: a CU without F and dT, whose RTP header has sequence 5 and timestamp 20; then a CR, and one after two losses
    ∷ paced (arrival 2 (0x00 ∷ 0x02 ∷ rtp 5 20) (voice 7 0 3 0x26BF 0x00 5 20)
    ∷ arrival 3 (0x00 ∷ 0x03 ∷ 0xAB ∷ []) (voice 7 0 4 0x26BE 0x00 6 20)
    ∷ arrival 3 (0x00 ∷ 0x06 ∷ 0xAB ∷ []) (voice 7 0 7 0x26BB 0x00 9 20) ∷ [])
    -- rule 11.3: the same CU with a difference of 80; then a CR
    ∷ paced (arrival 2 (0x00 ∷ 0x22 ∷ 0x50 ∷ rtp 5 20) (voice 7 0 3 0x26BF 0x00 5 20)
    ∷ arrival 3 (0x00 ∷ 0x03 ∷ 0xAB ∷ []) (voice 7 0 4 0x26BE 0x00 6 100) ∷ [])
    -- rule 11.3: a CU with F and without dT that brings the timestamp 20; then a CR
    ∷ paced (arrival 2 (0x00 ∷ 0x82 ∷ 0x20 ∷ 0x00 ∷ 0x00 ∷ 0x00 ∷ 0x14 ∷ 0xAB ∷ []) (voice 7 0 3 0x26BF 0x00 3 20)
    ∷ arrival 3 (0x00 ∷ 0x03 ∷ 0xAB ∷ []) (voice 7 0 4 0x26BE 0x00 4 180) ∷ [])
    ∷ [])

---- What a case says, and what the definitions give

-- what an arrival answers and gives out
pub record Delivered : Type 0 where
  pub number : ℕ
  pub packet : List ℕ

-- of a difference; the types of the earlier sends, the number and link packet of the last one, the number and packet that its
-- arrival answered; the numbers of the arrivals, the number and bytes of the report, the number that a request of them answered;
-- what each arrival gave out
pub data Shown : Type 0 where
  coded : codes.Shown → Shown
  carried : (types : List ℕ) → (sent : ℕ) → Link → (received : ℕ) → (packet : List ℕ) → Shown
  reported : (numbers : List ℕ) → (report : ℕ) → (bytes : List ℕ) → (request : ℕ) → Shown
  delivered : List Delivered → Shown

abbrev pub said : Case → Shown
said (difference-case c) = coded (codes.said c)
said (carries n k earlier types p l) = carried types 0 l 0 p
said (reports n k arrived numbers b) = reported numbers 0 b 0
said (rebuilds n k arrived) = delivered (map (λ (a : Arrival). record { number = 0; packet = a.packet }) arrived)

-- before an opening no table is sound, so that an opening that is refused would show as number 1
abbrev compressor_of : (n k : ℕ) → compressor.Table
compressor_of n k = (compressing.open_of compressing.unopened n k).table

abbrev decompressor_of : (n k : ℕ) → decompressor.Table
decompressor_of n k = (decompressing.open_of decompressing.unopened n k).table

-- the output that each call finds
abbrev room : List ℕ
room = replicate 44 0xAA

-- what a send and a receive gave out
abbrev link_of : sending.Result → Link
link_of r = link r.kind (take r.length r.output)

abbrev packet_of : receiving.Result → List ℕ
packet_of r = take r.length r.output

-- an arrival
abbrev received : decompressor.Table → Link → receiving.Result
received d l = receive_of d l.kind l.bytes room

-- what is shown of a last send; types: those of the sends before it
abbrev carried_by : decompressor.Table → (types : List ℕ) → sending.Result → Shown
carried_by d types r =
    carried types r.number (link_of r) (received d (link_of r)).number (packet_of (received d (link_of r)))

-- each packet is sent and arrives, then the last
abbrev carried_after : compressor.Table → decompressor.Table → (types : List ℕ) → (earlier : List (List ℕ)) → List ℕ → Shown
carried_after c d types [] p = carried_by d types (send_of c p room)
carried_after c d types (q ∷ qs) p =
    let r = send_of c q room in
    carried_after r.table (received d (link_of r)).table (types ++ (r.kind ∷ [])) qs p

-- what is shown of a report, which the compressor is handed; numbers: those of the arrivals before it
abbrev reported_by : compressor.Table → (numbers : List ℕ) → receiving.Result → Shown
reported_by c numbers r = reported numbers r.number (packet_of r) (request_of c (packet_of r)).number

-- each link packet arrives, then the report
abbrev reported_after : compressor.Table → decompressor.Table → (numbers : List ℕ) → List Link → Shown
reported_after c d numbers [] = reported_by c numbers (report_of d room)
reported_after c d numbers (l ∷ ls) = reported_after c (received d l).table (numbers ++ ((received d l).number ∷ [])) ls

-- what each arrival gives out
abbrev delivered_by : decompressor.Table → List Arrival → List Delivered
delivered_by d [] = []
delivered_by d (a ∷ later) =
    let r = received d a.link in
    record { number = r.number; packet = packet_of r } ∷ delivered_by r.table later

abbrev pub given : Case → Shown
given (difference-case c) = coded (codes.given c)
given (carries n k earlier types p l) = carried_after (compressor_of n k) (decompressor_of n k) [] earlier p
given (reports n k arrived numbers b) = reported_after (compressor_of n k) (decompressor_of n k) [] arrived
given (rebuilds n k arrived) = delivered (delivered_by (decompressor_of n k) arrived)

pub cases-hold : map given cases ≡ map said cases
unfolding cases compressing.open_of decompressing.open_of settings.open_of compressing.sound_of
    decompressing.sound_of plus code_of difference sum has_code read_byte read_word read_long read_by place_of
    request_of step_on link_bytes send_at send_of first started same_constants begun started_unless_due requested reset adopts_id
    adopts_timestamp judged due_now any_due kind_of list_if parts_of due_after deltas_after moved sent_with step_of first_step
    filled
    gap_judged ip_after rtp_after deltas_held advanced advanced_whole broke settled applied applied_whole rebuilt next_sequence
    next_generation off_pattern counted is_due gap moved_on sound_list sound_link sound_due zero_list used_sound unused_sound
    sound_compressor_by sound_compressor filled_sound unfilled_sound sound_decompressor_by sound_decompressor empty_compressor
    empty_decompressor receive_full receive_old receive_compressed receive_kind receive_by next_as read_payload next_byte next_word
    next_long
    next_delta16 next_delta32 next_payload ip_checksum_of ip_checksum fixed_form compressible rtp_at flow_of ip_of header_of
    ip_front ip_back
    udp_bytes rtp_fixed header_bytes cr_bytes second_with second_of deltas_of cr_rest cr_of cs_bytes record_with record_judged
    request_judged
    cu_bytes changes_of values_of cu_rest cu_of read_version next_version fixed_of rtp_rest rtp_of whole_of fh_bytes fields_form
    fh_judged fh_of
    head_of same_list report_of
cases-hold = refl
