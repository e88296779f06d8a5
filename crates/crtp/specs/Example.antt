-- Iarwennol. The premises of robustness can be met: lists of calls, with their answers computed. N 1, K 2.
-- A full header is lost, a CU is lost, an arrival has no room, a request stands between, an arrival is late, a plain packet goes;
-- then the table is saved, a packet arrives, and the bytes are loaded into a table that was never opened. The packets have right
-- UDP checksums across all these gaps, and one that follows none has a wrong one.
-- And they can be missed: in one list the first three packets are lost, in another too many arrive between save and load, and the
-- next arrival is refused. In two more a wrong checksum follows a gap: so less must not be asked than is (rule 10.9).
-- Used by proofs/Example.antt, which shows all of it.
use Rattle.std.specs.Prelude.{ℕ, List, [], ◌∷◌, take}
use Rattle.crtp.specs.Robust.{Call, send, request, arrival, save, load, other, World, step, answer}

---- The packets: one stream, sequence and ID one on, timestamp 160 on with each; and one that is no IPv4 packet

-- the bytes that change: the last of ID, IP checksum and sequence, and the last two of the timestamp; and the UDP checksum
abbrev voice : (id checksum sequence high low udp_high udp_low : ℕ) → List ℕ
voice id checksum sequence high low udp_high udp_low =
    0x45 ∷ 0x00 ∷ 0x00 ∷ 0x28 ∷ 0x00 ∷ id ∷ 0x40 ∷ 0x00 ∷ 0x40 ∷ 0x11 ∷ 0x26 ∷ checksum
    ∷ 0x0A ∷ 0x00 ∷ 0x00 ∷ 0x01 ∷ 0x0A ∷ 0x00 ∷ 0x00 ∷ 0x02 ∷ 0x13 ∷ 0x88 ∷ 0x13 ∷ 0x8A ∷ 0x00 ∷ 0x14 ∷ udp_high ∷ udp_low
    ∷ 0x80 ∷ 0x00 ∷ 0x00 ∷ sequence ∷ 0x00 ∷ 0x00 ∷ high ∷ low ∷ 0x00 ∷ 0x00 ∷ 0x00 ∷ 0x07 ∷ []

-- their UDP checksums are right, but for the last, which follows no gap
abbrev pub packet0 : List ℕ
packet0 = voice 0x01 0xC2 0x64 0x03 0xE8 0x40 0x5E

abbrev pub packet1 : List ℕ
packet1 = voice 0x02 0xC1 0x65 0x04 0x88 0x3F 0xBD

abbrev pub packet2 : List ℕ
packet2 = voice 0x03 0xC0 0x66 0x05 0x28 0x3F 0x1C

abbrev pub packet3 : List ℕ
packet3 = voice 0x04 0xBF 0x67 0x05 0xC8 0x3E 0x7B

abbrev pub packet4 : List ℕ
packet4 = voice 0x05 0xBE 0x68 0x06 0x68 0x3D 0xDA

abbrev pub packet5 : List ℕ
packet5 = voice 0x06 0xBD 0x69 0x07 0x08 0x3D 0x39

abbrev pub packet6 : List ℕ
packet6 = voice 0x07 0xBC 0x6A 0x07 0xA8 0x3C 0x98

abbrev pub packet7 : List ℕ
packet7 = voice 0x08 0xBB 0x6B 0x08 0x48 0x3B 0xF7

abbrev pub packet8 : List ℕ
packet8 = voice 0x09 0xBA 0x6C 0x08 0xE8 0x12 0x34

-- the first two with a blank checksum, the fifth and the sixth with one that is one off
abbrev pub blank0 : List ℕ
blank0 = voice 0x01 0xC2 0x64 0x03 0xE8 0x00 0x00

abbrev pub blank1 : List ℕ
blank1 = voice 0x02 0xC1 0x65 0x04 0x88 0x00 0x00

abbrev pub wrong4 : List ℕ
wrong4 = voice 0x05 0xBE 0x68 0x06 0x68 0x3D 0xDB

abbrev pub wrong5 : List ℕ
wrong5 = voice 0x06 0xBD 0x69 0x07 0x08 0x3D 0x3A

abbrev pub odd : List ℕ
odd = 0x00 ∷ []

-- context-state request for context 0, last link sequence 3, generation 0
abbrev pub asks : List ℕ
asks = 0x01 ∷ 0x01 ∷ 0x00 ∷ 0x83 ∷ 0x00 ∷ []

-- the same for a context that was never filled
abbrev pub asks_first : List ℕ
asks_first = 0x01 ∷ 0x01 ∷ 0x00 ∷ 0x80 ∷ 0x00 ∷ []

---- What an arrival answers: number, length, and so many bytes of output

pub record Shown : Type 0 where
  pub number : ℕ
  pub bytes : List ℕ

-- the answers of a list's arrivals, in order
abbrev pub answers : World → List Call → List Shown
answers w [] = []
answers w (send p output ∷ xs) = answers (step w (send p output)) xs
answers w (request q ∷ xs) = answers (step w (request q)) xs
answers w (arrival i output ∷ xs) =
    record { number = (answer w i output).number; bytes = take (answer w i output).length (answer w i output).output }
    ∷ answers (step w (arrival i output)) xs
answers w (save output ∷ xs) = answers (step w (save output)) xs
answers w (load i handed ∷ xs) = answers (step w (load i handed)) xs
answers w (other ∷ xs) = answers w xs
