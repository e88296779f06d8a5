-- Iarwennol. Laws of the calls that a crate above needs which holds both ends. Assume nothing.
-- Used by endpoint.
use Rattle.std.specs.Prelude.{ℕ, ◌≡◌, refl, Bool, true, false, cond, List, []}
use Rattle.settings.specs.Settings as settings
use Rattle.compressor.specs.Answer as sending
use Rattle.compressor.specs.Table as compressing
use Rattle.compressor.proofs.TableLaws as compressed
use Rattle.compressor.specs.Send.{send_of}
use Rattle.compressor.specs.Request.{request_of}
use Rattle.compressor.specs.declared.table.Table.{Table as CompressorTable}
use Rattle.decompressor.specs.Answer as receiving
use Rattle.decompressor.specs.Table as decompressing
use Rattle.decompressor.proofs.TableLaws as decompressed
use Rattle.decompressor.specs.Receive.{receive_by, receive_of}
use Rattle.decompressor.specs.declared.table.Table.{Table as DecompressorTable}
use Rattle.report.specs.Report.{report_of}

-- both ends judge settings alike
pub open-alike : (t : CompressorTable) (d : DecompressorTable) (n k : ℕ)
    → (compressing.open_of t n k).number ≡ (decompressing.open_of d n k).number
unfolding compressing.open_of decompressing.open_of settings.open_of
open-alike t d n k = by (settings.in_range n k)
  where
    by : (b : Bool) → (compressing.open_by t (cond b (settings.accepted n k) (settings.refused 1))).number
        ≡ (decompressing.open_by d (cond b (settings.accepted n k) (settings.refused 1))).number
    by true = refl
    by false = refl

-- a refused opening leaves the table
pub open-leaves : (d : DecompressorTable) (n k : ℕ) → ((decompressing.open_of d n k).number ≡ 0 → ⊥)
    → (decompressing.open_of d n k).table ≡ d
unfolding decompressing.open_of settings.open_of
open-leaves d n k h = by (settings.in_range n k) h
  where
    by : (b : Bool) → ((decompressing.open_by d (cond b (settings.accepted n k) (settings.refused 1))).number ≡ 0 → ⊥)
        → (decompressing.open_by d (cond b (settings.accepted n k) (settings.refused 1))).table ≡ d
    by true q = absurd (q refl)
    by false q = refl

---- every call but an opening is refused by a table that is not open

pub send-closed : (p output : List ℕ) → send_of compressing.unopened p output ≡ sending.refused compressing.unopened 1 output
unfolding send_of
send-closed p output = rw compressed.unsound-unopened

pub request-closed : (s : List ℕ) → request_of compressing.unopened s ≡ sending.refused compressing.unopened 1 []
unfolding request_of
request-closed s = rw compressed.unsound-unopened

pub receive-closed : (kind : ℕ) (s output : List ℕ)
    → receive_of decompressing.unopened kind s output ≡ receiving.refused decompressing.unopened 1 output
unfolding receive_by
receive-closed kind s output = rw decompressed.unsound-unopened

pub report-closed : (output : List ℕ) → report_of decompressing.unopened output ≡ receiving.refused decompressing.unopened 1 output
unfolding report_of
report-closed output = rw decompressed.unsound-unopened
