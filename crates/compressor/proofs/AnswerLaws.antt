-- Iarwennol. Laws of what a call answers: what it takes to have delivered some bytes. Assume nothing.
-- Used by the proofs of send.
use Rattle.std.specs.Prelude.{ℕ, ◌≤◌, ◌<◌, ◌≡◌, List, length}
use Rattle.std.proofs.Common.{arith, lt-ltb, le-ltb}
use Rattle.octets.specs.Put.{Wrote}
use Rattle.octets.specs.PutLaws.{wrote-front}
use Rattle.compressor.specs.declared.table.Table.{Table}
use Rattle.compressor.specs.Answer.{refused, delivered}

module _ (before after : Table) (k : ℕ) where
  pub delivered-refused : (bytes output : List ℕ) → length output < length bytes
      → refused before 11 output ≡ delivered before after k bytes output
  delivered-refused bytes output h = rw (lt-ltb (length output) (length bytes) h)

  pub delivered-written : {output output' bytes : List ℕ} {n : ℕ} → Wrote output output' 0 n bytes → length bytes ≤ length output
      → record { number = 0; kind = k; length = n; output = output'; table = after } ≡ delivered before after k bytes output
  delivered-written {output} {output'} {bytes} {n} w h =
      let e : n ≡ length bytes = omega (arith, w.ends) in
      rw (le-ltb (length output) (length bytes) h, e, wrote-front w h)
