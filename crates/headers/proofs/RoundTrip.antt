-- Iarwennol. A compressible packet is its header, printed from the fields, and the rest of its bytes. Assumes nothing.
-- Used by the theorem on lists of calls: the packet that the decompressor prints is the one that was read.
use Rattle.std.specs.Prelude.{ℕ, ◌+◌, ◌-◌, ◌≡◌, true, List, ◌++◌, length, drop}
use Rattle.std.proofs.Common.{sym, ◌∙◌, arith}
use Rattle.codes.specs.Bytes.{AllBytes}
use Rattle.codes.specs.Reading.{word_at}
use Rattle.headers.specs.Header.{header_of, header_bytes, header_size}
use Rattle.headers.specs.Checksum.{ip_checksum, printed}
use Rattle.headers.specs.Compressible.{compressible}
use Rattle.headers.proofs.CompressibleLaws.{compressible-true, compressible-size}
use Rattle.headers.proofs.ChecksumLaws.{ip_checksum-header_of}
use Rattle.headers.proofs.HeaderLaws.{header_bytes-header_of}

module _ {p : List ℕ} (a : AllBytes p) (e : compressible p ≡ true) where
  -- lengths and checksum are those that are worked out
  udp_length-worked : word_at p 24 ≡ length p - 20
  udp_length-worked = let c = compressible-true p e in omega arith

  checksum-worked : word_at p 10 ≡ ip_checksum (header_of p) (length p)
  checksum-worked =
      let c = compressible-true p e in
      c.checksum ∙ rw c.total (sym (ip_checksum-header_of a c.form (length p)))

  printed-bytes : header_bytes (word_at p 2) (word_at p 24) (word_at p 10) (header_of p) ≡ printed (header_of p) (length p)
  printed-bytes = λ i. header_bytes ((compressible-true p e).total i) (udp_length-worked i) (checksum-worked i) (header_of p)

  pub printed-header_of : printed (header_of p) (length p) ++ drop (header_size (header_of p)) p ≡ p
  printed-header_of =
      (λ i. sym printed-bytes i ++ drop (header_size (header_of p)) p)
      ∙ header_bytes-header_of a (compressible-true p e).form (compressible-size p e)
