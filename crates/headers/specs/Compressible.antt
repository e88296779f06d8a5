-- Iarwennol. Which packets are compressed (rules 5.1, 5.2).
-- Used by the compressor's send; `fixed_form` by the full header's refusals too (rule 6.1, links).
use Rattle.std.specs.Prelude.{ℕ, ◌+◌, ◌-◌, ◌*◌, ◌%◌, Bool, ◌&&◌, List, eqb, leb, length}
use Rattle.codes.specs.Reading.{byte_at, word_at}
use Rattle.headers.specs.Rtp.{rtp_first_of}
use Rattle.headers.specs.Header.{count_at}
use Rattle.headers.specs.Checksum.{ip_checksum_of}

-- rules 5.1, 6.1: what a full header shares with its packet: first byte; MF and fragment offset 0; protocol; RTP version
unfoldable pub fixed_form : List ℕ → Bool
fixed_form p =
    eqb (byte_at p 0) 0x45
    && eqb (word_at p 6 % 0x4000) 0
    && eqb (byte_at p 9) 17
    && eqb (rtp_first_of (byte_at p 28)).version 2

-- rule 5.1: a packet that is compressed: 40 bytes or more; the form above; IP length; IP checksum; UDP length; even destination
-- port; 12 bytes and the CSRC list within the UDP data, which begin at 28
unfoldable pub compressible : List ℕ → Bool
compressible p =
    leb 40 (length p)
    && fixed_form p
    && eqb (word_at p 2) (length p)
    && eqb (word_at p 10) (ip_checksum_of p (word_at p 2))
    && eqb (word_at p 24 + 20) (word_at p 2)
    && eqb (word_at p 22 % 2) 0
    && leb (12 + 4 * count_at p 28) (length p - 28)
