use Prim.Native.Nat.{ℕ}
use mathlib.Core.Path.{◌≡◌}
use mathlib.Core.List.{List}
use native.Mathlib.Omega.{arith}
use lib.ListN.{take}
use Rattle.octets.specs.Put.{Wrote, words}
use Rattle.octets.specs.PutLaws.{wrote_then, wrote_nothing}
use Rattle.headers.specs.Header.{header_bytes}
use Rattle.headers_write.proofs.write.put_bare.Goals as goal

nothing : (l : List ℕ) (at n : ℕ) (ws : List ℕ) → n ≡ 0 → Wrote l l at at (words (take n ws))
nothing l at n ws e = rw e wrote_nothing

pub returns : goal.returns
unfolding header_bytes
returns c = (
  omega arith,
  wrote_then c.put_ip_front-at.ensures.1 (
      wrote_then (rw c.ip_checksum-checksum.ensures at c.put_ip_back-at.ensures.1) (
      wrote_then c.put_udp-at.ensures.1 (
      wrote_then c.put_rtp.ensures.1 (
      nothing _ _ c.args.h.csrc.count c.args.h.csrc.words c.requires.2)))),
)
