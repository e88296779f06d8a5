use Prim.Native.Nat.{◌-◌, ◌≤◌}
use mathlib.Core.Path.{◌≡◌}
use native.Mathlib.Omega.{arith}
use lib.ListN.{length}
use Rattle.headers.specs.Checksum.{ip_checksum}
use Rattle.headers_write.specs.SummedLaws.{udp_checksum_of-summed}
use borrow.Author.Rules.{rules}
use Rattle.headers_write.proofs.udp.udp_checksum.Goals as goal

pub returns : goal.returns
returns c =
    let a = c.args in
    -- a list has fifteen words
    let fifteen : length a.h.csrc.words ≡ 15 = search rules in
    let enough : a.h.csrc.count ≤ length a.h.csrc.words = omega (arith, c.requires.0.count, fifteen) in
    rw (c.never_blank.ensures, c.sum.ensures, c.sum_header-front.ensures)
    (udp_checksum_of-summed a.total (a.total - 20) (ip_checksum a.h a.total) a.h a.rest.now enough)
