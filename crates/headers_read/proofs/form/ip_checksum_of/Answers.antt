use native.Mathlib.Omega.{arith}
use Rattle.codes.specs.BytesLaws.{AllBytes-elements}
use Rattle.octets.specs.PutLaws.{wrote_then, wrote-whole}
use Rattle.headers.proofs.ChecksumLaws.{length-beside, ip_checksum_of-beside}
use Rattle.headers_read.proofs.form.ip_checksum_of.Goals as goal

pub returns : goal.returns
returns c =
    let a = c.args in
    let p = a.p.now in
    let bytes = AllBytes-elements p (λ i. (c.shared_slice_known-1.given i).fits) in
    let w = wrote_then c.put_all-at.ensures (wrote_then c.put_all-at-2.ensures c.put_all.ensures) in
    rw (c.sum.ensures, wrote-whole w (length-beside p (omega arith))) (ip_checksum_of-beside p (omega arith) bytes a.total)
