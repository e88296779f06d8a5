use Rattle.decompressor.proofs.Judged.{judged-by, unjudged}
use Rattle.receive.proofs.judge.is_disproved.Goals as goal

-- what the type of the header's checksum says of it: owning the parameter tells it, field by field in the declared order
pub returns-then-reads_checksum-g : goal.returns-then-reads_checksum-g
returns-then-reads_checksum-g c =
    let a = c.args in
    let fields = c.well_formed.1.1.0.1.1 in
    let small = fields.1.1.1.1.1.0.1 in
    let j = rw c.reads_checksum.ensures at c.if-reads_checksum-g.true in
    rw c.udp_checksum.ensures
    (judged-by a.c a.g a.h a.rest.now a.size j small c.requires.1)

pub returns : goal.returns
returns c =
    let a = c.args in
    unjudged a.c a.g a.h a.rest.now (rw c.reads_checksum.ensures at c.if-reads_checksum-g.false)
