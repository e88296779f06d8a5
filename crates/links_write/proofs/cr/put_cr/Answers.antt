use Rattle.links.specs.Cr.{cr_bytes}
use Rattle.octets.specs.PutLaws.{wrote_then}
use Rattle.links_write.proofs.cr.put_cr.Goals as goal

pub returns : goal.returns
unfolding cr_bytes
returns c =
    wrote_then c.put_flags-at.ensures.1 (
    wrote_then c.put_if-at.ensures.1 (
    wrote_then c.put_second-at.ensures.1 (
    wrote_then c.put_deltas-at.ensures.1 c.put_list.ensures.1)))
