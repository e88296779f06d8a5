use Rattle.links.specs.Cu.{cu_bytes}
use Rattle.octets.specs.PutLaws.{wrote_then}
use Rattle.links_write.proofs.cu.put_cu.Goals as goal

pub returns : goal.returns
unfolding cu_bytes
returns c =
    wrote_then c.put_flags-at.ensures.1 (
    wrote_then c.put_second-at.ensures.1 (
    wrote_then c.put_changes-at.ensures.1 c.put_values.ensures.1))
