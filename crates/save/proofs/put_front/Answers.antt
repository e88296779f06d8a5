use Rattle.octets.specs.PutLaws.{wrote_then}
use Rattle.save.proofs.put_front.Goals as goal

pub returns : goal.returns
returns c =
    wrote_then c.put-at.ensures (wrote_then c.put-at-2.ensures c.put.ensures)
