use Rattle.octets.specs.PutLaws.{wrote_then}
use Rattle.save.proofs.record.put_used.Goals as goal

pub returns : goal.returns
returns c =
    wrote_then c.put-at.ensures (
    wrote_then c.put-at-2.ensures (
    wrote_then c.put-at-3.ensures (
    wrote_then c.put-at-4.ensures (
    wrote_then c.put-at-5.ensures c.put_kept.ensures))))
