use Rattle.octets.specs.PutLaws.{wrote_then}
use Rattle.receive.proofs.output.put_bare_packet.Goals as goal

pub returns : goal.returns
returns c = let e = c.requires.2 in
    rw e at (wrote_then c.put_bare-past.ensures.1
    c.put_all.ensures)
