use native.Mathlib.Omega.{arith}
use Rattle.octets.specs.PutLaws.{wrote_then, wrote-whole}
use Rattle.packet.specs.Ranges.{IpInRange, FlowInRange}
use Rattle.headers.proofs.ChecksumLaws.{ip_checksum-written}
use Rattle.headers_write.proofs.checksum.ip_checksum.Goals as goal

-- what the types of a header's fields say of them: owning the parameter tells it, field by field in the declared order
pub returns : goal.returns
returns c =
    let h = c.args.h in
    let fields = c.well_formed.0.1.1 in
    let ip = fields.1.0.1.1 in
    let flow = fields.0.1.1 in
    let i : IpInRange h.ip = record {
      tos = ip.0.1;
      ttl = ip.1.0.1;
      flags = c.requires.flags;
      id = ip.1.1.1.0.1;
    } in
    let f : FlowInRange h.flow = record {
      source = flow.0.1;
      destination = flow.1.0.1;
      sport = flow.1.1.0.1;
      dport = flow.1.1.1.0.1;
      ssrc = flow.1.1.1.1.0.1;
    } in
    let w = wrote_then c.put_ip_front-at.ensures.1 c.put_ip_back.ensures.1 in
    rw (c.sum.ensures, wrote-whole w (omega (arith, w.ends))) (ip_checksum-written h c.args.total i f (omega arith))
