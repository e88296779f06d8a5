use Rattle.links.specs.Fh.{fh_bytes}
use Rattle.refresh.proofs.fh.put_fh.Goals as goal

pub returns : goal.returns
unfolding fh_bytes
returns c =
    rw (c.ip_field-field.ensures, c.ip_checksum-checksum.ensures) at c.put_header.ensures
