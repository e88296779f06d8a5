use Rattle.links.specs.Fh.{fh_of}
use Rattle.codes.specs.Reading.{byte_at}
use lib.Bits.{and_mask}
use Rattle.refresh.proofs.fh.read_fh.Goals as goal

pub returns : goal.returns
unfolding fh_of
returns c =
    let s = c.args.s.now in
    rw (c.header_size-start.ensures, c.read_header-header.ensures, and_mask (byte_at s 2) 6, and_mask (byte_at s 25) 4)
