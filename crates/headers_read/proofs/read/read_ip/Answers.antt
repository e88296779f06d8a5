use Rattle.headers.specs.Header.{ip_of}
use Rattle.headers_read.proofs.read.read_ip.Goals as goal

pub returns : goal.returns
unfolding ip_of
returns c = rw c.word_at.ensures
