use Rattle.headers_write.proofs.write.put_printed.Goals as goal

pub returns : goal.returns
returns c = rw c.ip_checksum-checksum.ensures at c.put_header.ensures
