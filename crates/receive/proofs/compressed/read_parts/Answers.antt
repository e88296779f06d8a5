use borrow.Author.Tests.{eq-eqb, ne_eqb}
use Rattle.receive.proofs.compressed.read_parts.Goals as goal

pub returns-then-kind-eq2 : goal.returns-then-kind-eq2
returns-then-kind-eq2 c = rw (eq-eqb _ _ c.if-kind-eq2.true, c.read_cu.ensures, c.reads_checksum-carried.ensures)

pub returns : goal.returns
returns c = rw (ne_eqb _ _ c.if-kind-eq2.false, c.read_cr.ensures, c.reads_checksum-carried.ensures)
