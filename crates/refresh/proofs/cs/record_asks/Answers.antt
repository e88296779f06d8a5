use Rattle.refresh.proofs.cs.record_asks.Goals as goal

pub returns : goal.returns
returns c = rw c.split_record-flags.ensures
