use Rattle.links.specs.Fh.{fields_form}
use Rattle.refresh.proofs.fh.fields_form.Goals as goal

pub returns : goal.returns
unfolding fields_form
returns c = rw c.word_at.ensures
