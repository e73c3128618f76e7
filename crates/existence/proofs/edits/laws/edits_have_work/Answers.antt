use Rattle.existence.proofs.edits.Work.{edits_have_work}
use Rattle.existence.proofs.edits.laws.edits_have_work.Goals as goal

pub returns : goal.returns
returns c = edits_have_work
