use Rattle.existence.proofs.edits.Work.{lists_have_work as law}
use Rattle.existence.proofs.edits.laws.lists_have_work.Goals as goal

pub returns : goal.returns
returns c = law
