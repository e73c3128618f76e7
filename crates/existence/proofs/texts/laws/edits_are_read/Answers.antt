use Rattle.existence.proofs.texts.EachTable.{edits_are_read}
use Rattle.existence.proofs.texts.laws.edits_are_read.Goals as goal

pub returns : goal.returns
returns c = edits_are_read
