use Rattle.existence.proofs.texts.EachTable.{traces_are_read}
use Rattle.existence.proofs.texts.laws.traces_are_read.Goals as goal

pub returns : goal.returns
returns c = traces_are_read
