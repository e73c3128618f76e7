use Rattle.existence.proofs.texts.EachScript.{scripts_are_read}
use Rattle.existence.proofs.texts.laws.scripts_are_read.Goals as goal

pub returns : goal.returns
returns c = scripts_are_read
