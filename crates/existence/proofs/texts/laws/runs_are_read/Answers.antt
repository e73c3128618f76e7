use Rattle.existence.proofs.texts.EachRun.{runs_are_read}
use Rattle.existence.proofs.texts.laws.runs_are_read.Goals as goal

pub returns : goal.returns
returns c = runs_are_read
