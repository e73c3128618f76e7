use Rattle.commands.proofs.measure.Causes.{causes}
use Rattle.commands.proofs.measure.laws.statuses_have_causes.Goals as goal

pub returns : goal.returns
returns c = causes
