use Rattle.commands.proofs.curve.Causes.{causes}
use Rattle.commands.proofs.curve.laws.statuses_have_causes.Goals as goal

pub returns : goal.returns
returns c = causes
