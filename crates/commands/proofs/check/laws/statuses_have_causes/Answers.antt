use Rattle.commands.proofs.check.Causes.{causes}
use Rattle.commands.proofs.check.laws.statuses_have_causes.Goals as goal

pub returns : goal.returns
returns c = causes
