use Rattle.commands.proofs.analyse.Causes.{causes}
use Rattle.commands.proofs.analyse.laws.statuses_have_causes.Goals as goal

pub returns : goal.returns
returns c = causes
