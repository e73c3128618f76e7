use Rattle.commands.proofs.simulate.Causes.{causes}
use Rattle.commands.proofs.simulate.laws.statuses_have_causes.Goals as goal

pub returns : goal.returns
returns c = causes
