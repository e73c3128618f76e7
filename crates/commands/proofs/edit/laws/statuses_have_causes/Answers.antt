use Rattle.commands.proofs.edit.Causes.{causes}
use Rattle.commands.proofs.edit.laws.statuses_have_causes.Goals as goal

pub returns : goal.returns
returns c = causes
