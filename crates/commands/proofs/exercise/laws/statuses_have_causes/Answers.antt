use Rattle.commands.proofs.exercise.Causes.{causes}
use Rattle.commands.proofs.exercise.laws.statuses_have_causes.Goals as goal

pub returns : goal.returns
returns c = causes
