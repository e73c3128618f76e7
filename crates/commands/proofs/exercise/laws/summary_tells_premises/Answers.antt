use Rattle.commands.proofs.exercise.Within.{status_tells}
use Rattle.commands.proofs.exercise.laws.summary_tells_premises.Goals as goal

pub returns : goal.returns
returns c = status_tells
