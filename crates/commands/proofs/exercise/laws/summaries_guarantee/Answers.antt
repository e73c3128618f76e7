use Rattle.commands.proofs.exercise.Within.{guarantee}
use Rattle.commands.proofs.exercise.laws.summaries_guarantee.Goals as goal

pub returns : goal.returns
returns c = guarantee
