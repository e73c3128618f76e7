use Rattle.commands.proofs.exercise.Within.{quiet_summaries}
use Rattle.commands.proofs.exercise.laws.quiet_summaries_are_within_bounds.Goals as goal

pub returns : goal.returns
returns c = quiet_summaries
