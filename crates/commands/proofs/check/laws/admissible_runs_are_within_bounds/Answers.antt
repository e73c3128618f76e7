use Rattle.commands.proofs.check.Within.{admissible_runs}
use Rattle.commands.proofs.check.laws.admissible_runs_are_within_bounds.Goals as goal

pub returns : goal.returns
returns c = admissible_runs
