use Rattle.commands.proofs.simulate.Within.{quiet_runs}
use Rattle.commands.proofs.simulate.laws.quiet_runs_are_within_bounds.Goals as goal

pub returns : goal.returns
returns c = quiet_runs
