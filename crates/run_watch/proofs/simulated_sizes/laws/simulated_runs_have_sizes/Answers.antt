use Rattle.run_watch.proofs.simulated_sizes.Stand.{simulated_stand}
use Rattle.run_watch.proofs.simulated_sizes.laws.simulated_runs_have_sizes.Goals as goal

pub returns : goal.returns
returns c = simulated_stand
