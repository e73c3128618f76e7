use Rattle.run_check.proofs.recorded_sizes.Stand.{lawful_stand}
use Rattle.run_check.proofs.recorded_sizes.laws.lawful_runs_have_sizes.Goals as goal

pub returns : goal.returns
returns c = lawful_stand
