use Rattle.run_check.proofs.recorded_sizes.Delays.{recorded_delays}
use Rattle.run_check.proofs.recorded_sizes.laws.recorded_runs_have_delays.Goals as goal

pub returns : goal.returns
returns c = recorded_delays
