use Rattle.run_check.proofs.recorded_sizes.Numbers.{recorded_numbers}
use Rattle.run_check.proofs.recorded_sizes.laws.recorded_runs_have_numbers.Goals as goal

pub returns : goal.returns
returns c = recorded_numbers
