use Rattle.measure_curve.proofs.Kept.{least_in_runs}
use Rattle.measure_curve.proofs.laws.least_in_runs.Goals as goal

pub returns : goal.returns
returns c = least_in_runs
