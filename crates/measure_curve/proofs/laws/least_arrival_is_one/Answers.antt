use Rattle.measure_curve.proofs.Kept.{least_arrival_is_one}
use Rattle.measure_curve.proofs.laws.least_arrival_is_one.Goals as goal

pub returns : goal.returns
returns c = least_arrival_is_one
