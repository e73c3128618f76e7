use Rattle.measure_curve.proofs.Kept.{kept_curves_are_above}
use Rattle.measure_curve.proofs.laws.kept_curves_are_above.Goals as goal

pub returns : goal.returns
returns c = kept_curves_are_above
