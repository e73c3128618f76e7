use Rattle.exercise_load.proofs.Narrow.{narrow_curves}
use Rattle.exercise_load.proofs.laws.curves_are_within_limits.Goals as goal

pub returns : goal.returns
returns c = narrow_curves
