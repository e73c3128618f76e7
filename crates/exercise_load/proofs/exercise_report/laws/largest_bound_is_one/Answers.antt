use Rattle.exercise_load.proofs.exercise_report.LargestIs.{largest_bound_is}
use Rattle.exercise_load.proofs.exercise_report.laws.largest_bound_is_one.Goals as goal

pub returns : goal.returns
returns c = largest_bound_is
