use Rattle.exercise_load.proofs.exercise_report.LargestIs.{largest_delay_is}
use Rattle.exercise_load.proofs.exercise_report.laws.largest_delay_is_one.Goals as goal

pub returns : goal.returns
returns c = largest_delay_is
