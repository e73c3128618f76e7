use Rattle.exercise_load.proofs.exercise_report.OneSummary.{one_summary}
use Rattle.exercise_load.proofs.exercise_report.laws.equations_give_one_summary.Goals as goal

pub returns : goal.returns
returns c = one_summary
