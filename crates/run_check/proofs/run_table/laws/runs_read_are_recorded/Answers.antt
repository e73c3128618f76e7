use Rattle.run_check.proofs.run_table.Recorded.{runs_read_are_recorded}
use Rattle.run_check.proofs.run_table.laws.runs_read_are_recorded.Goals as goal

pub returns : goal.returns
returns c = runs_read_are_recorded
