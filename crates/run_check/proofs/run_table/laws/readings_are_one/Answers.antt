use Rattle.run_check.proofs.run_table.OneRun.{readings_are_one}
use Rattle.run_check.proofs.run_table.laws.readings_are_one.Goals as goal

pub returns : goal.returns
returns c = readings_are_one
