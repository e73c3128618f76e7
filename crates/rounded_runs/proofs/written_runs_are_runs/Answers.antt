use Rattle.rounded_runs.proofs.Runs.{written_runs_are_runs}
use Rattle.rounded_runs.proofs.written_runs_are_runs.Goals as goal

pub returns : goal.returns
returns c = written_runs_are_runs
