use Rattle.net_model.proofs.stated_runs.Unique.{run_once}
use Rattle.net_model.proofs.stated_runs.laws.stated_run_is_unique.Goals as goal

pub returns : goal.returns
returns c = run_once
