use Rattle.net_model.proofs.stated_runs.AllLeft.{go_by_time}
use Rattle.net_model.proofs.stated_runs.laws.stated_runs_go_by_time.Goals as goal

pub returns : goal.returns
returns c = go_by_time
