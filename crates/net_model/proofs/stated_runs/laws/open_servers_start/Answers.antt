use Rattle.net_model.proofs.stated_runs.Starting as starting
use Rattle.net_model.proofs.stated_runs.laws.open_servers_start.Goals as goal

pub returns : goal.returns
returns c = starting.open_servers_start
