use Rattle.sim_servers.proofs.stated_existence.Exists.{stated_run}
use Rattle.sim_servers.proofs.stated_existence.laws.stated_runs_exist.Goals as goal

pub returns : goal.returns
returns c = stated_run
