use Rattle.net_model.proofs.stated_runs.Lawfulness.{simulated_is_lawful}
use Rattle.net_model.proofs.stated_runs.laws.stated_runs_are_lawful.Goals as goal

pub returns : goal.returns
returns c = simulated_is_lawful
