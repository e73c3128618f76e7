use Rattle.net_model.proofs.stated_runs.MadeSetups as made
use Rattle.net_model.proofs.stated_runs.laws.traces_make_setups.Goals as goal

pub returns : goal.returns
returns c = made.traces_make_setups
