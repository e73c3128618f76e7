use Rattle.net_model.proofs.stated_runs.LastLeaves.{each_leaves}
use Rattle.net_model.proofs.stated_runs.laws.each_leaves_its_last.Goals as goal

pub returns : goal.returns
returns c = each_leaves
