use Rattle.net_model.proofs.stated_runs.AllLeft.{all_left}
use Rattle.net_model.proofs.stated_runs.laws.every_packet_leaves.Goals as goal

pub returns : goal.returns
returns c = all_left
