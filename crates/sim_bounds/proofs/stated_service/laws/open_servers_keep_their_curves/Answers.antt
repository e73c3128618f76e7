use Rattle.sim_bounds.proofs.stated_service.Kept.{servers_keep}
use Rattle.sim_bounds.proofs.stated_service.laws.open_servers_keep_their_curves.Goals as goal

pub returns : goal.returns
returns c = servers_keep
