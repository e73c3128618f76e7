use Rattle.sim_servers.proofs.sim_states.Firsts as proofs
use Rattle.sim_servers.proofs.sim_states.laws.nothing_is_left.Goals as goal

pub returns : goal.returns
returns c = proofs.none_is_due
