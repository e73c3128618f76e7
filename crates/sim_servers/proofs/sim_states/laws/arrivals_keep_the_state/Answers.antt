use Rattle.sim_servers.proofs.sim_states.Steps as proofs
use Rattle.sim_servers.proofs.sim_states.laws.arrivals_keep_the_state.Goals as goal

pub returns : goal.returns
returns c = proofs.reach_keeps
