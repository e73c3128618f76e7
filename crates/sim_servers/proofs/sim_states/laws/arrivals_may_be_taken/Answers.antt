use Rattle.sim_servers.proofs.sim_states.Taking as proofs
use Rattle.sim_servers.proofs.sim_states.laws.arrivals_may_be_taken.Goals as goal

pub returns : goal.returns
returns c = proofs.may_take_reach
