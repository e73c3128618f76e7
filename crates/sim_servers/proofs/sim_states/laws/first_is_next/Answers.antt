use Rattle.sim_servers.proofs.sim_states.Firsts as proofs
use Rattle.sim_servers.proofs.sim_states.laws.first_is_next.Goals as goal

pub returns : goal.returns
returns c = proofs.first_is_next
