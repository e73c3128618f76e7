use Rattle.sim_servers.proofs.sim_states.Steps as proofs
use Rattle.sim_servers.proofs.sim_states.laws.visits_keep_the_state.Goals as goal

pub returns : goal.returns
returns c = proofs.visit_keeps
