use Rattle.sim_servers.proofs.sim_states.Steps as proofs
use Rattle.sim_servers.proofs.sim_states.laws.entries_keep_the_state.Goals as goal

pub returns : goal.returns
returns c = proofs.enter_keeps
