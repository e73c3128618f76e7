use Rattle.sim_servers.proofs.sim_states.Steps as proofs
use Rattle.sim_servers.proofs.sim_states.laws.work_keeps_the_state.Goals as goal

pub returns : goal.returns
returns c = proofs.work_keeps
