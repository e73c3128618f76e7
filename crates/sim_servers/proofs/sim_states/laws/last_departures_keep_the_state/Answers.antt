use Rattle.sim_servers.proofs.sim_states.Steps as proofs
use Rattle.sim_servers.proofs.sim_states.laws.last_departures_keep_the_state.Goals as goal

pub returns : goal.returns
returns c = proofs.last_leave_keeps
