use Rattle.std.specs.Prelude.{◌≡◌, map}
use Rattle.net_model.specs.stated_runs.Setups.{Setup}
use Rattle.net_model.specs.stated_runs.FromTraces.{entering}
use Rattle.sim_servers.specs.sim_states.Running.{IsFirstCandidate}
use Rattle.sim_servers.proofs.sim_loop.candidates.first_due.Given as goal

abbrev pub invariant-loop-server : goal.invariant-loop-server
invariant-loop-server l = (S : Setup) → S.packets ≡ map entering l.fn.packets → IsFirstCandidate S l.stations l.links l.arrivals l.entered l.server l.first
