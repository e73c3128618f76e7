use Rattle.std.proofs.Common.{◌≡◌, map, take}
use Rattle.net_model.specs.stated_runs.FromTraces.{stalls_at}
use Rattle.sim_servers.specs.Openings.{stall_times}
use Rattle.simulator.proofs.packet_sim.making.stalls_of.Given as goal

abbrev pub invariant-loop-stall : goal.invariant-loop-stall
invariant-loop-stall l = map stall_times l.spans.items ≡ stalls_at l.server (take l.stall-index l.stalls)
