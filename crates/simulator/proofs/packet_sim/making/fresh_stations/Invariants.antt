use Rattle.simulator.specs.packet_sim.Fresh.{AreFresh}
use Rattle.simulator.proofs.packet_sim.making.fresh_stations.Given as goal

abbrev pub invariant-loop-number : goal.invariant-loop-number
invariant-loop-number l = AreFresh l.net.servers l.trace l.number l.stations.items
