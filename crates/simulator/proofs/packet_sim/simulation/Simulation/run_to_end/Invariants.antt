use Rattle.std.proofs.Common.{◌-◌, ◌^◌, length}
use Rattle.simulator.specs.packet_sim.Stepping.{Simulates}
use Rattle.simulator.proofs.packet_sim.simulation.Simulation.run_to_end.Given as goal

abbrev pub invariant-loop-due : goal.invariant-loop-due
invariant-loop-due l = Simulates l.net l.trace l.self

abbrev pub decreases-loop-due : goal.decreases-loop-due
decreases-loop-due l = 2 ^ 64 - length l.self.steps.items
