-- What a step of the simulator asks for, and what it gives.
use Rattle.std.specs.Prelude.{Option, ◌≡◌, ◌+◌, length}
use Rattle.queue_sched.specs.declared.turn.Turn.{Turn}
use Rattle.net_model.specs.Networks.{Net}
use Rattle.net_model.specs.Traces.{SpecTrace}
use Rattle.run_laws.specs.Lawful.{run_start}
use Rattle.net_model.specs.stated_runs.FromTraces.{setup_of}
use Rattle.net_model.specs.stated_runs.Simulated.{Follows}
use Rattle.sim_servers.specs.declared.due.Due.{Due}
use Rattle.simulator.specs.declared.packet_sim.simulation.Simulation.{Simulation}
use Rattle.simulator.specs.packet_sim.Simulating.{IsSimulating, IsFirstDue, IsTurning}

-- it is the simulation of this network and this trace
abbrev pub Simulates : Net → SpecTrace → Simulation → Type 0
Simulates net trace v = IsSimulating
    (setup_of net trace) v.stations.items v.links v.arrivals.items v.entered v.steps.items

-- and this is due first
abbrev pub ComesNext : Net → SpecTrace → Simulation → Due → Type 0
ComesNext net trace v d = IsFirstDue
    (setup_of net trace) v.stations.items v.links v.arrivals.items v.entered v.steps.items d

-- its server has taken this turn
abbrev pub TakesTurn : Net → SpecTrace → Simulation → Due → Option Turn → Type 0
TakesTurn net trace v d turn = IsTurning
    (setup_of net trace) v.stations.items v.links v.arrivals.items v.entered v.steps.items d turn

-- it has made one step more
pub record HasStepped (net : Net) (trace : SpecTrace) (before after : Simulation) : Type 0 where
  pub simulates : Simulates net trace after
  pub one_more : length after.steps.items ≡ length before.steps.items + 1

-- it has come to its end: its steps are the stated run
pub record HasEnded (net : Net) (trace : SpecTrace) (v : Simulation) : Type 0 where
  pub follows : Follows (setup_of net trace) (run_start (setup_of net trace).net) v.steps.items
