-- The laws of the times of stated runs.
use Rattle.std.specs.Prelude.{ℕ, ◌<◌, ◌^◌, List}
use Rattle.run_laws.specs.declared.steps.Step.{Step}
use Rattle.run_laws.specs.Lawful.{run_start, after_run}
use Rattle.net_model.specs.Networks.{Net}
use Rattle.net_model.specs.Accepted.{IsAccepted}
use Rattle.net_model.specs.Traces.{SpecTrace, IsTrace}
use Rattle.net_model.specs.Walks.{IsFeedForward}
use Rattle.net_model.specs.stated_runs.Setups.{Setup, IsSetup}
use Rattle.net_model.specs.stated_runs.FromTraces.{setup_of, IsTraceOf}
use Rattle.net_model.specs.stated_runs.TimeGrids.{RunFits}
use Rattle.net_model.specs.stated_runs.DueSteps.{IsDue}
use Rattle.net_model.specs.stated_runs.Simulated.{FollowsSoFar}
use Rattle.sim_bounds.specs.Horizons.{horizon, IsForward}
use Rattle.sim_bounds.specs.Times.{IsTimely, IsGrid, IsStepOnGrid, HasTimes}
use Rattle.sim_bounds.specs.Gauge.{simulation_gauge, grid_of}
use Rattle.sim_bounds.specs.Way.{HorizonFits}

-- however far a stated run has come, no step that is due is past the horizon
abbrev pub DueStepsAreInTime : Type 0
DueStepsAreInTime = (S : Setup) (place : ℕ → ℕ) (xs : List Step) (y : Step) → IsSetup S → IsForward S place
    → FollowsSoFar S (run_start S.net) xs
    → IsDue S (after_run S.net (run_start S.net) xs) y → IsTimely S (after_run S.net (run_start S.net) xs) y

-- and all its times are on the grid of the setup
abbrev pub DueStepsAreOnGrid : Type 0
DueStepsAreOnGrid = (S : Setup) (d : ℕ) (xs : List Step) (y : Step) → IsSetup S → IsGrid S d
    → FollowsSoFar S (run_start S.net) xs
    → IsDue S (after_run S.net (run_start S.net) xs) y → IsStepOnGrid S d (after_run S.net (run_start S.net) xs) y

-- the times that a server's state keeps are both
abbrev pub StatesHaveTimes : Type 0
StatesHaveTimes = (S : Setup) (place : ℕ → ℕ) (d : ℕ) (xs : List Step) → IsSetup S → IsForward S place → IsGrid S d
    → FollowsSoFar S (run_start S.net) xs
    → HasTimes S d (after_run S.net (run_start S.net) xs)

-- where the simulation gauge is below 2 ^ 120, all numbers of a simulation have room: its times are multiples of 1 over the
-- grid, from 0 up to the horizon, and 8 times the horizon, and what a server works in such a time, have parts of at most 127
-- bits.
abbrev pub SimulationsFit : Type 0
SimulationsFit = (net : Net) (trace : SpecTrace) → IsAccepted net → IsTrace trace → IsTraceOf net trace
    → IsFeedForward net
    → simulation_gauge net trace < 2 ^ 120
    → RunFits (setup_of net trace) (grid_of net trace) (horizon (setup_of net trace))

-- and so have the numbers on the way to the horizon, with the gates' times for their bits in one sum: where a step
-- there, or that sum, does not fit, the gauge is 2 ^ 120 or more
abbrev pub HorizonsFit : Type 0
HorizonsFit = (net : Net) (trace : SpecTrace) → IsAccepted net → IsTrace trace → IsTraceOf net trace → IsFeedForward net
    → simulation_gauge net trace < 2 ^ 120
    → HorizonFits (setup_of net trace) (grid_of net trace) (horizon (setup_of net trace))
