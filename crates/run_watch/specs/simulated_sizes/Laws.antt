-- The numbers of a simulated run whose gauge is below 2 ^ 120. Own choice.
use Rattle.std.specs.Prelude.{ℕ, ◌<◌, ◌^◌, IsTrue, length}
use Rattle.upp_curve.specs.Curves.{IsCurve}
use Rattle.run_laws.specs.Runs.{SpecRun}
use Rattle.run_laws.specs.Lawful.{IsLawful}
use Rattle.net_model.specs.Networks.{Net}
use Rattle.net_model.specs.NetRoutes.{routes_of}
use Rattle.net_model.specs.Accepted.{IsAccepted}
use Rattle.net_model.specs.Traces.{SpecTrace, IsTrace}
use Rattle.net_model.specs.Walks.{IsFeedForward}
use Rattle.net_cells.specs.Numbered.{is_live, arrival, service}
use Rattle.net_model.specs.stated_runs.FromTraces.{setup_of, IsTraceOf}
use Rattle.net_model.specs.stated_runs.Simulated.{IsSimulated}
use Rattle.sim_bounds.specs.Gauge.{simulation_gauge, simulation_sizes}
use Rattle.run_watch.specs.first_breaches.Sizes.{RunStands}

-- each curve of a network is in normal form and readable, as the type of curves keeps
pub record AreCurves (net : Net) : Type 0 where
  pub services : (s : ℕ) → s < length net.servers → IsCurve (service net s)
  pub arrivals : (flow : ℕ) → IsTrue (is_live net flow) → IsCurve (arrival net flow)

-- the run is lawful, and its numbers stand by the sizes of the simulation gauge
abbrev pub SimulatedRunsHaveSizes : Type 0
SimulatedRunsHaveSizes = (net : Net) (trace : SpecTrace) (run : SpecRun) → IsAccepted net → AreCurves net
    → IsTrace trace → IsTraceOf net trace → IsFeedForward net
    → simulation_gauge net trace < 2 ^ 120 → IsSimulated (setup_of net trace) run
    → IsLawful (routes_of net) run × RunStands (simulation_sizes net trace) net run
