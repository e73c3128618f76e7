-- The stated run of an accepted network and a trace of it is lawful; where its gauge is below 2 ^ 120, what its first
-- breach is looked for by has sizes.
use Rattle.std.specs.Prelude.{◌<◌, ◌^◌}
use Rattle.run_laws.specs.Lawful.{IsLawful}
use Rattle.run_laws.specs.Runs.{SpecRun}
use Rattle.net_model.specs.Accepted.{IsAccepted}
use Rattle.net_model.specs.Networks.{Net}
use Rattle.net_model.specs.NetRoutes.{routes_of}
use Rattle.net_model.specs.Traces.{SpecTrace, IsTrace}
use Rattle.net_model.specs.Walks.{IsFeedForward}
use Rattle.net_model.specs.stated_runs.FromTraces.{setup_of, IsTraceOf}
use Rattle.net_model.specs.stated_runs.Simulated.{IsSimulated}
use Rattle.net_model.proofs.stated_runs.Lawfulness.{simulated_is_lawful}
use Rattle.net_model.proofs.stated_runs.MadeSetups as made
use Rattle.sim_bounds.specs.Gauge.{simulation_gauge, simulation_sizes}
use Rattle.run_watch.specs.first_breaches.Sizes.{HaveSizes}
use Rattle.run_watch.specs.simulated_sizes.Laws.{AreCurves}
use Rattle.run_watch.proofs.simulated_sizes.Stand.{simulated_stand}

pub lawful : (net : Net) (trace : SpecTrace) (run : SpecRun) → IsAccepted net → IsTrace trace → IsTraceOf net trace
    → IsSimulated (setup_of net trace) run → IsLawful (routes_of net) run
lawful net trace run a t n is =
    simulated_is_lawful (setup_of net trace) run (made.traces_make_setups net trace a t n) is

pub sizes : (net : Net) (trace : SpecTrace) (run : SpecRun) → IsAccepted net → AreCurves net → IsTrace trace
    → IsTraceOf net trace → IsFeedForward net → simulation_gauge net trace < 2 ^ 120
    → IsSimulated (setup_of net trace) run → HaveSizes net run
sizes net trace run a c t n free narrow is =
    (simulation_sizes net trace, (simulated_stand net trace run a c t n free narrow is).1)
