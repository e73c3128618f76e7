-- There is a stated run. (Own choice.)
use Rattle.run_laws.specs.Runs.{SpecRun}
use Rattle.net_model.specs.Networks.{Net}
use Rattle.net_model.specs.Accepted.{IsAccepted}
use Rattle.net_model.specs.Traces.{SpecTrace, IsTrace}
use Rattle.net_model.specs.Walks.{IsFeedForward}
use Rattle.net_model.specs.stated_runs.FromTraces.{setup_of, IsTraceOf}
use Rattle.net_model.specs.stated_runs.Simulated.{IsSimulated}

abbrev pub StatedRunsExist : Type 0
StatedRunsExist = (net : Net) (trace : SpecTrace) → IsAccepted net → IsTrace trace → IsTraceOf net trace
    → IsFeedForward net
    → (run : SpecRun) × IsSimulated (setup_of net trace) run
