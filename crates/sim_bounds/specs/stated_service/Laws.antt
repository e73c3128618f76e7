-- Which servers keep their service curves in a stated run. (Own choice.)
use Rattle.std.specs.Prelude.{Some, ◌≡◌, ℕ, [], slice_get}
use Rattle.upp_curve.specs.Curve.{value_at}
use Rattle.run_laws.specs.Runs.{SpecRun}
use Rattle.run_laws.specs.Views.{view}
use Rattle.run_laws.specs.Premises.{KeepsService}
use Rattle.net_model.specs.declared.server.ServiceKind.{ServiceKind}
use Rattle.net_model.specs.declared.server.ServiceKind.TheVariants.{Latency, Gate, Listed}
use Rattle.net_model.specs.Networks.{Net, NetServer}
use Rattle.net_model.specs.NetRoutes.{routes_of}
use Rattle.net_model.specs.Accepted.{IsAccepted}
use Rattle.net_model.specs.Traces.{SpecTrace, IsTrace}
use Rattle.net_model.specs.stated_runs.FromTraces.{stalls_at, setup_of, IsTraceOf}
use Rattle.net_model.specs.stated_runs.Simulated.{IsSimulated}

-- not listed by its pieces
abbrev pub IsByFormula : ServiceKind → Type 0
IsByFormula (Latency latency) = Unit {0}
IsByFormula (Gate cycle slot) = Unit {0}
IsByFormula Listed = ⊥

abbrev pub OpenServersKeepTheirCurves : Type 0
OpenServersKeepTheirCurves = (net : Net) (trace : SpecTrace) (run : SpecRun) → IsAccepted net → IsTrace trace
    → IsTraceOf net trace
    → IsSimulated (setup_of net trace) run → (s : ℕ) (server : NetServer) → slice_get net.servers s ≡ Some server
    → IsByFormula server.kind
    → stalls_at s trace.stalls ≡ [] → KeepsService (value_at server.service) run.end (view (routes_of net) run s)
