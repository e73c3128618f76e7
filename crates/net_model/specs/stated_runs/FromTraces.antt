-- The setup that a network and a trace make. (Own choice.)
use Rattle.std.specs.Prelude.{Option, Some, None, ◌≡◌, ℕ, suc, ◌<◌, ◌==◌, List, [], ◌∷◌, length, map, All, slice_get, if◌then◌else◌}
use Rattle.net_model.specs.declared.server.ServiceKind.{ServiceKind}
use Rattle.net_model.specs.declared.server.ServiceKind.TheVariants.{Latency, Gate, Listed}
use Rattle.net_model.specs.declared.trace.TracePacket.{TracePacket}
use Rattle.net_model.specs.declared.trace.Stall.{Stall}
use Rattle.net_model.specs.Networks.{Net, NetServer, NetFlow}
use Rattle.net_model.specs.NetRoutes.{routes_of}
use Rattle.net_model.specs.Accepted.{IsAccepted}
use Rattle.net_model.specs.Traces.{SpecTrace, IsTrace}
use Rattle.net_model.specs.stated_runs.Setups.{Entering, GateTimes, StallTimes, Opening, Setup, IsSetup}

-- only a gate closes
abbrev pub gate_of : ServiceKind → Option GateTimes
gate_of (Latency latency) = None
gate_of (Gate cycle slot) = Some record { cycle = cycle; slot = slot }
gate_of Listed = None

-- the stalls of server s
abbrev pub stalls_at : ℕ → List Stall → List StallTimes
stalls_at s [] = []
stalls_at s (x ∷ xs) =
    if x.server == s then record { start = x.start; end = x.end } ∷ stalls_at s xs else stalls_at s xs

-- when the servers work; the first has number s
abbrev pub openings_from : ℕ → List NetServer → List Stall → List Opening
openings_from s [] stalls = []
openings_from s (x ∷ xs) stalls = record { gate = gate_of x.kind; stalls = stalls_at s stalls } ∷ openings_from
    (suc s) xs stalls

abbrev pub entering : TracePacket → Entering
entering p = record { flow = p.flow; bits = p.bits; time = p.time }

-- each server works at its rate
abbrev pub setup_of : Net → SpecTrace → Setup
setup_of net trace = record {
  net = routes_of net;
  rates = map (λ (s : NetServer). s.rate) net.servers;
  openings = openings_from 0 net.servers trace.stalls;
  packets = map entering trace.packets;
}

abbrev pub IsLive : Net → ℕ → Type 0
IsLive net f = (flow : NetFlow) × (slice_get net.flows f ≡ Some (Some flow))

-- the numbers of a trace are those of live flows and of servers
pub record IsTraceOf (net : Net) (trace : SpecTrace) : Type 0 where
  pub flows : All (λ (p : TracePacket). IsLive net p.flow) trace.packets
  pub servers : All (λ (s : Stall). s.server < length net.servers) trace.stalls

-- they make a setup
abbrev pub TracesMakeSetups : Type 0
TracesMakeSetups = (net : Net) (trace : SpecTrace) → IsAccepted net → IsTrace trace → IsTraceOf net trace
    → IsSetup (setup_of net trace)
