-- Servers, flows and networks with one thing changed. Own choice.
use Rattle.std.specs.Prelude.{ℕ, List, [], ◌∷◌, ◌++◌, Option, Some, None, slice_get, slice_set}
use Rattle.std.specs.Option.{option_map}
use Rattle.rational.specs.Rational.{ℚ}
use Rattle.upp_curve.specs.Curve.{SpecCurve}
use Rattle.upp_curve.specs.Kinds.{rate_latency, gate}
use Rattle.net_model.specs.declared.server.ServiceKind.{ServiceKind}
use Rattle.net_model.specs.declared.server.ServiceKind.TheVariants.{Latency, Gate, Listed}
use Rattle.net_model.specs.Networks.{Net, NetServer, NetFlow}
use Rattle.net_model.specs.Quanta.{set_quantum}
use Rattle.net_model.specs.Views.{server_of, flow_of}
use Rattle.net_edits.specs.declared.change.Change.{Change}
use Rattle.net_edits.specs.declared.change.Change.TheVariants.{Server, Flow, More}

-- ---- one server of a network
abbrev pub put_server : Net → ℕ → NetServer → Net
put_server net s server = record net { servers = slice_set net.servers s server }

abbrev pub server_changed : (NetServer → NetServer) → Net → ℕ → Option NetServer → Net
server_changed change net s None = net
server_changed change net s (Some server) = put_server net s (change server)

abbrev pub at_server : (NetServer → NetServer) → Net → ℕ → Net
at_server change net s = server_changed change net s (slice_get net.servers s)

-- its rate; the curve of a rate after a latency, or of a gate, follows
abbrev pub service_of_kind : ℚ → ServiceKind → SpecCurve → SpecCurve
service_of_kind rate (Latency latency) listed = rate_latency rate latency
service_of_kind rate (Gate cycle slot) listed = gate rate cycle slot
service_of_kind rate Listed listed = listed

abbrev pub with_rate : ℚ → NetServer → NetServer
with_rate rate server = record server { rate = rate; service = service_of_kind rate server.kind server.service }

abbrev pub with_latency : ℚ → NetServer → NetServer
with_latency latency server = record server { kind = Latency latency; service = rate_latency server.rate latency }

abbrev pub with_link : ℚ → NetServer → NetServer
with_link link server = record server { link = link }

abbrev pub with_quantum : ℕ → ℕ → NetServer → NetServer
with_quantum queue bits server = record server { discipline = set_quantum queue bits server.discipline }

-- ---- one flow of a network
-- its number is its place, which is left empty where it is dropped
abbrev pub put_flow : Net → ℕ → Option NetFlow → Net
put_flow net i place = record net { flows = slice_set net.flows i place }

abbrev pub flow_changed : (NetFlow → Option NetFlow) → Net → ℕ → Option (Option NetFlow) → Net
flow_changed change net i None = net
flow_changed change net i (Some None) = net
flow_changed change net i (Some (Some flow)) = put_flow net i (change flow)

abbrev pub at_flow : (NetFlow → Option NetFlow) → Net → ℕ → Net
at_flow change net i = flow_changed change net i (slice_get net.flows i)

abbrev pub with_arrival : SpecCurve → NetFlow → Option NetFlow
with_arrival arrival flow = Some record flow { arrival = arrival }

-- the arrival curve stays
abbrev pub with_packet : ℕ → NetFlow → Option NetFlow
with_packet bits flow = Some record flow { packet = bits }

abbrev pub with_path : (path lanes : List ℕ) → NetFlow → Option NetFlow
with_path path lanes flow = Some record flow { path = path; queues = lanes }

abbrev pub dropped : NetFlow → Option NetFlow
dropped flow = None

-- one flow more, with the next number
abbrev pub with_more : NetFlow → Net → Net
with_more flow net = record net { flows = net.flows ++ Some flow ∷ [] }

-- ---- a network with what an edit puts into it
abbrev pub changed : Change → Net → Net
changed (Server s server) net = put_server net s (server_of server)
changed (Flow i place) net = put_flow net i (option_map flow_of place)
changed (More flow) net = with_more (flow_of flow) net

-- it is one flow more
abbrev pub IsMore : Change → Type 0
IsMore (Server s server) = ⊥
IsMore (Flow i place) = ⊥
IsMore (More flow) = Unit {0}
