-- What a network has at a number. Past the last server, and where there is no live flow, there is nothing: no queue, no
-- hop, no bit. (Own choice.)
use Rattle.std.specs.Prelude.{ℕ, List, [], length, Option, Some, None, Bool, true, false, is_some, slice_get, slice_index, slice_index_or}
use Rattle.std.specs.Option.{option_map}
use Rattle.rational.specs.Rational.{ℚ}
use Rattle.upp_curve.specs.Curve.{SpecCurve}
use Rattle.min_plus.specs.Functions.{zero_q}
use Rattle.upp_curve.specs.Kinds.{bucket}
use Rattle.run_laws.specs.Servers.{Discipline, Fifo, Priority, Drr, queue_count}
use Rattle.net_model.specs.declared.flow.Flow.{Flow}
use Rattle.net_model.specs.Views.{flow_of}
use Rattle.net_model.specs.Networks.{Net, NetServer, NetFlow}

-- the sum over no curve: 0 at each time
abbrev pub zero_curve : SpecCurve
zero_curve = bucket zero_q zero_q

-- ---- flows
abbrev pub flow_at : Net → ℕ → Option NetFlow
flow_at net i = slice_index_or net.flows i None

abbrev pub is_live : Net → ℕ → Bool
is_live net i = is_some (flow_at net i)

abbrev pub path_of : Option NetFlow → List ℕ
path_of None = []
path_of (Some f) = f.path

abbrev pub queues_of : Option NetFlow → List ℕ
queues_of None = []
queues_of (Some f) = f.queues

abbrev pub packet_of : Option NetFlow → ℕ
packet_of None = 0
packet_of (Some f) = f.packet

abbrev pub arrival_of : Option NetFlow → SpecCurve
arrival_of None = zero_curve
arrival_of (Some f) = f.arrival

-- of a flow that is stored
abbrev pub stored_path : Option Flow → List ℕ
stored_path f = path_of (option_map flow_of f)

abbrev pub stored_queues : Option Flow → List ℕ
stored_queues f = queues_of (option_map flow_of f)

-- the servers on the way of a flow, the bits of its longest packet, and its arrival curve
abbrev pub path : Net → ℕ → List ℕ
path net i = path_of (flow_at net i)

abbrev pub packet : Net → ℕ → ℕ
packet net i = packet_of (flow_at net i)

abbrev pub arrival : Net → ℕ → SpecCurve
arrival net i = arrival_of (flow_at net i)

-- how many servers that are
abbrev pub hops : Net → ℕ → ℕ
hops net i = length (path net i)

-- the server of a hop, and the flow's queue there
abbrev pub server_of_hop : Net → ℕ → ℕ → ℕ
server_of_hop net i k = slice_index (path net i) k

abbrev pub queue_of_hop : Net → ℕ → ℕ → ℕ
queue_of_hop net i k = slice_index (queues_of (flow_at net i)) k

-- ---- servers
abbrev pub service_of : Option NetServer → SpecCurve
service_of None = zero_curve
service_of (Some s) = s.service

abbrev pub rate_of : Option NetServer → ℚ
rate_of None = zero_q
rate_of (Some s) = s.rate

abbrev pub link_of : Option NetServer → ℚ
link_of None = zero_q
link_of (Some s) = s.link

abbrev pub discipline_of : Option NetServer → Discipline
discipline_of None = Priority 0
discipline_of (Some s) = s.discipline

-- the service curve of a server, its rate, how long a packet that leaves it is on the way, and how it chooses among packets
abbrev pub service : Net → ℕ → SpecCurve
service net s = service_of (slice_get net.servers s)

abbrev pub rate : Net → ℕ → ℚ
rate net s = rate_of (slice_get net.servers s)

abbrev pub link : Net → ℕ → ℚ
link net s = link_of (slice_get net.servers s)

abbrev pub discipline : Net → ℕ → Discipline
discipline net s = discipline_of (slice_get net.servers s)

-- how many queues it has
abbrev pub queues : Net → ℕ → ℕ
queues net s = queue_count (discipline net s)

-- how many queues it has that are served by priority
abbrev pub levels_of : Discipline → ℕ
levels_of Fifo = 0
levels_of (Priority n) = n
levels_of (Drr quanta) = 0

abbrev pub levels : Net → ℕ → ℕ
levels net s = levels_of (discipline net s)

-- its queues are served by priority
abbrev pub is_by_priority : Discipline → Bool
is_by_priority Fifo = false
is_by_priority (Priority n) = true
is_by_priority (Drr quanta) = false
