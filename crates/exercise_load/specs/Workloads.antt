-- The network and the trace of a workload. Own choice.
use Rattle.std.specs.Prelude.{ℕ, pos, ◌*◌, ◌%◌, ◌==◌, Bool, List, [], ◌∷◌, map, Some, if◌then◌else◌}
use Rattle.std.specs.Fmt.{decimal}
use Rattle.std.specs.List.{filter, flat_map, range_with_len}
use Rattle.rational.specs.Rational.{ℚ, int}
use Rattle.min_plus.specs.Functions.{zero_q}
pub use Rattle.min_plus.specs.Functions.{whole}
use Rattle.upp_curve.specs.Kinds.{rate_latency, stair}
use Rattle.run_laws.specs.Servers.{Discipline, Fifo, Priority, Drr}
use Rattle.net_model.specs.declared.server.ServiceKind.TheVariants.{Latency}
use Rattle.net_model.specs.declared.trace.TracePacket.{TracePacket}
use Rattle.net_model.specs.Networks.{Net, NetServer, NetFlow}
use Rattle.net_model.specs.Traces.{SpecTrace}
use Rattle.exercise_load.specs.declared.drawn.DrawnFlow.{DrawnFlow}
use Rattle.exercise_load.specs.Drawn.{drawn_flows}

-- a letter and a number: `s0`, `f23`
abbrev pub numbered : ℕ → ℕ → List ℕ
numbered letter number = letter ∷ decimal number

-- ---- servers
-- in turn: first in, first out; two priorities; two queues in deficit round robin
abbrev pub discipline_of : ℕ → Discipline
discipline_of number =
    if number % 3 == 0 then Fifo
    else (if number % 3 == 1 then Priority 2 else Drr (12000 ∷ 12000 ∷ []))

-- rate 100 after a latency of 10, and no link
abbrev pub server : ℕ → NetServer
server number = record {
  name = numbered 115 number;
  rate = whole 100;
  kind = Latency (whole 10);
  service = rate_latency (whole 100) (whole 10);
  link = zero_q;
  discipline = discipline_of number;
}

-- ---- flows
-- the one queue of a server that comes first, or the drawn one of two
abbrev pub queue_at : ℕ → ℕ → ℕ
queue_at queue number = if number % 3 == 0 then 0 else queue

abbrev pub path_of : DrawnFlow → List ℕ
path_of f = range_with_len f.first f.hops

abbrev pub flow_of : DrawnFlow → NetFlow
flow_of f = record {
  name = numbered 102 f.number;
  path = path_of f;
  queues = map (queue_at f.queue) (path_of f);
  packet = f.packet;
  arrival = stair (whole f.packet) (whole f.period) zero_q;
}

-- 16 servers and 24 flows
unfoldable pub network_of : ℕ → Net
network_of seed = record {
  version = 1;
  servers = map server (range_with_len 0 16);
  flows = map (λ f. Some (flow_of f)) (drawn_flows seed);
}

-- ---- the trace
-- a flow sends a packet at 0 and at each whole number of periods
abbrev pub is_sending : ℕ → DrawnFlow → Bool
is_sending time f = time % f.period == 0

abbrev pub packet_at : ℕ → DrawnFlow → TracePacket
packet_at time f = record { time = whole time; flow = f.number; bits = f.packet }

-- those of one time, by the numbers of their flows
abbrev pub packets_at : ℕ → ℕ → List TracePacket
packets_at seed time = map (packet_at time) (filter (is_sending time) (drawn_flows seed))

-- those of the time 8,000 k: each period is 8,000, or two or four times that
abbrev pub packets_in_turn : ℕ → ℕ → List TracePacket
packets_in_turn seed k = packets_at seed (8000 * k)

-- all before the time 1,024,000, time by time; and no stalls
unfoldable pub trace_of : ℕ → SpecTrace
trace_of seed = record { packets = flat_map (packets_in_turn seed) (range_with_len 0 128); stalls = [] }
