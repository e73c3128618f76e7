-- The numbers that a network and a trace name, in the order in which the code meets them. (Own choice.)
use Rattle.std.specs.Prelude.{List, [], ◌∷◌, map}
use Rattle.std.specs.List.{flat_map}
use Rattle.rational.specs.Rational.{ℚ}
use Rattle.upp_limits.specs.Limits.{Numbers}
use Rattle.net_model.specs.declared.trace.TracePacket.{TracePacket}
use Rattle.net_model.specs.declared.trace.Stall.{Stall}
use Rattle.net_model.specs.Networks.{NetServer}
use Rattle.sim_bounds.specs.Gauge.{server_times, stall_times}

abbrev pub times_alone : List ℚ → Numbers
times_alone ts = record { times = ts; values = []; slopes = [] }

abbrev pub packet_numbers : List TracePacket → Numbers
packet_numbers ps = times_alone (map (λ (p : TracePacket). p.time) ps)

abbrev pub stall_numbers : List Stall → Numbers
stall_numbers xs = times_alone (flat_map stall_times xs)

-- a server's link, its gate's cycle and slot, and its rate
abbrev pub server_number : NetServer → Numbers
server_number s = record { times = server_times s; values = []; slopes = s.rate ∷ [] }

abbrev pub server_numbers : List NetServer → Numbers
server_numbers ss = record {
  times = flat_map server_times ss;
  values = [];
  slopes = map (λ (s : NetServer). s.rate) ss;
}
