-- The numbers of packets, stalls and servers, gathered part by part.
use Rattle.std.proofs.Common.{◌≡◌, List, [], ◌∷◌, refl, ap, ◌∙◌, append-nil}
use Rattle.rational.specs.Rational.{ℚ}
use Rattle.upp_limits.specs.Limits.{Numbers, joined, time_alone, slope_alone}
use Rattle.upp_limits.proofs.JoinedNumbers.{joined_three}
use Rattle.net_model.specs.declared.server.Server.{Server}
use Rattle.net_model.specs.declared.trace.TracePacket.{TracePacket}
use Rattle.net_model.specs.declared.trace.Stall.{Stall}
use Rattle.net_model.specs.Networks.{NetServer}
use Rattle.net_model.specs.Views.{server_of, servers_of}
use Rattle.net_model.specs.stated_runs.FromTraces.{gate_of}
use Rattle.sim_bounds.specs.Gauge.{gate_times, stall_times}
use Rattle.sim_bounds.proofs.window_numbers.Loops.{IsPartwise}
use Rattle.sim_bounds.specs.sim_gauge.Named.{times_alone, packet_numbers, stall_numbers, server_number, server_numbers}

-- ---- packets, stalls, servers
pub packet_parts : IsPartwise packet_numbers (λ (p : TracePacket). time_alone p.time)
packet_parts = record { none = refl; some = λ x xs. refl }

pub stall_parts : IsPartwise stall_numbers (λ (x : Stall). times_alone (stall_times x))
stall_parts = record { none = refl; some = λ x xs. refl }

pub server_parts : IsPartwise (λ (xs : List Server). server_numbers (servers_of xs)) (λ (x : Server). server_number (server_of x))
server_parts = record { none = refl; some = λ x xs. refl }

make : List ℚ → List ℚ → Numbers
make ts ss = record { times = ts; values = []; slopes = ss }

-- a server's numbers one by one
pub server_joined : (n : Numbers) (x : NetServer) → joined (joined (joined n (time_alone x.link)) (times_alone (gate_times (gate_of x.kind)))) (slope_alone x.rate) ≡ joined n (server_number x)
unfolding make
server_joined n x =
    joined_three n (time_alone x.link) (times_alone (gate_times (gate_of x.kind))) (slope_alone x.rate)
    ∙ ap (λ ts. joined n (make ts (x.rate ∷ []))) (append-nil (x.link ∷ gate_times (gate_of x.kind)))
