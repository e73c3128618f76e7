-- A port as a server of runs, and the service curve that it keeps: its rate after its latency, or that of its gate, of which what comes in
-- the latency may be lost while it is open. (Le Boudec and Thiran, chapter 1: rate-latency service; the gate is our own.)
use Rattle.std.specs.Prelude.{Option, Some, None, ◌≡◌, ◌+◌, ◌-◌, ◌*◌, ◌/◌, ◌^◌, ℕ}
use Rattle.std.specs.Int.{div_ceil}
use Rattle.rational.specs.Rational.{ℚ, ◌*ℚ◌}
use Rattle.rational.specs.Extended.{Ext}
use Rattle.rational.specs.declared.Extended.TheVariants.{Fin}
use Rattle.min_plus.specs.Formulas.{rate_latency_value, gate_value}
use Rattle.min_plus.specs.Pointwise.{excess}
use Rattle.run_laws.specs.Servers as servers
use Rattle.arrival_lines.specs.Grid.{speed, micros}
use Rattle.arrival_lines.specs.declared.grid.Service.{Service}
use Rattle.tree_network.specs.declared.network.Discipline.{Discipline}
use Rattle.tree_network.specs.declared.network.Discipline.TheVariants.{Fifo, Priority, Drr}
use Rattle.tree_network.specs.declared.network.Gate.{Gate}
use Rattle.tree_network.specs.declared.network.Port.{Port}

-- ---- as a server of runs
abbrev pub discipline_of : Discipline → servers.Discipline
discipline_of Fifo = servers.Fifo
discipline_of (Priority n) = servers.Priority n
discipline_of (Drr quanta) = servers.Drr quanta.items

-- its works are no faster than its pace
abbrev pub server_of : Port → servers.Server
server_of port = record { discipline = discipline_of port.discipline; pace = Some (speed port.pace) }

-- ---- its service curve, in bits by microseconds
abbrev pub curve_behind : Option Gate → Port → ℚ → Ext
curve_behind None port t = rate_latency_value (speed port.rate) (micros port.latency) t
curve_behind (Some gate) port t =
    excess (gate_value (speed port.rate) (micros gate.cycle) (micros gate.slot) t) (Fin (speed port.rate *ℚ micros port.latency))

abbrev pub service_curve : Port → ℚ → Ext
service_curve port t = curve_behind port.gate port t

-- ---- a service that is nowhere above it: in whole grains, the rate rounded down and the debt up
abbrev pub late_debt : Port → ℕ
late_debt port = div_ceil (port.rate * port.latency) (10 ^ 12)

abbrev pub rate_behind : Option Gate → ℕ → ℕ
rate_behind None rate = rate
rate_behind (Some gate) rate = rate * gate.slot / gate.cycle

abbrev pub closed_debt : Option Gate → ℕ → ℕ
closed_debt None rate = 0
closed_debt (Some gate) rate = div_ceil (rate * gate.slot / gate.cycle * (gate.cycle - gate.slot)) (10 ^ 12)

abbrev pub port_service : Port → Service
port_service port = record {
  rate = rate_behind port.gate port.rate;
  debt = late_debt port + closed_debt port.gate port.rate;
}
