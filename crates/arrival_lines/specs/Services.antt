-- Services below a rate after a latency and below a gate, and what a service leaves when a line is served first, or shared out.
-- (Le Boudec and Thiran, chapters 1 and 6: rate-latency service and residual service. The line below a gate is our own.)
use Rattle.std.specs.Prelude.{ℕ, ◌+◌, ◌-◌, ◌^◌, ◌&&◌, cond, nat_lt, List, Contains, Option, Some, None}
use Rattle.rational.specs.Rational.{ℚ, ◌-ℚ◌, ◌*ℚ◌, ◌/ℚ◌, ◌≤ℚ◌, ◌<ℚ◌}
use Rattle.rational.specs.MinMax.{max_q}
use Rattle.rational.specs.Extended.{Ext, ◌≤ₑ◌}
use Rattle.rational.specs.declared.Extended.TheVariants.{Fin}
use Rattle.min_plus.specs.Functions.{zero_q, whole}
use Rattle.min_plus.specs.Formulas.{rate_latency_value, gate_value}
use Rattle.min_plus.specs.Pointwise.{excess, scaled}
use Rattle.arrival_lines.specs.Grid.{bits, speed, micros, line_value, service_value}
use Rattle.arrival_lines.specs.declared.grid.Gate.{Gate}
use Rattle.arrival_lines.specs.declared.grid.Line.{Line}
use Rattle.arrival_lines.specs.declared.grid.Service.{Service}

-- from 0 on the function is at least the service
pub record IsServed (g : ℚ → Ext) (service : Service) : Type 0 where
  pub served : (t : ℚ) → zero_q ≤ℚ t → Fin (service_value service t) ≤ₑ g t

-- ---- of a port
-- a service below a rate after a latency in picoseconds
pub record IsBelowLate (rate latency : ℕ) (service : Service) : Type 0 where
  pub below : (t : ℚ) → zero_q ≤ℚ t → Fin (service_value service t) ≤ₑ rate_latency_value (speed rate) (micros latency) t

-- a gate is at least the line of a rate that serves no more in a cycle than the gate does, after the closed part of a cycle
abbrev pub GateAboveLine : Type 0
GateAboveLine = (rate cycle slot slower t : ℚ) → zero_q ≤ℚ rate → zero_q ≤ℚ slower → zero_q <ℚ cycle → zero_q ≤ℚ slot → slot ≤ℚ cycle
    → slower *ℚ cycle ≤ℚ rate *ℚ slot → zero_q ≤ℚ t
    → Fin (max_q zero_q (slower *ℚ t -ℚ slower *ℚ (cycle -ℚ slot))) ≤ₑ gate_value rate cycle slot t

-- a service below a gate of a rate, of which what comes in the latency is lost
pub record IsBelowGate (rate latency : ℕ) (gate : Gate) (service : Service) : Type 0 where
  pub below : (t : ℚ) → zero_q ≤ℚ t → Fin (service_value service t)
      ≤ₑ excess (gate_value (speed rate) (micros gate.cycle) (micros gate.slot) t) (Fin (speed rate *ℚ micros latency))

-- ---- what is left
-- a function that is at least the service, less one that is at most the line, and less a packet of so many grains, and at least 0: it is at
-- least what is left
pub record IsLeft (service : Service) (line : Line) (packet : ℕ) (left : Service) : Type 0 where
  pub below : (β higher : ℚ → Ext) → IsServed β service → ((t : ℚ) → zero_q ≤ℚ t → higher t ≤ₑ Fin (line_value line t))
      → (t : ℚ) → zero_q ≤ℚ t → Fin (service_value left t) ≤ₑ excess (excess (β t) (higher t)) (Fin (bits packet))

-- what is left by one of the lines
abbrev pub IsLeftOfOne : Service → List Line → ℕ → Service → Type 0
IsLeftOfOne service lines packet left = (line : Line) × Contains lines line × IsLeft service line packet left

-- what is left, if the line is slower and the debt fits 64 bits
abbrev pub left_of : Service → ℕ → Line → Option Service
left_of service packet line =
    cond (nat_lt line.rate service.rate && nat_lt (service.debt + line.burst + packet) (2 ^ 64))
    (Some record { rate = service.rate - line.rate; debt = service.debt + line.burst + packet }) None

-- a share of a function that is at least the service, less what is owed of so many grains over the same whole, and at least 0: it is at
-- least what is left
pub record IsShare (service : Service) (part all owed : ℕ) (left : Service) : Type 0 where
  pub below : (β : ℚ → Ext) → IsServed β service → (t : ℚ) → zero_q ≤ℚ t
      → Fin (service_value left t) ≤ₑ excess (scaled (whole part /ℚ whole all) (β t)) (Fin (bits owed /ℚ whole all))
