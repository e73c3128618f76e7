-- When packets are too many or too wide to be measured. (The limits are our own choice.)
use Rattle.std.specs.Prelude.{ℕ, ◌+◌, ◌*◌, ◌^◌, ◌<◌, ◌≤◌, List, length, max, map, sum_by}
use Rattle.rational.specs.Gauge.{common_den, bound_of}
use Rattle.net_model.specs.declared.trace.TracePacket.{TracePacket}

abbrev pub AreTooMany : List TracePacket → Type 0
AreTooMany ps = 1024 < length ps

-- the least common denominator of their times
abbrev pub grid_of : List TracePacket → ℕ
grid_of ps = common_den (map (λ p. p.time) ps)

-- the least whole number that is at least 1, each of their times, and the sum of their bits
abbrev pub reach_of : List TracePacket → ℕ
reach_of ps = max (bound_of (map (λ p. p.time) ps)) (sum_by (λ p. p.bits) ps)

-- they are not too many, and their times and bits are wide
pub record AreTooWide (ps : List TracePacket) : Type 0 where
  pub few : length ps ≤ 1024
  pub wide : 2 ^ 120 ≤ 64 * (reach_of ps + 1) * grid_of ps
