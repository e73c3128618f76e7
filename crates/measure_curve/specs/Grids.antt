-- Packets whose times stand on one grid, and fit there. Own choice.
use Rattle.std.specs.Prelude.{◌≡◌, ℕ, ◌+◌, ◌*◌, ◌^◌, ◌<◌, ◌≤◌, List, length, map, All, AllPairs}
use Rattle.rational.specs.Rational.{◌≤ℚ◌}
use Rattle.upp_limits.specs.Limits.{Numbers, values_alone}
use Rattle.net_model.specs.declared.trace.TracePacket.{TracePacket}
use Rattle.net_model.specs.Traces.{IsTracePacket}
use Rattle.measure_curve.specs.Limits.{grid_of, reach_of}

-- what limits them
abbrev pub width_of : List TracePacket → ℕ
width_of ps = 64 * (reach_of ps + 1) * grid_of ps

-- their times as numbers whose sizes are gathered
abbrev pub numbers_of : List TracePacket → Numbers
numbers_of ps = values_alone (map (λ p. p.time) ps)

-- packets of a trace that are neither too many nor too wide, and their grid
pub record IsNarrow (grid : ℕ) (ps : List TracePacket) : Type 0 where
  pub few : length ps ≤ 1024
  pub packets : All IsTracePacket ps
  pub in_order : AllPairs (λ p q. p.time ≤ℚ q.time) ps
  pub grid_is : grid ≡ grid_of ps
  pub narrow : width_of ps < 2 ^ 120
