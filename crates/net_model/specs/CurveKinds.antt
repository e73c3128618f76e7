-- Which curves of a formula a network may have: a rate after a latency and a gate at a server, a token bucket and a
-- stair at a flow. (Le Boudec and Thiran.)
use Rattle.rational.specs.Rational.{ℚ, ◌≤ℚ◌, ◌<ℚ◌}
use Rattle.min_plus.specs.Functions.{zero_q}
use Rattle.upp_curve.specs.Kinds.{rate_latency, gate, bucket, stair}
use Rattle.net_model.specs.Accepted.{IsServiceCurve, IsArrivalCurve}

pub record KindsMayStand : Type 0 where
  pub rate_latency : (rate latency : ℚ) → zero_q ≤ℚ rate → zero_q ≤ℚ latency
      → IsServiceCurve (rate_latency rate latency)
  pub gate : (rate cycle slot : ℚ) → zero_q ≤ℚ rate → zero_q <ℚ slot → slot ≤ℚ cycle
      → IsServiceCurve (gate rate cycle slot)
  pub bucket : (burst rate : ℚ) → zero_q ≤ℚ burst → zero_q ≤ℚ rate → IsArrivalCurve (bucket burst rate)
  pub stair : (packet period jitter : ℚ) → zero_q ≤ℚ packet → zero_q <ℚ period → zero_q ≤ℚ jitter
      → IsArrivalCurve (stair packet period jitter)
