-- The curve of each kind has the kind's values and is in normal form. Own choice.
use Rattle.std.specs.Prelude.{◌≡◌}
use Rattle.rational.specs.Rational.{ℚ, ◌≤ℚ◌, ◌<ℚ◌}
use Rattle.upp_curve.specs.Curve.{value_at}
use Rattle.upp_curve.specs.Normal.{IsNormal}
use Rattle.min_plus.specs.Functions.{zero_q}
use Rattle.min_plus.specs.Formulas.{bucket_value, stair_value, rate_latency_value, gate_value}
use Rattle.upp_curve.specs.Kinds.{bucket, stair, rate_latency, gate}

-- from 0 on the curve has the values of the formula
pub record KindsHaveTheirValues : Type 0 where
  pub bucket : (burst rate t : ℚ) → zero_q ≤ℚ t → value_at (bucket burst rate) t ≡ bucket_value burst rate t
  pub stair : (packet period jitter t : ℚ) → zero_q ≤ℚ packet → zero_q <ℚ period → zero_q ≤ℚ jitter → zero_q ≤ℚ t →
      value_at (stair packet period jitter) t ≡ stair_value packet period jitter t
  pub rate_latency : (rate latency t : ℚ) → zero_q ≤ℚ rate → zero_q ≤ℚ latency → zero_q ≤ℚ t →
      value_at (rate_latency rate latency) t ≡ rate_latency_value rate latency t
  pub gate : (rate cycle slot t : ℚ) → zero_q ≤ℚ rate → zero_q <ℚ slot → slot ≤ℚ cycle → zero_q ≤ℚ t →
      value_at (gate rate cycle slot) t ≡ gate_value rate cycle slot t

pub record KindsAreNormal : Type 0 where
  pub bucket : (burst rate : ℚ) → IsNormal (bucket burst rate)
  pub stair : (packet period jitter : ℚ) → zero_q ≤ℚ packet → zero_q <ℚ period → zero_q ≤ℚ jitter
      → IsNormal (stair packet period jitter)
  pub rate_latency : (rate latency : ℚ) → zero_q ≤ℚ rate → zero_q ≤ℚ latency → IsNormal (rate_latency rate latency)
  pub gate : (rate cycle slot : ℚ) → zero_q ≤ℚ rate → zero_q <ℚ slot → slot ≤ℚ cycle → IsNormal (gate rate cycle slot)
