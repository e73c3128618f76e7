-- The two deviations of a token bucket and a rate after a latency, by their formulas: what a server with that service
-- curve promises a flow with that arrival curve. (Le Boudec and Thiran, chapter 1; the packet by their packetisers.)
use Rattle.std.specs.Prelude.{◌≡◌, ◌⊎◌}
use Rattle.rational.specs.Rational.{ℚ, ◌+ℚ◌, ◌*ℚ◌, ◌/ℚ◌, ◌≤ℚ◌, ◌<ℚ◌}
use Rattle.rational.specs.Extended.{Ext}
use Rattle.rational.specs.declared.Extended.TheVariants.{Fin, Inf}
use Rattle.min_plus.specs.Functions.{zero_q}
use Rattle.min_plus.specs.Formulas.{IsBucket, IsService}
use Rattle.min_plus.specs.Pointwise.{packetised}
use Rattle.min_plus.specs.Deviations.{IsHorizontalDeviation, IsVerticalDeviation}

-- burst and rate of the flow, rate and latency of the server, and functions with their values from 0 on
pub record AreBucketAndService (burst rate service latency : ℚ) (f g : ℚ → Ext) : Type 0 where
  pub burst_nonneg : zero_q ≤ℚ burst
  pub rate_nonneg : zero_q ≤ℚ rate
  pub service_some : zero_q <ℚ service
  pub latency_nonneg : zero_q ≤ℚ latency
  pub is_bucket : IsBucket burst rate f
  pub is_service : IsService service latency g

-- the delay: the latency and the time that the burst takes; 0 where nothing is ever sent; infinite where the flow is
-- the faster of the two
pub record BucketDelay (burst rate service latency : ℚ) (f g : ℚ → Ext) : Type 0 where
  pub finite : rate ≤ℚ service → (zero_q <ℚ burst) ⊎ (zero_q <ℚ rate)
      → IsHorizontalDeviation f g (Fin (latency +ℚ burst /ℚ service))
  pub nothing : burst ≡ zero_q → rate ≡ zero_q → IsHorizontalDeviation f g (Fin zero_q)
  pub unbounded : service <ℚ rate → IsHorizontalDeviation f g Inf

-- the backlog for whole packets: the burst, and what is sent in the latency and the time that one packet takes;
-- infinite where the flow is the faster of the two
pub record BucketBacklog (burst rate service latency packet : ℚ) (f g : ℚ → Ext) : Type 0 where
  pub finite : rate ≤ℚ service
      → IsVerticalDeviation f (packetised g packet) (Fin (burst +ℚ rate *ℚ (latency +ℚ packet /ℚ service)))
  pub unbounded : service <ℚ rate → IsVerticalDeviation f (packetised g packet) Inf

abbrev pub BucketDeviations : Type 0
BucketDeviations = (burst rate service latency packet : ℚ) (f g : ℚ → Ext)
    → AreBucketAndService burst rate service latency f g → zero_q ≤ℚ packet
    → BucketDelay burst rate service latency f g × BucketBacklog burst rate service latency packet f g
