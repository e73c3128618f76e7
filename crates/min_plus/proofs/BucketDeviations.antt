-- The deviations of a bucket and a rate after a latency.
use Rattle.std.proofs.Common.{ap, subst}
use Rattle.std.specs.Prelude.{◌≡◌}
use Rattle.rational.specs.Rational.{ℚ}
use Rattle.rational.specs.Extended.{Ext}
use Rattle.rational.specs.declared.Extended.TheVariants.{Fin}
use Rattle.min_plus.specs.Functions.{zero_q}
use Rattle.min_plus.specs.Formulas.{IsBucket, IsService, IsPacketised}
use Rattle.min_plus.specs.Pointwise.{excess, packetised}
use Rattle.min_plus.specs.BucketBounds.{BucketDeviations}
use Rattle.min_plus.proofs.BucketDelay.{horizontal_finite, horizontal_zero, horizontal_infinite}
use Rattle.min_plus.proofs.BucketBacklog.{vertical_finite, vertical_infinite}

packetised_is : (R T l : ℚ) (g : ℚ → Ext) → IsService R T g → IsPacketised R T l (packetised g l)
packetised_is R T l g G = record { is = λ t start. ap (λ v. excess v (Fin l)) (G.is t start) }

no_bucket : (b r : ℚ) (f : ℚ → Ext) → b ≡ zero_q → r ≡ zero_q → IsBucket b r f → IsBucket zero_q zero_q f
no_bucket b r f p q F = subst (λ x. IsBucket zero_q x f) q (subst (λ x. IsBucket x r f) p F)

pub bucket_deviations : BucketDeviations
bucket_deviations b r R T l f g h hl =
    let F = h.is_bucket in
    let G = h.is_service in
    let P = packetised_is R T l g G in (
      record {
        finite = λ fast moves. horizontal_finite b r R T f g h.burst_nonneg h.rate_nonneg h.service_some h.latency_nonneg fast moves F G;
        nothing = λ p q. horizontal_zero R T f g h.service_some (no_bucket b r f p q F) G;
        unbounded = λ fast. horizontal_infinite b r R T f g h.burst_nonneg h.service_some h.latency_nonneg fast F G;
      },
      record {
        finite = λ fast. vertical_finite b r R T l f (packetised g l) h.burst_nonneg h.rate_nonneg h.service_some h.latency_nonneg hl fast F P;
        unbounded = λ fast. vertical_infinite b r R T l f (packetised g l) h.burst_nonneg h.service_some h.latency_nonneg hl fast F P;
      },
    )
