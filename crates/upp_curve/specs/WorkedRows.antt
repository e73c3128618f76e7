-- Values that were worked out by hand from the words of the definitions. Own choice of examples.
use Rattle.std.specs.Prelude.{◌≡◌, pos, [], ◌∷◌, length}
use Rattle.rational.specs.Rational.{ℚ, ◌≤ℚ◌, frac}
use Rattle.rational.specs.declared.Extended.TheVariants.{Fin}
use Rattle.upp_curve.specs.declared.curve.Tail.TheVariants.{Affine}
use Rattle.upp_curve.specs.Curve.{SpecCurve, value_at}
use Rattle.upp_curve.specs.Unrolled.{count, unroll}
use Rattle.min_plus.specs.Functions.{zero_q}
pub use Rattle.min_plus.specs.Functions.{whole}
use Rattle.min_plus.specs.Pointwise.{IsMinimum, IsMaximum, IsSum, IsPositiveDifference}
use Rattle.min_plus.specs.Running.{IsRunningSupremum, IsRunningInfimum}
use Rattle.min_plus.specs.Convolution.{IsConvolution, IsDeconvolution, IsSubadditiveClosure, IsSubadditive}
use Rattle.upp_curve.specs.Kinds.{piece, stair, gate, bucket, rate_latency}
use Rattle.min_plus.specs.Formulas.{stair_value, gate_value}

-- packets of 1 with period 2 and no jitter; and packets of 4 with period 3 and jitter 5
pub record StairRows : Type 0 where
  pub at_0 : value_at (stair (whole 1) (whole 2) (whole 0)) (whole 0) ≡ Fin (whole 1)
  pub at_1 : value_at (stair (whole 1) (whole 2) (whole 0)) (whole 1) ≡ Fin (whole 1)
  pub at_2 : value_at (stair (whole 1) (whole 2) (whole 0)) (whole 2) ≡ Fin (whole 2)
  pub at_5_2 : value_at (stair (whole 1) (whole 2) (whole 0)) (frac (pos 5) 1) ≡ Fin (whole 2)
  pub formula : stair_value (whole 1) (whole 2) (whole 0) (frac (pos 5) 1) ≡ Fin (whole 2)
  pub early_0 : value_at (stair (whole 4) (whole 3) (whole 5)) (whole 0) ≡ Fin (whole 8)
  pub early_1 : value_at (stair (whole 4) (whole 3) (whole 5)) (whole 1) ≡ Fin (whole 12)
  pub early_4 : value_at (stair (whole 4) (whole 3) (whole 5)) (whole 4) ≡ Fin (whole 16)
  pub early_formula : stair_value (whole 4) (whole 3) (whole 5) (whole 4) ≡ Fin (whole 16)
  -- pieces at 0, 2 and 4 start before 5, and at 0 and 2 before 4
  pub below_5 : count (stair (whole 1) (whole 2) (whole 0)) (whole 5) ≡ 3
  pub unrolled_5 : length (unroll (stair (whole 1) (whole 2) (whole 0)) (whole 5)) ≡ 3
  pub below_4 : count (stair (whole 1) (whole 2) (whole 0)) (whole 4) ≡ 2

-- rate 100, open for 250 of each 1000
pub record GateRows : Type 0 where
  pub at_750 : value_at (gate (whole 100) (whole 1000) (whole 250)) (whole 750) ≡ Fin (whole 0)
  pub at_800 : value_at (gate (whole 100) (whole 1000) (whole 250)) (whole 800) ≡ Fin (whole 5000)
  pub at_1000 : value_at (gate (whole 100) (whole 1000) (whole 250)) (whole 1000) ≡ Fin (whole 25000)
  pub at_1750 : value_at (gate (whole 100) (whole 1000) (whole 250)) (whole 1750) ≡ Fin (whole 25000)
  pub at_2000 : value_at (gate (whole 100) (whole 1000) (whole 250)) (whole 2000) ≡ Fin (whole 50000)
  pub formula_800 : gate_value (whole 100) (whole 1000) (whole 250) (whole 800) ≡ Fin (whole 5000)
  pub formula_1750 : gate_value (whole 100) (whole 1000) (whole 250) (whole 1750) ≡ Fin (whole 25000)
  pub formula_2000 : gate_value (whole 100) (whole 1000) (whole 250) (whole 2000) ≡ Fin (whole 50000)

pub record BucketRows : Type 0 where
  pub at_0 : value_at (bucket (whole 3) (whole 2)) (whole 0) ≡ Fin (whole 3)
  pub at_2 : value_at (bucket (whole 3) (whole 2)) (whole 2) ≡ Fin (whole 7)

pub record RateLatencyRows : Type 0 where
  pub at_0 : value_at (rate_latency (whole 100) (whole 10)) (whole 0) ≡ Fin (whole 0)
  pub at_10 : value_at (rate_latency (whole 100) (whole 10)) (whole 10) ≡ Fin (whole 0)
  pub at_110 : value_at (rate_latency (whole 100) (whole 10)) (whole 110) ≡ Fin (whole 10000)
  -- without a latency it is a bucket without a burst
  pub at_once : rate_latency (whole 100) (whole 0) ≡ bucket (whole 0) (whole 100)

-- 3 + 2 t and 5 + t
pub record MinimumRows : Type 0 where
  pub min_2 : IsMinimum (value_at (bucket (whole 3) (whole 2))) (value_at (bucket (whole 5) (whole 1))) (whole 2)
      (Fin (whole 7))
  pub min_3 : IsMinimum (value_at (bucket (whole 3) (whole 2))) (value_at (bucket (whole 5) (whole 1))) (whole 3)
      (Fin (whole 8))
  pub max_1 : IsMaximum (value_at (bucket (whole 3) (whole 2))) (value_at (bucket (whole 5) (whole 1))) (whole 1)
      (Fin (whole 6))
  pub sum_1 : IsSum (value_at (bucket (whole 3) (whole 2))) (value_at (bucket (whole 5) (whole 1))) (whole 1)
      (Fin (whole 11))
  pub less_3 : IsPositiveDifference (value_at (bucket (whole 3) (whole 2))) (value_at (bucket (whole 5) (whole 1)))
      (whole 3) (Fin (whole 1))
  pub none_1 : IsPositiveDifference (value_at (bucket (whole 3) (whole 2))) (value_at (bucket (whole 5) (whole 1)))
      (whole 1) (Fin (whole 0))

-- ---- 3 t before 1, and t from 1 on
abbrev pub dip : SpecCurve
dip = record {
  pieces = piece (whole 0) (whole 0) (whole 0) (whole 3) ∷ piece (whole 1) (whole 1) (whole 0) (whole 1) ∷ [];
  tail = Affine (whole 1);
}

-- the supremum 3 at 1 is not taken
pub record RunningRows : Type 0 where
  pub least_half : IsRunningInfimum (value_at dip) (frac (pos 1) 1) (Fin (whole 1))
  pub least_1 : IsRunningInfimum (value_at dip) (whole 1) (Fin (whole 1))
  pub least_2 : IsRunningInfimum (value_at dip) (whole 2) (Fin (whole 2))
  pub most_1 : IsRunningSupremum (value_at dip) (whole 1) (Fin (whole 3))
  pub most_2 : IsRunningSupremum (value_at dip) (whole 2) (Fin (whole 3))
  pub most_4 : IsRunningSupremum (value_at dip) (whole 4) (Fin (whole 4))

-- at each time: two services in a row, what leaves a service, two buckets, the closure of a bucket and of a service
pub record ConvolutionRows : Type 0 where
  pub services : (t : ℚ) → zero_q ≤ℚ t →
      IsConvolution (value_at (rate_latency (whole 100) (whole 130))) (value_at (rate_latency (whole 100) (whole 10)))
      t (value_at (rate_latency (whole 100) (whole 140)) t)
  pub buckets : (t : ℚ) → zero_q ≤ℚ t →
      IsConvolution (value_at (bucket (whole 3) (whole 2))) (value_at (bucket (whole 5) (whole 4))) t
      (value_at (bucket (whole 8) (whole 2)) t)
  pub output : (t : ℚ) → zero_q ≤ℚ t →
      IsDeconvolution (value_at (bucket (whole 12000) (whole 10))) (value_at (rate_latency (whole 100) (whole 130))) t
      (value_at (bucket (whole 13300) (whole 10)) t)
  pub closed : (t : ℚ) → zero_q ≤ℚ t
      → IsSubadditiveClosure (value_at (bucket (whole 3) (whole 2))) t (value_at (bucket (whole 3) (whole 2)) t)
  pub closed_to_none : (t : ℚ) → zero_q ≤ℚ t
      → IsSubadditiveClosure (value_at (rate_latency (whole 1) (whole 1))) t (value_at (bucket (whole 0) (whole 0)) t)
  pub subadditive : IsSubadditive (value_at (bucket (whole 3) (whole 2)))
  pub not_subadditive : ¬ (IsSubadditive (value_at (rate_latency (whole 1) (whole 1))))
