-- Operators worked out for the kinds of curve that are affine, as checks of the definitions.
use Rattle.std.specs.Prelude.{◌≡◌, ℕ}
use Rattle.std.proofs.Common.{arith, sym, ap, ◌∙◌, subst, refl}
use Rattle.rational.specs.Rational.{ℚ, ◌+ℚ◌, ◌*ℚ◌, ◌≤ℚ◌}
use Rattle.rational.specs.Fractions.{same_parts}
use Rattle.rational.proofs.Linear.{with1, with5}
use Rattle.rational.proofs.Laws.{mul_add}
use Rattle.rational.specs.Extended.{◌≤ₑ◌, ◌+ₑ◌}
use Rattle.rational.specs.declared.Extended.TheVariants.{Fin}
use Rattle.min_plus.specs.Functions.{zero_q}
use Rattle.min_plus.specs.Convolution.{IsDeconvolution, IsSubadditiveClosure, IsConvolution}
use Rattle.min_plus.specs.Formulas.{IsService, bucket_value, rate_latency_value}
use Rattle.upp_curve.specs.WorkedRows.{whole, ConvolutionRows}
use Rattle.upp_curve.specs.Kinds.{bucket, rate_latency}
use Rattle.upp_curve.specs.Curve.{value_at}
use Rattle.rational.proofs.Whole.{nat_nonneg}
use Rattle.min_plus.proofs.BucketOperators.{bucket_convolution, bucket_deconvolution, bucket_closure, bucket_subadditive, service_convolution, service_closure}
use Rattle.upp_curve.proofs.KindValues.{bucket_is, service_is}
use Rattle.upp_curve.proofs.Worked.{computing, latencies, bursts, both_bursts}

-- ---- a service after a latency is not subadditive
two : value_at (rate_latency (whole 1) (whole 1)) (whole 1 +ℚ whole 1) ≡ Fin (whole 1)
unfolding computing
two = ap Fin (same_parts _ _ refl refl)

one : value_at (rate_latency (whole 1) (whole 1)) (whole 1) ≡ Fin (whole 0)
unfolding computing
one = ap Fin (same_parts _ _ refl refl)

pub convolution_rows : ConvolutionRows
convolution_rows = record {
  services = λ t h.
      subst (λ v. IsConvolution (value_at (rate_latency (whole 100) (whole 130))) (value_at (rate_latency (whole 100) (whole 10))) t v)
      (ap (λ T. rate_latency_value (whole 100) T t) latencies ∙ sym ((late 100 140).is t h))
      (service_convolution (whole 100) (whole 130) (whole 10) t _ _ (nonneg 100) (nonneg 130) (nonneg 10) h (late 100 130) (late 100 10));
  buckets = λ t h.
      subst (λ v. IsConvolution (value_at (bucket (whole 3) (whole 2))) (value_at (bucket (whole 5) (whole 4))) t v)
      (ap (λ b. bucket_value b (whole 2) t) both_bursts ∙ sym ((bucket_is (whole 8) (whole 2)).is t h))
      (bucket_convolution (whole 3) (whole 2) (whole 5) (whole 4) t _ _ (with1 (whole 2) (λ c. omega (arith, c.le, c.lt, c.same))) h
      (bucket_is (whole 3) (whole 2)) (bucket_is (whole 5) (whole 4)));
  output = λ t h.
      let x = mul_add (whole 10) t (whole 130) in
      let y = bursts in
      subst (λ v. IsDeconvolution (value_at (bucket (whole 12000) (whole 10))) (value_at (rate_latency (whole 100) (whole 130))) t v)
      (ap Fin (shuffle (whole 12000) (whole 13300) (whole 10 *ℚ t) (whole 10 *ℚ whole 130) (whole 10 *ℚ (t +ℚ whole 130)) x y) ∙ sym ((bucket_is (whole 13300) (whole 10)).is t h))
      (bucket_deconvolution (whole 12000) (whole 10) (whole 100) (whole 130) t _ _ (nonneg 10) (with1 (whole 100) (λ c. omega (arith, c.le, c.lt, c.same))) (nonneg 130)
      (with1 (whole 10) (λ c. omega (arith, c.le, c.lt, c.same))) h (bucket_is (whole 12000) (whole 10)) (late 100 130));
  closed = λ t h.
      subst (λ v. IsSubadditiveClosure (value_at (bucket (whole 3) (whole 2))) t v) (sym ((bucket_is (whole 3) (whole 2)).is t h))
      (bucket_closure (whole 3) (whole 2) t _ (nonneg 3) h (bucket_is (whole 3) (whole 2)));
  closed_to_none = λ t h.
      subst (λ v. IsSubadditiveClosure (value_at (rate_latency (whole 1) (whole 1))) t v)
      (ap Fin (with1 t (λ c. omega (arith, c.le, c.lt, c.same))) ∙ sym ((bucket_is (whole 0) (whole 0)).is t h))
      (service_closure (whole 1) (whole 1) t _ (nonneg 1) (with1 (whole 1) (λ c. omega (arith, c.le, c.lt, c.same))) h (late 1 1));
  subadditive = bucket_subadditive (whole 3) (whole 2) _ (nonneg 3) (bucket_is (whole 3) (whole 2));
  not_subadditive = λ all. at_two (all (whole 1) (whole 1) (nonneg 1) (nonneg 1));
}
  where
    nonneg : (n : ℕ) → zero_q ≤ℚ whole n
    nonneg n = nat_nonneg n

    late : (R T : ℕ) → IsService (whole R) (whole T) (value_at (rate_latency (whole R) (whole T)))
    late R T = service_is (whole R) (whole T) (nonneg R) (nonneg T)

    shuffle : (b c x y z : ℚ) → z ≡ x +ℚ y → b +ℚ y ≡ c → b +ℚ z ≡ c +ℚ x
    shuffle b c x y z e f = with5 b c x y z (λ c. omega (arith, c.le, c.lt, c.same))

    at_two : ¬ (value_at (rate_latency (whole 1) (whole 1)) (whole 1 +ℚ whole 1)
        ≤ₑ value_at (rate_latency (whole 1) (whole 1)) (whole 1) +ₑ value_at (rate_latency (whole 1) (whole 1)) (whole 1))
    at_two h =
        let k : whole 1 ≤ℚ whole 0 +ℚ whole 0 = rw (two, one) at h in
        with1 (whole 1) (λ c. omega (arith, c.le, c.lt, c.same))
