-- Token buckets and rates after a latency that are curves, by computing: their lines are readable.
use Rattle.std.specs.Prelude.{◌≡◌, ℕ, ◌*◌, ◌/◌, ◌^◌, ℤ, pos, ◌+ℤ◌, ◌*ℤ◌, nat_abs, Bool, true, ◌&&◌, ltb}
use Rattle.std.proofs.lemmas.Bool.{ltb-true, and_parts}
use Rattle.rational.specs.Gcd.{gcd}
use Rattle.rational.specs.Rational.{ℚ, ◌*ℚ◌, ◌≤ℚ◌, ◌<ℚ◌, neg_ℚ, den, le_q, lt_q}
use Rattle.rational.specs.Ratio.{IsSmall, SumFits}
use Rattle.rational.proofs.Laws.{le_of_lt}
use Rattle.rational.proofs.MinMax.{le_q_not}
use Rattle.rational.proofs.Over.{le_q_in, lt_q_in}
use Rattle.upp_curve.specs.affine_segment.Fits.{LineFits}
use Rattle.min_plus.specs.Functions.{zero_q}
use Rattle.min_plus.specs.Formulas.{IsBucket, IsService}
use Rattle.upp_curve.specs.Curve.{value_at}
use Rattle.upp_curve.specs.Curves.{IsCurve}
use Rattle.upp_curve.specs.Kinds.{bucket, rate_latency}
use Rattle.upp_curve.proofs.ReadableKinds.{bucket_curve}
use Rattle.upp_curve.proofs.KindForms.{late_normal}
use Rattle.upp_curve.proofs.KindValues.{bucket_is, service_is}

-- ---- steps that fit 127 bits
abbrev pub small : ℚ → Bool
small x = ltb (nat_abs x.num) (2 ^ 127) && ltb (den x) (2 ^ 127)

pub small_by : (x : ℚ) → small x ≡ true → IsSmall x
small_by x h =
    let k = and_parts (ltb (nat_abs x.num) (2 ^ 127)) _ h in
    record { top = ltb-true _ _ k.0; bottom = ltb-true _ _ k.1 }

abbrev pub parts_fit : ℤ → ℕ → ℤ → ℕ → Bool
parts_fit a d b e =
    ltb (nat_abs (a *ℤ pos (e / gcd d e))) (2 ^ 127)
    && (ltb (nat_abs (b *ℤ pos (d / gcd d e))) (2 ^ 127)
    && (ltb (nat_abs (a *ℤ pos (e / gcd d e) +ℤ b *ℤ pos (d / gcd d e))) (2 ^ 127)
    && ltb (d / gcd d e * e) (2 ^ 127)))

abbrev pub sum_fits : ℚ → ℚ → Bool
sum_fits x y = parts_fit x.num (den x) y.num (den y)

pub sum_by : (x y : ℚ) → sum_fits x y ≡ true → SumFits x y
sum_by x y h =
    let one = and_parts _ _ h in
    let two = and_parts _ _ one.1 in
    let three = and_parts _ _ two.1 in
    record {
      left = ltb-true _ _ one.0;
      right = ltb-true _ _ two.0;
      sum = ltb-true _ _ three.0;
      bottom = ltb-true _ _ three.1;
    }

-- k + r x
abbrev pub line_fits : ℚ → ℚ → ℚ → Bool
line_fits x k r = small (r *ℚ x) && sum_fits k (r *ℚ x)

pub line_by : (x k r : ℚ) → line_fits x k r ≡ true → LineFits x record { icept = k; slope = r }
line_by x k r h =
    let both = and_parts (small (r *ℚ x)) _ h in
    record { product = small_by (r *ℚ x) both.0; sum = sum_by k (r *ℚ x) both.1 }

-- ---- a bucket
pub record IsBurst (b r : ℚ) : Type 0 where
  pub burst : zero_q ≤ℚ b
  pub rate : zero_q ≤ℚ r
  pub curve : IsCurve (bucket b r)
  pub is : IsBucket b r (value_at (bucket b r))

abbrev pub burst_test : ℚ → ℚ → Bool
burst_test b r = le_q zero_q b && (le_q zero_q r && small b)

pub burst_by : (b r : ℚ) → burst_test b r ≡ true → IsBurst b r
burst_by b r h =
    let one = and_parts (le_q zero_q b) _ h in
    let two = and_parts (le_q zero_q r) _ one.1 in
    record {
      burst = le_q_in zero_q b one.0;
      rate = le_q_in zero_q r two.0;
      curve = bucket_curve b r (small_by b two.1);
      is = bucket_is b r;
    }

-- ---- a rate after a latency, both above 0
pub record IsLate (R T : ℚ) : Type 0 where
  pub rate : zero_q <ℚ R
  pub late : zero_q <ℚ T
  pub curve : IsCurve (rate_latency R T)
  pub is : IsService R T (value_at (rate_latency R T))

abbrev pub late_test : ℚ → ℚ → Bool
late_test R T =
    lt_q zero_q R
    && (lt_q zero_q T
    && (line_fits zero_q zero_q zero_q
    && (line_fits T zero_q zero_q
    && line_fits T (neg_ℚ (R *ℚ T)) R)))

pub late_by : (R T : ℚ) → late_test R T ≡ true → IsLate R T
late_by R T h =
    let one = and_parts (lt_q zero_q R) _ h in
    let two = and_parts (lt_q zero_q T) _ one.1 in
    let three = and_parts (line_fits zero_q zero_q zero_q) _ two.1 in
    let four = and_parts (line_fits T zero_q zero_q) _ three.1 in
    let rate = lt_q_in zero_q R one.0 in
    let late = lt_q_in zero_q T two.0 in
    record {
      rate = rate;
      late = late;
      curve = rw (le_q_not T zero_q late, le_q_not R zero_q rate) record {
        normal = late_normal R T rate late;
        readable = (
          line_by zero_q zero_q zero_q three.0,
          line_by T zero_q zero_q four.0,
          (line_by T (neg_ℚ (R *ℚ T)) R four.1, tt, tt),
        );
      };
      is = service_is R T (le_of_lt rate) (le_of_lt late);
    }
