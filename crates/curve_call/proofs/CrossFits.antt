-- The steps of the time at which two lines meet fit where none of them is too wide.
use Rattle.std.specs.Prelude.{ℕ, ◌<◌, Some}
use Rattle.std.proofs.Common.{arith, refl, inl, inr}
use Rattle.std.proofs.lemmas.Bool.{cases_lt}
use Rattle.rational.specs.Rational.{ℚ, ◌-ℚ◌, ◌/ℚ◌, neg_ℚ}
use Rattle.rational.specs.Ratio.{IsSmall, SumFits}
use Rattle.fraction128.specs.declared.fault.Op.TheVariants.{Sub, Div}
use Rattle.fraction128.specs.Fits.{wide_step}
use Rattle.upp_curve.specs.declared.affine_segment.line.Line.{Line}
use Rattle.curve_call.specs.Lies.{CrossFits}

below_out : (n m : ℕ) → ¬ (¬ (n < m)) → n < m
below_out n m h = elim (cases_lt n m) [ inl l ↦ l | inr l ↦ absurd (h (λ k. omega (arith, l, k))) ]

sum_out : (x y : ℚ) → ¬ (¬ (SumFits x y)) → SumFits x y
sum_out x y h = record {
  left = below_out _ _ (λ n. h (λ F. n F.left));
  right = below_out _ _ (λ n. h (λ F. n F.right));
  sum = below_out _ _ (λ n. h (λ F. n F.sum));
  bottom = below_out _ _ (λ n. h (λ F. n F.bottom));
}

small_out : (x : ℚ) → ¬ (¬ (IsSmall x)) → IsSmall x
small_out x h = record { top = below_out _ _ (λ n. h (λ F. n F.top)); bottom = below_out _ _ (λ n. h (λ F. n F.bottom)) }

pub apart_fits : (l m : Line) → CrossFits (Some l) (Some m) → SumFits m.icept (neg_ℚ l.icept)
apart_fits l m F = sum_out m.icept (neg_ℚ l.icept) (λ n. F (wide_step Sub m.icept l.icept) (inl (refl, n)))

pub closing_fits : (l m : Line) → CrossFits (Some l) (Some m) → SumFits l.slope (neg_ℚ m.slope)
closing_fits l m F = sum_out l.slope (neg_ℚ m.slope) (λ n. F (wide_step Sub l.slope m.slope) (inr (inl (refl, n))))

pub quotient_fits : (l m : Line) → CrossFits (Some l) (Some m) → IsSmall ((m.icept -ℚ l.icept) /ℚ (l.slope -ℚ m.slope))
quotient_fits l m F =
    small_out ((m.icept -ℚ l.icept) /ℚ (l.slope -ℚ m.slope)) (λ n. F (wide_step Div (m.icept -ℚ l.icept) (l.slope -ℚ m.slope)) (inr (inr (refl, n))))
