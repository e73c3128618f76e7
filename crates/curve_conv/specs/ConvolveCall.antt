-- A call of the convolution within both limits. Own choice.
use Rattle.std.specs.Prelude.{◌≡◌, ℕ, ◌+◌}
use Rattle.rational.specs.Rational.{◌+ℚ◌, ◌-ℚ◌}
use Rattle.upp_curve.specs.Curve.{SpecCurve}
use Rattle.upp_limits.specs.Limits.{Sizes}
use Rattle.upp_limits.specs.Sized.{grid_of}
use Rattle.upp_curve.specs.Steady.{steady}
use Rattle.curve_call.specs.declared.frame.Frame.{Frame}
use Rattle.plain_operators.specs.pointwise.LatticeCall.{LatticeCall}
use Rattle.curve_conv.specs.Late.{IsSlowerLate}

-- its window ends k + 2 periods after the sum of the times from when on the curves repeat, and in the last of them
-- the slower curve's part has the least sums
pub record IsConvolveFrame (f g : SpecCurve) (r : Frame) : Type 0 where
  pub number : ℕ
  pub sizes : Sizes
  pub call : LatticeCall f g r.start r.period r.end (number + 1) sizes
  pub start : r.start ≡ steady f +ℚ steady g
  pub times : r.times ≡ sizes.dt
  pub values : r.values ≡ grid_of sizes
  pub enough : IsSlowerLate f g (r.end -ℚ r.period) r.period
