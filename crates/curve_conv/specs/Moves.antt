-- Some periods of a curve's own, by which a split of a convolution may be moved. Own choice.
use Rattle.std.specs.Prelude.{pos}
use Rattle.rational.specs.Rational.{ℚ, ◌≤ℚ◌, ◌<ℚ◌, int}
use Rattle.rational.specs.Grid.{Whole}
use Rattle.upp_curve.specs.Curve.{SpecCurve, value_at}
use Rattle.upp_curve.specs.Steady.{Repeats, steady}
use Rattle.upp_limits.specs.Limits.{Sizes}
use Rattle.curve_conv.specs.declared.moved.Move.{Move}

-- they are no longer than d, and stand on the grid of times
pub record IsMove (z : Sizes) (c : SpecCurve) (d : ℚ) (m : Move) : Type 0 where
  pub some : int (pos 0) <ℚ m.time
  pub early : m.time ≤ℚ d
  pub whole : Whole z.dt m.time
  pub repeats : Repeats (value_at c) (steady c) m.time m.rise
