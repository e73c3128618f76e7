-- Numbers whose parts are short, so that the value of a line over one denominator fits. Own choice.
use Rattle.std.specs.Prelude.{◌<◌, ◌^◌, nat_abs}
use Rattle.rational.specs.Rational.{ℚ, den}
use Rattle.upp_curve.specs.declared.affine_segment.line.Line.{Line}

pub record HasShortParts (x : ℚ) : Type 0 where
  pub top : nat_abs x.num < 2 ^ 40
  pub bottom : den x < 2 ^ 20

abbrev pub LineHasShortParts : Line → Type 0
LineHasShortParts l = HasShortParts l.icept × HasShortParts l.slope
