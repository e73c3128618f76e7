-- A level for ever: the curve of one value.
use Rattle.std.specs.Prelude.{pos}
use Rattle.rational.specs.Rational.{ℚ, int}
use Rattle.upp_curve.specs.Curve.{SpecCurve}
use Rattle.upp_curve.specs.Kinds.{bucket}

-- a bucket that gains nothing
abbrev pub level_curve : ℚ → SpecCurve
level_curve l = bucket l (int (pos 0))
