-- The times at which the pieces of a curve start, its periods written out. Textbook.
use Rattle.rational.specs.Rational.{ℚ}
use Rattle.upp_curve.specs.Curve.{SpecCurve}
use Rattle.upp_curve.specs.affine_segment.Pieces.{HasStart}
use Rattle.upp_curve.specs.Unrolled.{unroll}

-- a piece of the curve, or a copy of one, starts at x
abbrev pub IsBreak : SpecCurve → ℚ → Type 0
IsBreak c x = (far : ℚ) × HasStart x (unroll c far)
