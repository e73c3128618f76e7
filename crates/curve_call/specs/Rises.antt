-- The steps to the rise of a curve over a time fit. Own choice.
use Rattle.std.specs.Prelude.{List, Option, Some, None}
use Rattle.rational.specs.Rational.{ℚ, ◌*ℚ◌, ◌/ℚ◌}
use Rattle.rational.specs.Ratio.{IsSmall}
use Rattle.upp_curve.specs.declared.affine_segment.line.Line.{Line}
use Rattle.upp_curve.specs.declared.affine_segment.line.Piece.{Piece}
use Rattle.upp_curve.specs.declared.curve.Tail.{Tail}
use Rattle.upp_curve.specs.declared.curve.Tail.TheVariants.{Periodic, Affine, Infinite}
use Rattle.upp_curve.specs.Curve.{SpecCurve}
use Rattle.upp_curve.specs.Steady.{last_line}

-- the rise of a period times the number of periods
pub record PeriodsRise (period rise d : ℚ) : Type 0 where
  pub number : IsSmall (d /ℚ period)
  pub product : IsSmall (rise *ℚ (d /ℚ period))

abbrev pub SlopeTimesFits : Option Line → ℚ → Type 0
SlopeTimesFits None d = Unit {0}
SlopeTimesFits (Some l) d = IsSmall (l.slope *ℚ d)

abbrev pub RiseInFits : List Piece → Tail → ℚ → Type 0
RiseInFits ps (Periodic rank period rise) d = PeriodsRise period rise d
RiseInFits ps (Affine rank) d = SlopeTimesFits (last_line ps) d
RiseInFits ps (Infinite rank) d = Unit {0}

abbrev pub CurveRiseFits : SpecCurve → ℚ → Type 0
CurveRiseFits c d = RiseInFits c.pieces c.tail d
