-- What is looked at, as a curve.
use Rattle.upp_curve.specs.Curve.{SpecCurve}
use Rattle.curve_call.specs.declared.sides.Shown.{Shown}
use Rattle.curve_call.specs.declared.sides.Shown.TheVariants.{Curve, Level}
use Rattle.curve_call.specs.Levels.{level_curve}

abbrev pub shown_curve : Shown → SpecCurve
shown_curve (Curve c) = c.now
shown_curve (Level l) = level_curve l
