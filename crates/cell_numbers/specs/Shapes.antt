-- Shapes of curves and numbers of cells. Own choice of the words.
use Rattle.rational.specs.Rational.{ℚ}
use Rattle.rational.specs.Extended.{Ext}
use Rattle.upp_curve.specs.Curve.{SpecCurve, value_at}
use Rattle.min_plus.specs.Functions.{IsFinite, IsRising, IsNonnegative}
use Rattle.curve_call.specs.Growth.{GrowsFromZero}

-- finite, rising, and nowhere below 0; it need not be 0 at 0
pub record IsServed (f : ℚ → Ext) : Type 0 where
  pub finite : IsFinite f
  pub rising : IsRising f
  pub nonneg : IsNonnegative f

abbrev pub Rises : SpecCurve → Type 0
Rises f = IsRising (value_at f)

abbrev pub Serving : SpecCurve → Type 0
Serving f = IsServed (value_at f)

abbrev pub Grows : SpecCurve → Type 0
Grows f = GrowsFromZero (value_at f)
