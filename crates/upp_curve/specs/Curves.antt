-- What the type of a curve keeps. Own choice.
use Rattle.upp_curve.specs.Curve.{SpecCurve}
use Rattle.upp_curve.specs.Normal.{IsNormal}
use Rattle.upp_curve.specs.Readable.{IsReadable}

-- a curve is in normal form and readable
pub record IsCurve (c : SpecCurve) : Type 0 where
  pub normal : IsNormal c
  pub readable : IsReadable c
