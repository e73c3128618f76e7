-- A curve that is too wide for any call is refused by the next call that a closure goes through.
use Rattle.upp_limits.specs.declared.op_kind.OpKind.TheVariants.{Min, Convolve}
use Rattle.upp_curve.specs.Curve.{SpecCurve}
use Rattle.upp_curve.specs.Normal.{IsRaw}
use Rattle.upp_limits.specs.Gauges.{IsTooWide}
use Rattle.subadd_closure.specs.Heavy.{IsHeavy}

-- c is the first operand; the second is any curve in whatever form
pub record HeavyIsRefused : Type 0 where
  pub min : (c g : SpecCurve) → IsRaw c → IsRaw g → IsHeavy c → IsTooWide Min c g
  pub convolve : (c g : SpecCurve) → IsRaw c → IsRaw g → IsHeavy c → IsTooWide Convolve c g
