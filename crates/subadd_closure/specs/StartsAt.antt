-- A convolution with the value at 0 set to another, and what is answered where a curve's is. Own choice.
use Rattle.std.specs.Prelude.{◌≡◌, ◌≢◌, Result, Ok, Err}
use Rattle.rational.specs.Rational.{ℚ, ◌<ℚ◌}
use Rattle.rational.specs.Extended.{Ext}
use Rattle.rational.specs.declared.Extended.TheVariants.{Fin, Inf}
use Rattle.upp_limits.specs.declared.op_kind.OpFault.{OpFault}
use Rattle.upp_limits.specs.declared.op_kind.OpFault.TheVariants.{NoMemory}
use Rattle.min_plus.specs.Convolution.{IsConvolution}
use Rattle.upp_curve.specs.Curve.{SpecCurve, value_at}
use Rattle.upp_curve.specs.Curves.{IsCurve}
use Rattle.min_plus.specs.Functions.{IsNonnegative, zero_q}
use Rattle.subadd_closure.specs.Thinned.{AreThinnable}

-- past 0 the convolution of f and g is finite
abbrev pub ConvolvesFinitely : (ℚ → Ext) → (ℚ → Ext) → Type 0
ConvolvesFinitely f g = (t : ℚ) (v : Ext) → zero_q <ℚ t → IsConvolution f g t v → v ≢ Inf

-- a curve in normal form with the value v at 0 and the values of g at later times; no limit is asked of it
abbrev pub StartsAt : ℚ → SpecCurve → Result SpecCurve OpFault → Type 0
StartsAt v g (Ok h) =
    IsCurve h × (value_at h zero_q ≡ Fin v) × ((t : ℚ) → zero_q <ℚ t → value_at h t ≡ value_at g t)
StartsAt v g (Err fault) = fault ≡ NoMemory

-- h is v at 0, and at later times the convolution of f and g
abbrev pub ConvolvesPastZero : SpecCurve → SpecCurve → ℚ → SpecCurve → Type 0
ConvolvesPastZero f g v h =
    (value_at h zero_q ≡ Fin v)
    × ((t : ℚ) → zero_q <ℚ t → IsConvolution (value_at f) (value_at g) t (value_at h t))

-- ---- two curves whose convolution is taken so: nowhere below 0, finite past 0, and with elements that may be left out
pub record AreConvolvedLast (f g : SpecCurve) : Type 0 where
  pub first : IsNonnegative (value_at f)
  pub second : IsNonnegative (value_at g)
  pub finite : ConvolvesFinitely (value_at f) (value_at g)
  pub thin : AreThinnable f g
