-- The least bucket of a rate above a curve.
use Rattle.std.specs.Prelude.{Result, Ok, Err}
use Rattle.rational.specs.Rational.{ℚ, ◌≤ℚ◌}
use Rattle.rational.specs.Extended.{Ext, ◌≤ₑ◌}
use Rattle.rational.specs.declared.Extended.TheVariants.{Fin}
use Rattle.min_plus.specs.Functions.{zero_q, IsFinite}
use Rattle.min_plus.specs.Formulas.{bucket_value}
use Rattle.upp_curve.specs.Curve.{SpecCurve}
use Rattle.upp_curve.specs.Kinds.{bucket}
use Rattle.upp_limits.specs.declared.op_kind.OpKind.TheVariants.{Vertical}
use Rattle.upp_limits.specs.declared.op_kind.OpFault.{OpFault}
use Rattle.upp_limits.specs.declared.op_kind.OpFault.TheVariants.{TooMany, TooWide, NoMemory}
use Rattle.upp_limits.specs.Gauges.{IsTooMany, IsTooWide}
use Rattle.upp_limits.specs.Outcome.{IsWithin}

-- the curve has a number at each time, and some number is above them all
pub record IsBounded (f : ℚ → Ext) : Type 0 where
  pub finite : IsFinite f
  pub most : ℚ
  pub above : (t : ℚ) → zero_q ≤ℚ t → f t ≤ₑ Fin most

-- the bucket of this burst and rate is nowhere below the curve
abbrev pub IsAbove : (ℚ → Ext) → ℚ → ℚ → Type 0
IsAbove f burst rate = (t : ℚ) → zero_q ≤ℚ t → f t ≤ₑ bucket_value burst rate t

-- and no bucket of the rate with a smaller burst is
pub record IsLeastBurst (f : ℚ → Ext) (rate burst : ℚ) : Type 0 where
  pub above : IsAbove f burst rate
  pub least : (b : ℚ) → IsAbove f b rate → burst ≤ℚ b

-- the limits of the vertical deviation of the curve and the line of the rate; of want of memory nothing is said
abbrev pub KeepsBurstLimits : SpecCurve → ℚ → Result ℚ OpFault → Type 0
KeepsBurstLimits f rate (Ok burst) = IsWithin Vertical f (bucket zero_q rate)
KeepsBurstLimits f rate (Err TooMany) = IsTooMany Vertical f (bucket zero_q rate)
KeepsBurstLimits f rate (Err TooWide) = IsTooWide Vertical f (bucket zero_q rate)
KeepsBurstLimits f rate (Err NoMemory) = Unit {0}
