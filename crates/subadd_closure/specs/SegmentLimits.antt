-- The limits of a segment's operator, as the code tests them. Own choice.
use Rattle.std.specs.Prelude.{◌≡◌, ℕ, ◌+◌, ◌*◌, ◌^◌, ◌<◌, ◌≤◌, Option, Some, None}
use Rattle.rational.specs.Rational.{ℚ, ◌-ℚ◌, ◌/ℚ◌, neg_ℚ}
use Rattle.rational.specs.Ratio.{IsSmall, SumFits}
use Rattle.rational.specs.Extended.{Ext}
use Rattle.upp_curve.specs.declared.affine_segment.line.Line.{Line}
use Rattle.upp_curve.specs.declared.affine_segment.element.Element.{Element}
use Rattle.upp_curve.specs.declared.affine_segment.element.Element.TheVariants.{Open}
use Rattle.upp_limits.specs.declared.op_kind.OpFault.{OpFault}
use Rattle.upp_limits.specs.declared.op_kind.OpFault.TheVariants.{TooMany, TooWide, NoMemory}
use Rattle.upp_curve.specs.Curve.{SpecCurve}
use Rattle.upp_limits.specs.Limits.{own_gauge}
use Rattle.subadd_closure.specs.ElementCurves.{IsStretch}
use Rattle.subadd_closure.specs.Folds.{segment_number, SegmentWithin}
use Rattle.element_envelope.specs.PieceElements.{elements_of, Among}
use Rattle.subadd_closure.specs.CurveParts.{pieces_end}

-- e is a point or an open segment of f
abbrev pub IsElementOf : SpecCurve → Element → Type 0
IsElementOf f e = Among e (elements_of f.pieces (pieces_end f.tail))

-- the gauge of f by itself, where that is below 2 ^ 120
abbrev pub IsOwnGauge : SpecCurve → Option ℕ → Type 0
IsOwnGauge f None = 2 ^ 120 ≤ own_gauge f
IsOwnGauge f (Some k) = (k ≡ own_gauge f) × (own_gauge f < 2 ^ 120)

-- the length from a up to b, and how often it goes into a, fit
pub record LengthsFit (a b : ℚ) : Type 0 where
  pub gap : SumFits b (neg_ℚ a)
  pub quotient : IsSmall (a /ℚ (b -ℚ a))

-- n times the gauge is 2 ^ 120 or more; or it is below that, and n is above 2 ^ 19
abbrev pub IsOverLimit : ℕ → ℕ → OpFault → Type 0
IsOverLimit gauge n TooMany = (n * gauge < 2 ^ 120) × (2 ^ 19 < n)
IsOverLimit gauge n TooWide = 2 ^ 120 ≤ n * gauge
IsOverLimit gauge n NoMemory = ⊥

-- the operator of the segment is over no limit, and m of the stretches of its sums end before the next begins
pub record IsOverlap (f : SpecCurve) (a : ℚ) (b : Ext) (l : Line) (m : ℕ) : Type 0 where
  pub within : SegmentWithin f (segment_number (Open a b l))
  pub stretch : IsStretch a b m
  pub few : m + 3 ≤ 2 ^ 19
