-- The gap of two values, the larger of two gaps, and the steps to them.
use Rattle.std.specs.Prelude.{Option, Some, None}
use Rattle.rational.specs.Rational.{ℚ, ◌-ℚ◌, ◌≤ℚ◌, neg_ℚ}
use Rattle.rational.specs.MinMax.{max_q, min_q}
use Rattle.rational.specs.Ratio.{SumFits}
use Rattle.rational.specs.Grid.{Whole, Within}
use Rattle.rational.specs.Extended.{Ext}
use Rattle.rational.specs.declared.Extended.TheVariants.{Fin, Inf}
use Rattle.upp_curve.specs.declared.affine_segment.line.Line.{Line}
use Rattle.upp_curve.specs.affine_segment.Values.{line_value}
use Rattle.upp_curve.specs.affine_segment.Fits.{LineFitsAt}
use Rattle.upp_normal.specs.declared.ahead.Stretch.{Stretch}
use Rattle.upp_limits.specs.Limits.{Sizes}
use Rattle.upp_limits.specs.Sized.{grid_of, times_largest}
use Rattle.upp_normal.specs.Operand.{AreLimited, OperandLineAt}
use Rattle.upp_normal.specs.Ahead.{IsTimeIn, GridValue}
use Rattle.curve_call.specs.declared.gaps.Gap.{Gap}
use Rattle.curve_call.specs.declared.gaps.Gap.TheVariants.{NoTime, Never, Is}

-- by how much x is above y
abbrev pub gap_of : Ext → Ext → Gap
gap_of x Inf = NoTime
gap_of Inf (Fin y) = Never
gap_of (Fin x) (Fin y) = Is (x -ℚ y)

-- the larger of two gaps
abbrev pub larger : Gap → Gap → Gap
larger NoTime b = b
larger Never b = Never
larger (Is x) NoTime = Is x
larger (Is x) Never = Never
larger (Is x) (Is y) = Is (max_q x y)

-- the difference of two values fits
abbrev pub DifferenceFits : Ext → Ext → Type 0
DifferenceFits x Inf = Unit {0}
DifferenceFits Inf (Fin y) = Unit {0}
DifferenceFits (Fin x) (Fin y) = SumFits x (neg_ℚ y)

-- by how much one stretch is above another from t up to `end`: where they start, after that, and before the end
abbrev pub gap_along : Stretch → Stretch → ℚ → ℚ → Gap
gap_along f g t end = larger (gap_of f.at g.at) (larger (gap_of (line_value f.line t) (line_value g.line t)) (gap_of (line_value f.line end) (line_value g.line end)))

-- two lines have a value at t, and its difference fits
pub record LineGapFits (l m : Option Line) (t : ℚ) : Type 0 where
  pub first : LineFitsAt t l
  pub second : LineFitsAt t m
  pub gap : DifferenceFits (line_value l t) (line_value m t)

-- the steps to it fit
pub record GapFits (f g : Stretch) (t end : ℚ) : Type 0 where
  pub start : DifferenceFits f.at g.at
  pub after : LineGapFits f.line g.line t
  pub before : LineGapFits f.line g.line end

-- a time is not past another that may be missing
abbrev pub IsUntil : ℚ → Option ℚ → Type 0
IsUntil t None = Unit {0}
IsUntil t (Some e) = t ≤ℚ e

-- the value and the line of a stretch have the sizes z
pub record StretchStands (z : Sizes) (s : Stretch) : Type 0 where
  pub at : GridValue z s.at
  pub line : OperandLineAt z s.line

-- the earlier of a time and another that may be missing
abbrev pub earlier_of : ℚ → Option ℚ → ℚ
earlier_of t None = t
earlier_of t (Some e) = min_q t e

-- what a gap of values of two operands is: on the grid of sums, within six times the largest value
pub record IsGapValue (z : Sizes) (q : ℚ) : Type 0 where
  pub whole : Whole (grid_of z) q
  pub within : Within (times_largest 6 z) q

abbrev pub GapStands : Sizes → Gap → Type 0
GapStands z NoTime = Unit {0}
GapStands z Never = Unit {0}
GapStands z (Is q) = IsGapValue z q

-- what is needed of both stretches from t on, up to `end`
pub record StretchSizes (z : Sizes) (last : ℚ) (f g : Stretch) (t end : ℚ) : Type 0 where
  pub limited : AreLimited z last
  pub first : StretchStands z f
  pub second : StretchStands z g
  pub time : IsTimeIn z last t
  pub whole : Whole z.dt end
  pub high : end ≤ℚ last
