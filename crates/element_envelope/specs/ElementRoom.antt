-- Where the elements of an operand's window stand, and where what two of them make stands. Own choice.
use Rattle.std.specs.Prelude.{pos, Option, Some, None}
use Rattle.rational.specs.Rational.{ℚ, ◌+ℚ◌, ◌≤ℚ◌, int}
use Rattle.rational.specs.Extended.{Ext}
use Rattle.rational.specs.declared.Extended.TheVariants.{Fin, Inf}
use Rattle.rational.specs.Grid.{Whole, Within}
use Rattle.upp_curve.specs.declared.affine_segment.line.Line.{Line}
use Rattle.upp_curve.specs.declared.affine_segment.element.Element.{Element}
use Rattle.upp_curve.specs.declared.affine_segment.element.Element.TheVariants.{Point, Open}
use Rattle.upp_curve.specs.declared.affine_segment.element.Joined.{Joined}
use Rattle.upp_limits.specs.Limits.{Sizes}
use Rattle.upp_limits.specs.Sized.{IsSlope, grid_of, times_largest}
use Rattle.upp_normal.specs.Ahead.{IsGridValue}
use Rattle.upp_normal.specs.Operand.{AreLimited, OperandLine}

-- ---- of an operand
-- a time of the window, on the grid of times
pub record WindowTime (z : Sizes) (end t : ℚ) : Type 0 where
  pub whole : Whole z.dt t
  pub nonneg : int (pos 0) ≤ℚ t
  pub early : t ≤ℚ end

abbrev pub WindowEnd : Sizes → ℚ → Ext → Type 0
WindowEnd z end Inf = Unit {0}
WindowEnd z end (Fin t) = WindowTime z end t

pub record OperandPoint (z : Sizes) (end x v : ℚ) : Type 0 where
  pub time : WindowTime z end x
  pub value : IsGridValue z v

pub record OperandSegment (z : Sizes) (end from : ℚ) (to : Ext) (l : Line) : Type 0 where
  pub start : WindowTime z end from
  pub until : WindowEnd z end to
  pub line : OperandLine z l

abbrev pub OperandElement : Sizes → ℚ → Element → Type 0
OperandElement z end (Point x v) = OperandPoint z end x v
OperandElement z end (Open from to line) = OperandSegment z end from to line

-- ---- of what two of them make
-- a sum of two times of the window
pub record SumTime (z : Sizes) (end t : ℚ) : Type 0 where
  pub whole : Whole z.dt t
  pub nonneg : int (pos 0) ≤ℚ t
  pub early : t ≤ℚ end +ℚ end

abbrev pub SumEnd : Sizes → ℚ → Ext → Type 0
SumEnd z end Inf = Unit {0}
SumEnd z end (Fin t) = SumTime z end t

-- a value on the grid of sums, within six times the largest
pub record SumValue (z : Sizes) (v : ℚ) : Type 0 where
  pub whole : Whole (grid_of z) v
  pub within : Within (times_largest 6 z) v

-- a line of an operand's slope, its value at 0 on the grid of sums within six times the largest value
pub record SumLine (z : Sizes) (l : Line) : Type 0 where
  pub slope : IsSlope z l.slope
  pub icept : Whole (grid_of z) l.icept
  pub within : Within (times_largest 6 z) l.icept

pub record SumPoint (z : Sizes) (end x v : ℚ) : Type 0 where
  pub time : SumTime z end x
  pub value : SumValue z v

pub record SumSegment (z : Sizes) (end from : ℚ) (to : Ext) (l : Line) : Type 0 where
  pub start : SumTime z end from
  pub until : SumEnd z end to
  pub line : SumLine z l

abbrev pub SumElement : Sizes → ℚ → Element → Type 0
SumElement z end (Point x v) = SumPoint z end x v
SumElement z end (Open from to line) = SumSegment z end from to line

abbrev pub SumPart : Sizes → ℚ → Option Element → Type 0
SumPart z end None = Unit {0}
SumPart z end (Some e) = SumElement z end e

-- all parts stand so
pub record SumJoined (z : Sizes) (end : ℚ) (j : Joined) : Type 0 where
  pub first : SumElement z end j.first
  pub join : SumPart z end j.join
  pub second : SumPart z end j.second

-- two elements of operands of one call
pub record HaveRoom (a b : Element) : Type 0 where
  pub sizes : Sizes
  pub end : ℚ
  pub limited : AreLimited sizes end
  pub left : OperandElement sizes end a
  pub right : OperandElement sizes end b
