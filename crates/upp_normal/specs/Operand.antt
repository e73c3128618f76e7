-- Where the pieces of an operand stand that start in a call's window, and the room that the call's sizes give to its
-- answer. Own choice.
use Rattle.std.specs.Prelude.{◌*◌, ◌<◌, ◌^◌, pos, List, Option, Some, None}
use Rattle.rational.specs.Rational.{ℚ, ◌*ℚ◌, ◌≤ℚ◌, ◌<ℚ◌, int}
use Rattle.rational.specs.Grid.{Whole, Within}
use Rattle.upp_curve.specs.declared.affine_segment.line.Line.{Line}
use Rattle.upp_curve.specs.declared.affine_segment.line.Piece.{Piece}
use Rattle.upp_curve.specs.affine_segment.Pieces.{Each, StartsAtZero}
use Rattle.upp_limits.specs.Limits.{Sizes, gauge_of}
use Rattle.upp_limits.specs.Sized.{IsSlope, AreSizes, ValueStands, grid_of, times_largest}
use Rattle.upp_normal.specs.Room.{Room}

-- sizes of a gauge below 2 ^ 120, for a window that ends at `end`
pub record AreLimited (z : Sizes) (end : ℚ) : Type 0 where
  pub sizes : AreSizes z end
  pub gauge : gauge_of z < 2 ^ 120
  pub some : int (pos 0) ≤ℚ end

-- a line of an operand: its value at 0 stands on the grid of sums, within twice the largest value
pub record OperandLine (z : Sizes) (l : Line) : Type 0 where
  pub slope : IsSlope z l.slope
  pub icept : Whole (grid_of z) l.icept
  pub within : Within (times_largest 2 z) l.icept

abbrev pub OperandLineAt : Sizes → Option Line → Type 0
OperandLineAt z None = Unit {0}
OperandLineAt z (Some l) = OperandLine z l

-- a piece of an operand that starts before the end of the window
pub record OperandPiece (z : Sizes) (end : ℚ) (p : Piece) : Type 0 where
  pub start : Whole z.dt p.x
  pub nonneg : int (pos 0) ≤ℚ p.x
  pub before : p.x <ℚ end
  pub at : ValueStands z p.at
  pub line : OperandLineAt z p.line

-- the unrolled pieces of an operand below the end of the window
pub record OperandPieces (z : Sizes) (end : ℚ) (ps : List Piece) : Type 0 where
  pub starts : StartsAtZero ps
  pub each : Each (OperandPiece z end) ps

-- room for an answer: values up to eight times the largest, times up to three times the window's end
abbrev pub answer_room : Sizes → ℚ → Room
answer_room z end = record {
  times = z.dt;
  base = z.dv * z.dt;
  slopes = z.ds;
  largest = 8 * z.largest;
  end = int (pos 3) *ℚ end;
}
