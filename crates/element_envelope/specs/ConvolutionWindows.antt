-- The convolution of two windows, as pieces: of two operands' windows, and of windows that are made of operands'. Own choice.
use Rattle.std.specs.Prelude.{pos, List}
use Rattle.rational.specs.Rational.{ℚ, ◌≤ℚ◌, ◌<ℚ◌, int}
use Rattle.upp_curve.specs.declared.affine_segment.line.Piece.{Piece}
use Rattle.min_plus.specs.Convolution.{IsConvolution}
use Rattle.upp_limits.specs.Limits.{Sizes}
use Rattle.upp_curve.specs.affine_segment.Pieces.{Each, StartsAtZero}
use Rattle.upp_normal.specs.Ahead.{GridValue}
use Rattle.upp_normal.specs.Operand.{AreLimited, OperandLineAt, OperandPieces}
use Rattle.upp_curve.specs.affine_segment.Reading.{read}
use Rattle.rational.specs.Grid.{Whole}
use Rattle.element_envelope.specs.ElementRoom.{WindowTime}
use Rattle.element_envelope.specs.SumWindows.{SumWindow}
use Rattle.element_envelope.specs.Arches.{Arches}

-- the unrolled pieces of two operands of one call, below the end of its window, which is after 0
pub record OperandWindows (end : ℚ) (f g : List Piece) : Type 0 where
  pub sizes : Sizes
  pub limited : AreLimited sizes end
  pub some : int (pos 0) <ℚ end
  pub left : OperandPieces sizes end f
  pub right : OperandPieces sizes end g

-- pieces from 0 on that read, before the end, as the convolution; they stand where what elements make stands, and bend
-- only downwards between the times of the grid
pub record IsConvolutionWindow (f g : List Piece) (end : ℚ) (ps : List Piece) : Type 0 where
  pub starts : StartsAtZero ps
  pub reads : (t : ℚ) → int (pos 0) ≤ℚ t → t <ℚ end → IsConvolution (read f) (read g) t (read ps t)
  pub stands : (r : OperandWindows end f g) → SumWindow r.sizes end ps
  pub arches : (r : OperandWindows end f g) → Arches r.sizes.dt end (read ps)

-- ---- windows that are made of operands'
-- a piece as an operand's, but for its value at the start: that stands where an operand's does at a time of the grid
pub record WindowPiece (z : Sizes) (end : ℚ) (p : Piece) : Type 0 where
  pub start : Whole z.dt p.x
  pub nonneg : int (pos 0) ≤ℚ p.x
  pub before : p.x <ℚ end
  pub at : GridValue z p.at
  pub line : OperandLineAt z p.line

pub record WindowPieces (z : Sizes) (end : ℚ) (ps : List Piece) : Type 0 where
  pub starts : StartsAtZero ps
  pub each : Each (WindowPiece z end) ps

-- two such windows of one call, which are convolved from a time of the grid on
pub record WindowsFrom (from end : ℚ) (f g : List Piece) : Type 0 where
  pub sizes : Sizes
  pub limited : AreLimited sizes end
  pub some : int (pos 0) <ℚ end
  pub late : WindowTime sizes end from
  pub left : WindowPieces sizes end f
  pub right : WindowPieces sizes end g

-- pieces from 0 on that read, from `from` on and before the end, as the convolution; they stand where what elements make
-- stands, and bend only downwards between the times of the grid
pub record IsConvolutionFrom (f g : List Piece) (from end : ℚ) (ps : List Piece) : Type 0 where
  pub starts : StartsAtZero ps
  pub reads : (t : ℚ) → int (pos 0) ≤ℚ t → from ≤ℚ t → t <ℚ end → IsConvolution (read f) (read g) t (read ps t)
  pub stands : (r : WindowsFrom from end f g) → SumWindow r.sizes end ps
  pub arches : (r : WindowsFrom from end f g) → Arches r.sizes.dt end (read ps)
