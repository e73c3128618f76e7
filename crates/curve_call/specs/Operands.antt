-- What is promised of the windows that are made of two operands' windows: of the lower, the upper, and what the first
-- has above the second. Own choice.
use Rattle.std.specs.Prelude.{◌≡◌, ◌+◌, ◌*◌, ◌≤◌, Bool, pos, List, length}
use Rattle.rational.specs.Rational.{ℚ, ◌≤ℚ◌, ◌<ℚ◌, int}
use Rattle.rational.specs.Extended.{Ext}
use Rattle.upp_curve.specs.declared.affine_segment.line.Piece.{Piece}
use Rattle.upp_curve.specs.affine_segment.Reading.{read}
use Rattle.upp_curve.specs.affine_segment.Pieces.{Each, StartsAtZero}
use Rattle.upp_limits.specs.Limits.{Sizes}
use Rattle.upp_limits.specs.Sized.{grid_of}
use Rattle.upp_normal.specs.Operand.{AreLimited, OperandPieces, answer_room}
use Rattle.upp_normal.specs.Room.{PieceHasRoom}
use Rattle.upp_normal.specs.Bends.{OnlyBend}

-- the unrolled pieces of two operands of one call, below the end of its window
pub record AreOperands (z : Sizes) (end : ℚ) (f g : List Piece) : Type 0 where
  pub limited : AreLimited z end
  pub left : OperandPieces z end f
  pub right : OperandPieces z end g

abbrev pub HaveSizes : ℚ → List Piece → List Piece → Type 0
HaveSizes end f g = (z : Sizes) × AreOperands z end f g

-- before `end` the pieces ps, from 0 on, read as `made` of the readings of f and g; with the call's sizes they have
-- room, and starts that are not on its grid of times are bends, where the slope rises (true), or falls (false); two
-- for each piece of f and g at most
pub record IsMadeOf (made : Ext → Ext → Ext) (rises : Bool) (f g : List Piece) (end : ℚ)
    (ps : List Piece) : Type 0 where
  pub starts : StartsAtZero ps
  pub reads : (t : ℚ) → int (pos 0) ≤ℚ t → t <ℚ end → read ps t ≡ made (read f t) (read g t)
  pub early : Each (λ p. p.x <ℚ end) ps
  pub room : (z : Sizes) → AreOperands z end f g → Each (PieceHasRoom (answer_room z end) 1) ps
  pub bends : (z : Sizes) → AreOperands z end f g → OnlyBend rises z.dt z.ds (grid_of z) ps
  pub count : length ps ≤ 2 * (length f + length g)
