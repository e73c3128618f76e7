-- What a service leaves on each stretch: the difference of the two lines, and at the start of a stretch the excess of
-- the two values. No line is infinity, and where the second is infinite nothing is left. (The residual service of first
-- in, first out, Le Boudec and Thiran, chapter 6; the pieces are our own choice.)
use Rattle.upp_curve.specs.declared.affine_segment.line.Piece.{Piece}
use Rattle.min_plus.specs.Pointwise.{excess}
use Rattle.curve_call.specs.declared.stretch.Both.{Both}
use Rattle.curve_call.specs.Made.{line_apart, ValueApartFits, LineApartFits}

abbrev pub left_piece : Both → Piece
left_piece b = record { x = b.left.x; at = excess b.left.at b.right.at; line = line_apart b.left.line b.right.line }

-- the steps to it fit
pub record StretchLeftFits (b : Both) : Type 0 where
  pub value : ValueApartFits b.left.at b.right.at
  pub line : LineApartFits b.left.line b.right.line
