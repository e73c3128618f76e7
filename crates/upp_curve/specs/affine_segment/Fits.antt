-- Which steps fit where a line, or the pieces that it is one of, are read at a time. Own choice.
use Rattle.std.specs.Prelude.{List, [], ◌∷◌, Option, Some, None}
use Rattle.rational.specs.Rational.{ℚ, ◌*ℚ◌, ◌<ℚ◌}
use Rattle.rational.specs.Ratio.{IsSmall, SumFits}
use Rattle.upp_curve.specs.declared.affine_segment.line.Line.{Line}
use Rattle.upp_curve.specs.declared.affine_segment.line.Piece.{Piece}
use Rattle.upp_curve.specs.affine_segment.Reading.{piece_in}

-- the steps of the line's value at x fit
pub record LineFits (x : ℚ) (l : Line) : Type 0 where
  pub product : IsSmall (l.slope *ℚ x)
  pub sum : SumFits l.icept (l.slope *ℚ x)

abbrev pub LineFitsAt : ℚ → Option Line → Type 0
LineFitsAt x None = Unit {0}
LineFitsAt x (Some l) = LineFits x l

-- the value that is read at t
abbrev pub ReadFits : List Piece → ℚ → Type 0
ReadFits [] t = Unit {0}
ReadFits (p ∷ ps) t = (piece_in p ps t).x <ℚ t → LineFitsAt t (piece_in p ps t).line
