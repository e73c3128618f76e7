-- Steps that fit: a piece moved in time and height, and what is read of pieces. Own choice.
use Rattle.std.specs.Prelude.{Option, Some, None}
use Rattle.rational.specs.Rational.{ℚ, ◌+ℚ◌, ◌*ℚ◌, neg_ℚ}
use Rattle.rational.specs.Ratio.{IsSmall, SumFits}
use Rattle.upp_curve.specs.declared.affine_segment.line.Line.{Line}
use Rattle.upp_curve.specs.declared.affine_segment.line.Piece.{Piece}
use Rattle.upp_curve.specs.Readable.{SumFitsAt}

-- the value at 0 of a line moved by `by` and `rise`: icept + rise - slope by
pub record MoveFits (by rise : ℚ) (l : Line) : Type 0 where
  pub risen : SumFits l.icept rise
  pub back : IsSmall (l.slope *ℚ by)
  pub moved : SumFits (l.icept +ℚ rise) (neg_ℚ (l.slope *ℚ by))

abbrev pub LineLaterFits : ℚ → ℚ → Option Line → Type 0
LineLaterFits by rise None = Unit {0}
LineLaterFits by rise (Some l) = MoveFits by rise l

-- the piece `by` later and `rise` higher
pub record LaterFits (by rise : ℚ) (p : Piece) : Type 0 where
  pub start : SumFits p.x by
  pub at : SumFitsAt p.at rise
  pub line : LineLaterFits by rise p.line
