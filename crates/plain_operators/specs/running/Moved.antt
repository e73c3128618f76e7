-- Pieces moved right by a time, and infinite up to it: of a cross arrival curve that is served some time later. Own
-- choice.
use Rattle.std.specs.Prelude.{cond, List, [], ◌∷◌, ◌++◌, map, Option, Some, None}
use Rattle.rational.specs.Rational.{ℚ, ◌+ℚ◌, ◌-ℚ◌, ◌*ℚ◌, neg_ℚ, lt_q}
use Rattle.rational.specs.Ratio.{IsSmall, SumFits}
use Rattle.rational.specs.declared.Extended.TheVariants.{Inf}
use Rattle.upp_curve.specs.declared.affine_segment.line.Line.{Line}
use Rattle.upp_curve.specs.declared.affine_segment.line.Piece.{Piece}
use Rattle.min_plus.specs.Functions.{zero_q}
use Rattle.upp_curve.specs.Unrolled.{upto}

abbrev pub moved_line : ℚ → Option Line → Option Line
moved_line theta None = None
moved_line theta (Some l) = Some record { icept = l.icept -ℚ l.slope *ℚ theta; slope = l.slope }

-- the value at 0 gives way to infinity
abbrev pub moved_piece : ℚ → Piece → Piece
moved_piece theta p = record { x = p.x +ℚ theta; at = cond (lt_q zero_q p.x) p.at Inf; line = moved_line theta p.line }

-- infinity before theta
abbrev pub silence : ℚ → List Piece
silence theta = cond (lt_q zero_q theta) (record { x = zero_q; at = Inf; line = None } ∷ []) []

-- the moved pieces that start before `end`
abbrev pub moved_right : ℚ → ℚ → List Piece → List Piece
moved_right theta end ps = silence theta ++ upto end (map (moved_piece theta) ps)

-- ---- steps that fit
pub record LineMovesBy (theta : ℚ) (l : Line) : Type 0 where
  pub run : IsSmall (l.slope *ℚ theta)
  pub icept : SumFits l.icept (neg_ℚ (l.slope *ℚ theta))

abbrev pub LineMoves : ℚ → Option Line → Type 0
LineMoves theta None = Unit {0}
LineMoves theta (Some l) = LineMovesBy theta l

pub record PieceMoves (theta : ℚ) (p : Piece) : Type 0 where
  pub start : SumFits p.x theta
  pub line : LineMoves theta p.line
