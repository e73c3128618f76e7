-- Pieces that join without a jump. Own choice.
use Rattle.std.specs.Prelude.{◌≡◌, List, [], ◌∷◌, Option, Some, None}
use Rattle.upp_curve.specs.declared.affine_segment.line.Line.{Line}
use Rattle.upp_curve.specs.declared.affine_segment.line.Piece.{Piece}
use Rattle.upp_curve.specs.affine_segment.Values.{line_value}
use Rattle.upp_curve.specs.declared.shape.End.{End}
use Rattle.upp_curve.specs.Shapes.{end_before}

abbrev pub EndsAtValue : Option Line → Option End → Type 0
EndsAtValue l None = Unit {0}
EndsAtValue l (Some e) = line_value l e.x ≡ e.at

-- the line begins at the piece's value and ends at the value of what comes next
pub record PieceJoins (p : Piece) (next : Option End) : Type 0 where
  pub first : line_value p.line p.x ≡ p.at
  pub last : EndsAtValue p.line next

-- each piece joins the next, and the last `end`
abbrev pub PiecesJoin : Option End → List Piece → Type 0
PiecesJoin end [] = Unit {0}
PiecesJoin end (p ∷ ps) = PieceJoins p (end_before ps end) × PiecesJoin end ps
