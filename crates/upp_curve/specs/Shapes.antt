-- When pieces are finite and when they rise, by what is read of each. Own choice.
use Rattle.std.specs.Prelude.{List, [], ◌∷◌, Option, Some, None}
use Rattle.rational.specs.Rational.{ℚ, ◌≤ℚ◌}
use Rattle.rational.specs.Extended.{Ext, ◌≤ₑ◌}
use Rattle.rational.specs.declared.Extended.TheVariants.{Fin, Inf}
use Rattle.upp_curve.specs.declared.affine_segment.line.Line.{Line}
use Rattle.upp_curve.specs.declared.affine_segment.line.Piece.{Piece}
use Rattle.upp_curve.specs.affine_segment.Values.{line_value}
use Rattle.upp_curve.specs.declared.shape.End.{End}
use Rattle.min_plus.specs.Functions.{zero_q}

-- ---- finite
abbrev pub IsNumber : Ext → Type 0
IsNumber Inf = ⊥
IsNumber (Fin v) = Unit {0}

abbrev pub IsLine : Option Line → Type 0
IsLine None = ⊥
IsLine (Some l) = Unit {0}

-- the piece has a number at its start and a line after it
pub record IsFinitePiece (p : Piece) : Type 0 where
  pub at : IsNumber p.at
  pub line : IsLine p.line

-- ---- rising
abbrev pub LineRises : Option Line → Type 0
LineRises None = Unit {0}
LineRises (Some l) = zero_q ≤ℚ l.slope

-- up to the end of its stretch a line comes no higher than the value there
abbrev pub EndsBelow : Option Line → Option End → Type 0
EndsBelow l None = Unit {0}
EndsBelow l (Some e) = line_value l e.x ≤ₑ e.at

-- the line starts no lower than the piece's value, never falls, and ends no higher than what comes next
pub record PieceRises (p : Piece) (next : Option End) : Type 0 where
  pub first : p.at ≤ₑ line_value p.line p.x
  pub slope : LineRises p.line
  pub last : EndsBelow p.line next

-- where the first of some pieces starts, and with what value; `end` where there is none
abbrev pub end_before : List Piece → Option End → Option End
end_before [] end = end
end_before (q ∷ qs) end = Some record { x = q.x; at = q.at }

-- each piece rises to the next, and the last to `end`
abbrev pub PiecesRise : Option End → List Piece → Type 0
PiecesRise end [] = Unit {0}
PiecesRise end (p ∷ ps) = PieceRises p (end_before ps end) × PiecesRise end ps

-- where the last stretch ends, as a time
abbrev pub end_time : Option End → Option ℚ
end_time None = None
end_time (Some e) = Some e.x
