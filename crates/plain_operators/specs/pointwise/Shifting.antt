-- Pieces of a window read from a time on, and moved left by it. Own choice.
use Rattle.std.specs.Prelude.{List, ◌∷◌, map, Option, Some, None}
use Rattle.rational.specs.Rational.{ℚ, ◌-ℚ◌, ◌≤ℚ◌, neg_ℚ}
use Rattle.rational.specs.Ratio.{SumFits}
use Rattle.rational.specs.Extended.{Ext}
use Rattle.rational.specs.declared.Extended.TheVariants.{Fin, Inf}
use Rattle.upp_curve.specs.declared.affine_segment.line.Line.{Line}
use Rattle.upp_curve.specs.declared.affine_segment.line.Piece.{Piece}
use Rattle.upp_curve.specs.affine_segment.Values.{line_at}
use Rattle.min_plus.specs.Functions.{zero_q}
use Rattle.upp_curve.specs.affine_segment.Fits.{LineFitsAt}
use Rattle.upp_normal.specs.Normalising.{cut_at, past}

-- a line moved left by x
abbrev pub left_line : ℚ → Option Line → Option Line
left_line x None = None
left_line x (Some l) = Some record { icept = line_at l x; slope = l.slope }

abbrev pub left_piece : ℚ → Piece → Piece
left_piece x p = record { x = p.x -ℚ x; at = p.at; line = left_line x p.line }

-- what is read of p and the pieces after it from x on, moved left by x
abbrev pub moved_left : ℚ → Piece → List Piece → List Piece
moved_left x p ps = left_piece x (cut_at p ps x) ∷ map (left_piece x) (past x ps)

-- the steps of that fit
pub record LeftFits (x : ℚ) (p : Piece) : Type 0 where
  pub start : SumFits p.x (neg_ℚ x)
  pub line : LineFitsAt x p.line

-- a time from 0 on; it may be infinite
abbrev pub IsAhead : Ext → Type 0
IsAhead Inf = Unit {0}
IsAhead (Fin x) = zero_q ≤ℚ x
