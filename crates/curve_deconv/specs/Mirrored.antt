-- Pieces with minus their values, and mirrored in time: what is at t comes to stand at a time `reach` less t. (The
-- deconvolution is, but for the sign, a convolution with the second mirrored: Bouillard, Boyer and Le Corronc. The form
-- is own choice.)
use Rattle.std.specs.Prelude.{List, [], ◌∷◌, ◌++◌, Option, Some, None}
use Rattle.rational.specs.Rational.{ℚ, ◌-ℚ◌, neg_ℚ}
use Rattle.rational.specs.Ratio.{SumFits}
use Rattle.rational.specs.Extended.{Ext}
use Rattle.rational.specs.declared.Extended.TheVariants.{Fin, Inf}
use Rattle.upp_curve.specs.declared.affine_segment.line.Line.{Line}
use Rattle.upp_curve.specs.declared.affine_segment.line.Piece.{Piece}
use Rattle.upp_curve.specs.affine_segment.Values.{line_at}
use Rattle.upp_curve.specs.affine_segment.Fits.{LineFitsAt}
use Rattle.upp_curve.specs.affine_segment.Pieces.{Each}

-- ---- minus the values; infinity stays
abbrev pub neg_ext : Ext → Ext
neg_ext Inf = Inf
neg_ext (Fin v) = Fin (neg_ℚ v)

abbrev pub neg_line : Line → Line
neg_line l = record { icept = neg_ℚ l.icept; slope = neg_ℚ l.slope }

abbrev pub neg_option : Option Line → Option Line
neg_option None = None
neg_option (Some l) = Some (neg_line l)

abbrev pub neg_piece : Piece → Piece
neg_piece p = record { x = p.x; at = neg_ext p.at; line = neg_option p.line }

-- ---- mirrored
abbrev pub mirror_line : ℚ → Line → Line
mirror_line reach l = record { icept = line_at l reach; slope = neg_ℚ l.slope }

abbrev pub mirror_option : ℚ → Option Line → Option Line
mirror_option reach None = None
mirror_option reach (Some l) = Some (mirror_line reach l)

-- what comes to stand where something ends: the value there, and the line before it
abbrev pub mirror_piece : ℚ → ℚ → Ext → Option Line → Piece
mirror_piece reach until at line = record { x = reach -ℚ until; at = at; line = mirror_option reach line }

-- where the first of some pieces starts, and its value there; `reach` and the value there where there is none
abbrev pub first_start : ℚ → List Piece → ℚ
first_start reach [] = reach
first_start reach (p ∷ ps) = p.x

abbrev pub first_at : Ext → List Piece → Ext
first_at at [] = at
first_at at (p ∷ ps) = p.at

-- the lines of some pieces, each with the value where it ends
abbrev pub back_pieces : ℚ → Ext → List Piece → List Piece
back_pieces reach at [] = []
back_pieces reach at (p ∷ ps) =
    back_pieces reach at ps ++ (mirror_piece reach (first_start reach ps) (first_at at ps) p.line ∷ [])

-- and the value where the first starts: all of what they read before `reach`, and the value at `reach`
abbrev pub mirror_pieces : ℚ → Ext → List Piece → List Piece
mirror_pieces reach at ps =
    back_pieces reach at ps ++ (mirror_piece reach (first_start reach ps) (first_at at ps) None ∷ [])

-- ---- steps that fit
pub record IsMirrorable (reach : ℚ) (p : Piece) : Type 0 where
  pub start : SumFits reach (neg_ℚ p.x)
  pub line : LineFitsAt reach p.line

pub record AreMirrorable (reach : ℚ) (ps : List Piece) : Type 0 where
  pub last : SumFits reach (neg_ℚ reach)
  pub each : Each (IsMirrorable reach) ps
