-- One line, moved to each start of some pieces as high as they are there or beside it: the lowest of these as it runs on. With a window
-- of one line it is what a convolution needs of the other's starts. Own choice.
use Rattle.std.specs.Prelude.{◌≡◌, pos, List, [], ◌∷◌, Option, Some, None}
use Rattle.rational.specs.Rational.{ℚ, ◌+ℚ◌, ◌-ℚ◌, ◌*ℚ◌, ◌≤ℚ◌, int}
use Rattle.rational.specs.Extended.{Ext, ◌≤ₑ◌, min_ext}
use Rattle.rational.specs.declared.Extended.TheVariants.{Fin, Inf}
use Rattle.upp_curve.specs.declared.affine_segment.line.Line.{Line}
use Rattle.upp_curve.specs.declared.affine_segment.line.Piece.{Piece}
use Rattle.upp_curve.specs.affine_segment.Pieces.{Each, StartsAtZero}
use Rattle.upp_curve.specs.affine_segment.Reading.{read}
use Rattle.upp_curve.specs.affine_segment.Values.{line_at, line_value}
use Rattle.upp_curve.specs.Fitting.{MoveFits}
use Rattle.upp_limits.specs.Limits.{Sizes}
use Rattle.upp_normal.specs.Operand.{AreLimited, OperandLine, OperandLineAt}
use Rattle.min_plus.specs.Convolution.{IsConvolution}
use Rattle.element_envelope.specs.ConvolutionWindows.{WindowPiece}
use Rattle.element_envelope.specs.Copies.{IsLeastCopy}
use Rattle.element_envelope.specs.SumWindows.{SumLineAt}

-- ---- one line
-- what it is at 0 when it is moved x later and v higher
abbrev pub moved_to : Line → ℚ → Ext → Ext
moved_to l x Inf = Inf
moved_to l x (Fin v) = Fin (l.icept +ℚ v -ℚ l.slope *ℚ x)

-- and the steps of that fit
abbrev pub MovesTo : Line → ℚ → Ext → Type 0
MovesTo l x Inf = Unit {0}
MovesTo l x (Fin v) = MoveFits x v l

-- the line of a slope with this value at 0; none is infinity
abbrev pub line_from : ℚ → Ext → Option Line
line_from r Inf = None
line_from r (Fin c) = Some record { icept = c; slope = r }

-- ---- the lowest
-- at the start of q, by the lowest before it, the limit there of the line before it, and the value
abbrev pub reached : Line → Ext → Option Line → Piece → Ext
reached l low before q = min_ext low (min_ext (moved_to l q.x (line_value before q.x)) (moved_to l q.x q.at))

-- after it, by the lowest at the start and the limit after it
abbrev pub passed : Line → Ext → Piece → Ext
passed l low q = min_ext low (moved_to l q.x (line_value q.line q.x))

-- both as a piece
abbrev pub running_piece : Line → Ext → Option Line → Piece → Piece
running_piece l low before q = record {
  x = q.x;
  at = line_value (line_from l.slope (reached l low before q)) q.x;
  line = line_from l.slope (passed l (reached l low before q) q);
}

-- of pieces after such as have the lowest `low` and end with the line `before`
abbrev pub running : Line → Ext → Option Line → List Piece → List Piece
running l low before [] = []
running l low before (q ∷ qs) = running_piece l low before q ∷ running l (passed l (reached l low before q) q) q.line qs

-- ---- when it is the convolution
-- a piece goes on from its start, or from below it, with this line
pub record StartsBelow (l : Line) (p : Piece) : Type 0 where
  pub line_is : p.line ≡ Some l
  pub low : p.at ≤ₑ Fin (line_at l p.x)

-- pieces are such a one alone
pub record IsOneLine (l : Line) (g : List Piece) : Type 0 where
  pub piece : Piece
  pub is : g ≡ piece ∷ []
  pub starts : StartsBelow l piece

-- of such a piece from 0 on and of any pieces the convolution is the lesser of the lowest of the line and of the copy of the others at
-- its start
abbrev pub RunningSuffices : Type 0
RunningSuffices =
    (f : List Piece) (p : Piece) (l : Line) (t : ℚ) (w : Ext) → StartsAtZero f → p.x ≡ int (pos 0) → StartsBelow l p → int (pos 0) ≤ℚ t
    → IsLeastCopy (p ∷ []) f t w → IsConvolution (read f) (read (p ∷ [])) t (min_ext (read (running l Inf None f) t) w)

-- ---- as pieces
-- the sizes of one call hold the line and a window's pieces
pub record RunningRoom (end : ℚ) (l : Line) (ps : List Piece) : Type 0 where
  pub sizes : Sizes
  pub limited : AreLimited sizes end
  pub line : OperandLine sizes l
  pub each : Each (WindowPiece sizes end) ps

-- and the lowest before one of them, and the line before it
pub record StepRoom (end : ℚ) (l : Line) (low : Ext) (before : Option Line) (q : Piece) : Type 0 where
  pub sizes : Sizes
  pub limited : AreLimited sizes end
  pub line : OperandLine sizes l
  pub lowest : SumLineAt sizes (line_from l.slope low)
  pub ended : OperandLineAt sizes before
  pub piece : WindowPiece sizes end q
