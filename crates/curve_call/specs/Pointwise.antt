-- Pieces made of stretches, one of each: of a sum, and of a difference.
use Rattle.std.specs.Prelude.{◌≡◌, ◌+◌, ◌≤◌, pos, length, List, [], ◌∷◌, Option, Some, None, ◌⊎◌}
use Rattle.rational.specs.Rational.{ℚ, ◌+ℚ◌, ◌≤ℚ◌, int}
use Rattle.rational.specs.Ratio.{SumFits}
use Rattle.rational.specs.Extended.{Ext, ◌+ₑ◌}
use Rattle.rational.specs.declared.Extended.TheVariants.{Fin, Inf}
use Rattle.upp_curve.specs.declared.affine_segment.line.Line.{Line}
use Rattle.upp_curve.specs.declared.affine_segment.line.Piece.{Piece}
use Rattle.upp_curve.specs.affine_segment.Reading.{read, line_in}
use Rattle.upp_curve.specs.affine_segment.Pieces.{Each, HasStart, StartsAtZero}
use Rattle.curve_call.specs.declared.stretch.Both.{Both}
use Rattle.curve_call.specs.Stretches.{IsBothOf}

-- one piece of each stretch
abbrev pub mapped : (Both → Piece) → List Both → List Piece
mapped m [] = []
mapped m (b ∷ bs) = m b ∷ mapped m bs

-- ---- sums
abbrev pub sum_line : Option Line → Option Line → Option Line
sum_line None m = None
sum_line (Some l) None = None
sum_line (Some l) (Some m) = Some record { icept = l.icept +ℚ m.icept; slope = l.slope +ℚ m.slope }

abbrev pub sum_piece : Both → Piece
sum_piece b = record { x = b.left.x; at = b.left.at +ₑ b.right.at; line = sum_line b.left.line b.right.line }

abbrev pub ValueSumFits : Ext → Ext → Type 0
ValueSumFits Inf w = Unit {0}
ValueSumFits (Fin v) Inf = Unit {0}
ValueSumFits (Fin v) (Fin w) = SumFits v w

abbrev pub LineSumFits : Option Line → Option Line → Type 0
LineSumFits None m = Unit {0}
LineSumFits (Some l) None = Unit {0}
LineSumFits (Some l) (Some m) = SumFits l.icept m.icept × SumFits l.slope m.slope

-- the steps of a stretch's sum fit
pub record StretchSumFits (b : Both) : Type 0 where
  pub value : ValueSumFits b.left.at b.right.at
  pub line : LineSumFits b.left.line b.right.line

-- the steps of the sum of two windows fit on each stretch
abbrev pub SumsFit : List Piece → List Piece → Type 0
SumsFit f g = (b : Both) → IsBothOf f g b → StretchSumFits b

-- a piece of the sum: it starts where a piece of f or of g does, with the sums of their values and of their lines there
pub record IsSumPiece (f g : List Piece) (p : Piece) : Type 0 where
  pub start : HasStart p.x f ⊎ HasStart p.x g
  pub at : p.at ≡ read f p.x +ₑ read g p.x
  pub line : p.line ≡ sum_line (line_in f p.x) (line_in g p.x)

-- pieces from 0 on that read as the sum, no more than both have
pub record IsWindowSum (f g ps : List Piece) : Type 0 where
  pub starts : StartsAtZero ps
  pub reads : (t : ℚ) → int (pos 0) ≤ℚ t → read ps t ≡ read f t +ₑ read g t
  pub each : Each (IsSumPiece f g) ps
  pub count : length ps ≤ length f + length g
