-- The lower of two windows of any pieces, where the steps of each stretch fit. Own choice.
use Rattle.std.specs.Prelude.{◌≡◌, ◌+◌, ◌*◌, ◌≤◌, ◌⊎◌, Bool, pos, List, length, Option, Some}
use Rattle.rational.specs.Rational.{ℚ, ◌≤ℚ◌, ◌<ℚ◌, int}
use Rattle.rational.specs.Extended.{min_ext}
use Rattle.upp_curve.specs.declared.affine_segment.line.Line.{Line}
use Rattle.upp_curve.specs.declared.affine_segment.line.Piece.{Piece}
use Rattle.upp_curve.specs.affine_segment.Values.{line_value}
use Rattle.upp_curve.specs.affine_segment.Reading.{read}
use Rattle.upp_curve.specs.affine_segment.Pieces.{Each, StartsAtZero}
use Rattle.upp_curve.specs.affine_segment.Fits.{LineFitsAt}
use Rattle.curve_call.specs.declared.stretch.Both.{Both}
use Rattle.curve_call.specs.Stretches.{IsBothOf}
use Rattle.curve_call.specs.Lies.{CrossesAt, CrossFits}
use Rattle.curve_call.specs.Made.{zero_line, line_apart, ValueApartFits, LineApartFits}

-- ---- steps that fit
-- those of the values at x of two lines, of the first less the second, and of the line of 0
pub record LinesFitAt (x : ℚ) (l m : Option Line) : Type 0 where
  pub left : LineFitsAt x l
  pub right : LineFitsAt x m
  pub apart : LineFitsAt x (line_apart l m)
  pub zero : LineFitsAt x (Some zero_line)

-- a stretch starts before the end; the differences of its values and of its lines fit, the time at which these meet,
-- and their values there
pub record LowerStepsFit (end : ℚ) (b : Both) : Type 0 where
  pub early : b.left.x <ℚ end
  pub value : ValueApartFits b.left.at b.right.at
  pub line : LineApartFits b.left.line b.right.line
  pub cross : CrossFits b.left.line b.right.line
  pub turn : (rises : Bool) (x : ℚ) → CrossesAt rises b.left.line b.right.line x → b.left.x <ℚ x → x <ℚ end
      → LinesFitAt x b.left.line b.right.line

-- so for each stretch of both windows
abbrev pub LowerFits : ℚ → List Piece → List Piece → Type 0
LowerFits end f g = (b : Both) → IsBothOf f g b → LowerStepsFit end b

-- ---- a piece of the lower
-- it begins a stretch
pub record BeginsStretch (b : Both) (p : Piece) : Type 0 where
  pub start : p.x ≡ b.left.x
  pub at : p.at ≡ min_ext b.left.at b.right.at

-- it begins where the lines of a stretch change places
pub record TurnsStretch (end : ℚ) (b : Both) (p : Piece) : Type 0 where
  pub rises : Bool
  pub crosses : CrossesAt rises b.left.line b.right.line p.x
  pub past : b.left.x <ℚ p.x
  pub before : p.x <ℚ end
  pub at : p.at ≡ line_value p.line p.x

-- and goes on with one of the two lines
pub record IsLowerPiece (f g : List Piece) (end : ℚ) (p : Piece) : Type 0 where
  pub both : Both
  pub of : IsBothOf f g both
  pub place : BeginsStretch both p ⊎ TurnsStretch end both p
  pub line : (p.line ≡ both.left.line) ⊎ (p.line ≡ both.right.line)

-- before `end` the pieces ps, from 0 on, read as the lesser of the readings of f and g
pub record IsLowerOf (f g : List Piece) (end : ℚ) (ps : List Piece) : Type 0 where
  pub starts : StartsAtZero ps
  pub reads : (t : ℚ) → int (pos 0) ≤ℚ t → t <ℚ end → read ps t ≡ min_ext (read f t) (read g t)
  pub early : Each (λ p. p.x <ℚ end) ps
  pub each : Each (IsLowerPiece f g end) ps
  pub count : length ps ≤ 2 * (length f + length g)
