-- Two windows read together: at each start of either, both are cut, so that up to the next one each goes on with one
-- line. A window is a list of pieces from 0 on, read up to some end. Own choice.
use Rattle.std.specs.Prelude.{◌≡◌, ◌+◌, ◌≤◌, pos, List, [], ◌∷◌, length, ◌⊎◌}
use Rattle.rational.specs.Rational.{ℚ, ◌≤ℚ◌, int}
use Rattle.upp_curve.specs.declared.affine_segment.line.Piece.{Piece}
use Rattle.upp_curve.specs.affine_segment.Values.{line_value}
use Rattle.upp_curve.specs.affine_segment.Reading.{read, line_in}
use Rattle.upp_curve.specs.affine_segment.Pieces.{HasStart, StartsAtZero}
use Rattle.upp_curve.specs.affine_segment.Fits.{LineFitsAt}
use Rattle.curve_call.specs.declared.stretch.Both.{Both}

-- a piece cut at x: from there on it goes on with its line
abbrev pub cut_at : Piece → ℚ → Piece
cut_at p x = record { x = x; at = line_value p.line x; line = p.line }

abbrev pub lefts : List Both → List Piece
lefts [] = []
lefts (b ∷ bs) = b.left ∷ lefts bs

abbrev pub rights : List Both → List Piece
rights [] = []
rights (b ∷ bs) = b.right ∷ rights bs

-- P holds of each stretch
abbrev pub EachBoth : (Both → Type 0) → List Both → Type 0
EachBoth P [] = Unit {0}
EachBoth P (b ∷ bs) = P b × EachBoth P bs

abbrev pub StartTogether : Both → Type 0
StartTogether b = b.left.x ≡ b.right.x

-- a piece with the value and the line of f at its start
pub record IsPieceOf (f : List Piece) (p : Piece) : Type 0 where
  pub at : p.at ≡ read f p.x
  pub line : p.line ≡ line_in f p.x

-- both pieces of a stretch start where a piece of f or of g does, and are read from f and from g
pub record IsBothOf (f g : List Piece) (b : Both) : Type 0 where
  pub together : b.left.x ≡ b.right.x
  pub start : HasStart b.left.x f ⊎ HasStart b.left.x g
  pub left : IsPieceOf f b.left
  pub right : IsPieceOf g b.right

-- the left pieces read as f at each time from 0 on, and the right ones as g
pub record IsOverlay (f g : List Piece) (bs : List Both) : Type 0 where
  pub starts : StartsAtZero (lefts bs)
  pub left : (t : ℚ) → int (pos 0) ≤ℚ t → read (lefts bs) t ≡ read f t
  pub right : (t : ℚ) → int (pos 0) ≤ℚ t → read (rights bs) t ≡ read g t
  pub each : EachBoth (IsBothOf f g) bs
  pub count : length bs ≤ length f + length g

-- the steps that cut f at the starts of g, and g at the starts of f, fit
pub record CutsFit (f g : List Piece) : Type 0 where
  pub left : (x : ℚ) → HasStart x g → LineFitsAt x (line_in f x)
  pub right : (x : ℚ) → HasStart x f → LineFitsAt x (line_in g x)
