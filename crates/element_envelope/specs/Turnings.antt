-- The starts at which pieces bend downwards: they need no copy. (Bouillard, Boyer and Le Corronc: the convolution of
-- piecewise linear functions; the law is our own choice.)
use Rattle.std.specs.Prelude.{◌≡◌, ◌⊎◌, pos, List, [], ◌∷◌, Option, Some, None}
use Rattle.rational.specs.Rational.{ℚ, ◌≤ℚ◌, ◌<ℚ◌, int}
use Rattle.rational.specs.Extended.{Ext, min_ext}
use Rattle.rational.specs.declared.Extended.TheVariants.{Fin}
use Rattle.upp_curve.specs.declared.affine_segment.line.Line.{Line}
use Rattle.upp_curve.specs.declared.affine_segment.line.Piece.{Piece}
use Rattle.upp_curve.specs.affine_segment.Pieces.{StartsAtZero}
use Rattle.upp_curve.specs.affine_segment.Reading.{read}
use Rattle.upp_curve.specs.affine_segment.Values.{line_at}
use Rattle.min_plus.specs.Convolution.{IsConvolution}
use Rattle.element_envelope.specs.Copies.{IsLeastCopy, LowAtStarts}
use Rattle.element_envelope.specs.CopyWindows.{IsCopyWindow}

-- a piece continues the line before it, with a smaller slope
pub record BendsDown (before : Option Line) (p : Piece) : Type 0 where
  pub first : Line
  pub second : Line
  pub before_is : before ≡ Some first
  pub line_is : p.line ≡ Some second
  pub left : p.at ≡ Fin (line_at first p.x)
  pub right : p.at ≡ Fin (line_at second p.x)
  pub down : second.slope <ℚ first.slope

-- some pieces, with none left out but such as bend down: before the first is the line `before`
abbrev pub IsThinned : Option Line → List Piece → List Piece → Type 0
IsThinned before [] qs = qs ≡ []
IsThinned before (p ∷ ps) qs =
    (BendsDown before p × IsThinned p.line ps qs) ⊎ ((rs : List Piece) × (qs ≡ p ∷ rs) × IsThinned p.line ps rs)

-- of two functions that are at each start at most the limits beside it, the lesser of the copies of each at those
-- starts of the other that are left is the convolution
abbrev pub TurnsSuffice : Type 0
TurnsSuffice =
    (f g left right : List Piece) (t : ℚ) (v w : Ext) → StartsAtZero f → StartsAtZero g → LowAtStarts f → LowAtStarts g
    → IsThinned None f left → IsThinned None g right → int (pos 0) ≤ℚ t → IsLeastCopy left g t v
    → IsLeastCopy right f t w → IsConvolution (read f) (read g) t (min_ext v w)

-- pieces that read as the least of the copies of g at those starts of f that are left
pub record AreCopies (from end : ℚ) (f g ws : List Piece) : Type 0 where
  pub starts : List Piece
  pub is : IsThinned None f starts
  pub window : IsCopyWindow from end starts g ws
