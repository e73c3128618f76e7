-- Two windows of which one alone needs copies at its starts, and of those only at such as no level line follows. (Le Boudec and
-- Thiran, chapter 3, on functions of bounded slope; the law is our own choice.)
use Rattle.std.specs.Prelude.{◌≡◌, ◌⊎◌, pos, List, [], ◌∷◌, Option, Some, None}
use Rattle.rational.specs.Rational.{ℚ, ◌≤ℚ◌, int}
use Rattle.rational.specs.Extended.{Ext, ◌≤ₑ◌, min_ext}
use Rattle.rational.specs.declared.Extended.TheVariants.{Fin}
use Rattle.upp_curve.specs.declared.affine_segment.line.Line.{Line}
use Rattle.upp_curve.specs.declared.affine_segment.line.Piece.{Piece}
use Rattle.upp_curve.specs.affine_segment.Pieces.{Each, StartsAtZero}
use Rattle.upp_curve.specs.affine_segment.Reading.{read}
use Rattle.upp_curve.specs.affine_segment.Values.{line_at}
use Rattle.upp_curve.specs.Shapes.{LineRises}
use Rattle.min_plus.specs.Convolution.{IsConvolution}
use Rattle.element_envelope.specs.Copies.{IsLeastCopy, LowAtStarts}
use Rattle.element_envelope.specs.NearStarts.{RisesWithin, IsWithout}

-- a piece starts no lower than the line before it gets to, where there is one
abbrev pub IsReached : Option Line → Piece → Type 0
IsReached None p = Unit {0}
IsReached (Some l) p = Fin (line_at l p.x) ≤ₑ p.at

-- no line falls, and no piece starts below the line before it: that before the first is `before`
abbrev pub NeverFalls : Option Line → List Piece → Type 0
NeverFalls before [] = Unit {0}
NeverFalls before (p ∷ ps) = IsReached before p × LineRises p.line × NeverFalls p.line ps

-- a line does not rise, or rises by r at least
abbrev pub IsApart : ℚ → Option Line → Type 0
IsApart r None = Unit {0}
IsApart r (Some l) = (l.slope ≤ℚ int (pos 0)) ⊎ (r ≤ℚ l.slope)

-- g never falls and gains at most some slope; the lines of f do not rise, or by that slope at least; and ks are the starts of f
-- but for such as go on from their value, with no jump up, with a line that does not rise
pub record IsOneSided (f g ks : List Piece) : Type 0 where
  pub slope : ℚ
  pub within : Each (RisesWithin slope) g
  pub rising : NeverFalls None g
  pub apart : Each (λ p. IsApart slope p.line) f
  pub starts : IsWithout (RisesWithin (int (pos 0))) f ks

-- then the lesser of the copies of g at those starts, and of that of f at the first start of g, is the convolution
abbrev pub OneSideSuffices : Type 0
OneSideSuffices =
    (f g ks rest : List Piece) (p : Piece) (t : ℚ) (v w : Ext) → StartsAtZero f → StartsAtZero g → LowAtStarts f → LowAtStarts g
    → IsOneSided f g ks → g ≡ p ∷ rest → int (pos 0) ≤ℚ t → IsLeastCopy ks g t v → IsLeastCopy (p ∷ []) f t w
    → IsConvolution (read f) (read g) t (min_ext v w)
