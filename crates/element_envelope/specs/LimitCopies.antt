-- Pieces with the limit after, or before, each start in place of the value there; and what a convolution is made of with
-- them. (Bouillard, Boyer and Le Corronc: the convolution of piecewise linear functions; the law is our own choice.)
use Rattle.std.specs.Prelude.{pos, List, [], ◌∷◌, Option, None}
use Rattle.rational.specs.Rational.{ℚ, ◌≤ℚ◌, int}
use Rattle.rational.specs.Extended.{Ext, min_ext}
use Rattle.upp_curve.specs.declared.affine_segment.line.Line.{Line}
use Rattle.upp_curve.specs.declared.affine_segment.line.Piece.{Piece}
use Rattle.upp_curve.specs.affine_segment.Pieces.{StartsAtZero}
use Rattle.upp_curve.specs.affine_segment.Reading.{read}
use Rattle.upp_curve.specs.affine_segment.Values.{line_value}
use Rattle.min_plus.specs.Convolution.{IsConvolution}
use Rattle.element_envelope.specs.Copies.{IsLeastCopy}

-- the limit after each start
abbrev pub afters : List Piece → List Piece
afters [] = []
afters (p ∷ ps) = record { x = p.x; at = line_value p.line p.x; line = p.line } ∷ afters ps

-- the limit before each start: that before the first is of the line `before`
abbrev pub befores_from : Option Line → List Piece → List Piece
befores_from before [] = []
befores_from before (p ∷ ps) = record { x = p.x; at = line_value before p.x; line = p.line } ∷ befores_from p.line ps

abbrev pub befores : List Piece → List Piece
befores ps = befores_from None ps

-- the least of the copies of each of two at the starts of the other
pub record AreLeastBoth (f g : List Piece) (t : ℚ) (v w : Ext) : Type 0 where
  pub first : IsLeastCopy f g t v
  pub second : IsLeastCopy g f t w

-- of any two functions the convolution is the least of the copies of each at the starts of the other, by their values,
-- by the limits before a start of the one and after a time of the other, and by those after and before
abbrev pub LimitsSuffice : Type 0
LimitsSuffice =
    (f g : List Piece) (t : ℚ) (a b c d e h : Ext) → StartsAtZero f → StartsAtZero g → int (pos 0) ≤ℚ t
    → AreLeastBoth f g t a b → AreLeastBoth (befores f) (afters g) t c d → AreLeastBoth (afters f) (befores g) t e h
    → IsConvolution (read f) (read g) t (min_ext (min_ext a b) (min_ext (min_ext c d) (min_ext e h)))
