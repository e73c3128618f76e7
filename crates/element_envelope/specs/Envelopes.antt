-- The least of what the pairs of two lists of elements make. (Bouillard, Boyer and Le Corronc: the convolution of two
-- functions is the least of those of their elementary functions.)
use Rattle.std.specs.Prelude.{List}
use Rattle.rational.specs.Rational.{ℚ, ◌+ℚ◌, ◌≤ℚ◌}
use Rattle.rational.specs.Extended.{Ext}
use Rattle.rational.specs.Bounds.{IsInfimum}
use Rattle.upp_curve.specs.declared.affine_segment.element.Element.{Element}
use Rattle.upp_curve.specs.affine_segment.Elements.{PairSplit, pair_sum, start_of}
use Rattle.element_envelope.specs.PieceElements.{Among}

-- a split of t into a time of an element of the one list and a time of an element of the other
pub record ListSplit (xs ys : List Element) (t : ℚ) : Type 0 where
  pub left : Element
  pub right : Element
  pub left_in : Among left xs
  pub right_in : Among right ys
  pub split : PairSplit left right t

-- the sum of their values there
abbrev pub list_sum : (xs ys : List Element) (t : ℚ) → ListSplit xs ys t → Ext
list_sum xs ys t s = pair_sum s.left s.right t s.split

-- v is the infimum of the sums over all splits of t
abbrev pub IsEnvelope : List Element → List Element → ℚ → Ext → Type 0
IsEnvelope xs ys t v = IsInfimum (list_sum xs ys t) v

-- no two of them start together before `end`
abbrev pub StartLate : List Element → List Element → ℚ → Type 0
StartLate xs ys end = (x y : Element) → Among x xs → Among y ys → end ≤ℚ start_of x +ℚ start_of y
