-- Starts whose copies are nowhere below that of an earlier start: they need no copy. (Le Boudec and Thiran, chapter 3, on
-- functions of bounded slope; the form is our own choice.)
use Rattle.std.specs.Prelude.{◌≡◌, ◌⊎◌, List, [], ◌∷◌, Some}
use Rattle.rational.specs.Rational.{ℚ, ◌+ℚ◌, ◌-ℚ◌, ◌*ℚ◌, ◌≤ℚ◌, ◌<ℚ◌}
use Rattle.rational.specs.declared.Extended.TheVariants.{Fin}
use Rattle.upp_curve.specs.declared.affine_segment.line.Line.{Line}
use Rattle.upp_curve.specs.declared.affine_segment.line.Piece.{Piece}
use Rattle.upp_curve.specs.affine_segment.Values.{line_at}

-- a piece goes on from its value with no jump up, and with a slope of at most r
pub record RisesWithin (r : ℚ) (p : Piece) : Type 0 where
  pub line : Line
  pub line_is : p.line ≡ Some line
  pub value : ℚ
  pub at_is : p.at ≡ Fin value
  pub after : line_at line p.x ≤ℚ value
  pub slope : line.slope ≤ℚ r

-- the start of q is later than that of p, and higher by at least a and what the slope r gains in between
pub record IsFar (r a : ℚ) (p q : Piece) : Type 0 where
  pub first : ℚ
  pub second : ℚ
  pub first_is : p.at ≡ Fin first
  pub second_is : q.at ≡ Fin second
  pub late : p.x <ℚ q.x
  pub above : first +ℚ a +ℚ r *ℚ (q.x -ℚ p.x) ≤ℚ second

-- some pieces, with none left out but such of which P holds
abbrev pub IsWithout : (Piece → Type 0) → List Piece → List Piece → Type 0
IsWithout P [] ks = ks ≡ []
IsWithout P (q ∷ qs) ks = (P q × IsWithout P qs ks) ⊎ ((rs : List Piece) × (ks ≡ q ∷ rs) × IsWithout P qs rs)

-- some starts, with none left out but such as are far from p
abbrev pub IsNear : ℚ → ℚ → Piece → List Piece → List Piece → Type 0
IsNear r a p qs ks = IsWithout (IsFar r a p) qs ks
