-- Starts that are looked at one after another: what the next one owes to the one before. Own choice.
use Rattle.std.specs.Prelude.{◌≡◌, pos, List, Option, Some, None}
use Rattle.rational.specs.Rational.{ℚ, ◌<ℚ◌, int}
use Rattle.upp_curve.specs.declared.affine_segment.line.Piece.{Piece}
use Rattle.upp_curve.specs.affine_segment.Pieces.{RisesFrom, StartsAtZero}

-- a start may come after the one before; the first is 0
abbrev pub Follows : Option ℚ → ℚ → Type 0
Follows None x = x ≡ int (pos 0)
Follows (Some y) x = y <ℚ x

-- the starts that are left come one after another, and after the one before
abbrev pub GoOn : Option ℚ → List Piece → Type 0
GoOn None ps = StartsAtZero ps
GoOn (Some y) ps = RisesFrom y ps
