-- Pieces one after another, in the order of their starts. (Bouillard, Boyer and Le Corronc: piecewise affine functions.)
use Rattle.std.specs.Prelude.{◌≡◌, pos, List, [], ◌∷◌, Option, Some, ◌⊎◌}
use Rattle.rational.specs.Rational.{ℚ, ◌<ℚ◌, int}
use Rattle.upp_curve.specs.declared.affine_segment.line.Piece.{Piece}

-- P holds of each piece
abbrev pub Each : (Piece → Type 0) → List Piece → Type 0
Each P [] = Unit {0}
Each P (p ∷ ps) = P p × Each P ps

-- some piece starts at x
abbrev pub HasStart : ℚ → List Piece → Type 0
HasStart x [] = ⊥
HasStart x (p ∷ ps) = (p.x ≡ x) ⊎ HasStart x ps

-- where the first of some pieces starts, and `end` where there is none
abbrev pub start_after : List Piece → Option ℚ → Option ℚ
start_after [] end = end
start_after (q ∷ qs) end = Some q.x

-- each start is past x and past those before it
abbrev pub RisesFrom : ℚ → List Piece → Type 0
RisesFrom x [] = Unit {0}
RisesFrom x (p ∷ ps) = (x <ℚ p.x) × RisesFrom p.x ps

-- pieces from 0 on
abbrev pub StartsAtZero : List Piece → Type 0
StartsAtZero [] = ⊥
StartsAtZero (p ∷ ps) = (p.x ≡ int (pos 0)) × RisesFrom p.x ps
