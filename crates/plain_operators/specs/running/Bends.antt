-- What a scan makes of one stretch: the line just after its start, and where another line takes over. Own choice.
use Rattle.std.specs.Prelude.{◌≡◌, List, [], ◌∷◌, Option, Some, None}
use Rattle.rational.specs.Rational.{ℚ, ◌<ℚ◌}
use Rattle.rational.specs.MinMax.{min_q, max_q}
use Rattle.rational.specs.declared.Extended.TheVariants.{Fin}
use Rattle.upp_curve.specs.declared.affine_segment.line.Line.{Line}
use Rattle.upp_curve.specs.declared.affine_segment.line.Piece.{Piece}
use Rattle.upp_curve.specs.affine_segment.Values.{line_at, line_value}

-- the greatest of a level and of a line's limits at x and at t
abbrev pub risen : ℚ → Line → ℚ → ℚ → ℚ
risen level l x t = max_q level (max_q (line_at l x) (line_at l t))

-- the least of a level and of a line's limits at t and at e
abbrev pub sunk : ℚ → Line → ℚ → ℚ → ℚ
sunk level l e t = min_q level (min_q (line_at l t) (line_at l e))

-- between `from` and `to` a line that may be missing is m
abbrev pub IsOn : (ℚ → ℚ) → ℚ → ℚ → Option Line → Type 0
IsOn m from to l = (t : ℚ) → from <ℚ t → t <ℚ to → line_value l t ≡ Fin (m t)

-- from the start of q on it goes on with q
pub record TakesOver (m : ℚ → ℚ) (from to : ℚ) (line : Line) (q : Piece) : Type 0 where
  pub past : from <ℚ q.x
  pub early : q.x <ℚ to
  pub first : IsOn m from q.x (Some line)
  pub at : q.at ≡ Fin (m q.x)
  pub second : IsOn m q.x to q.line

abbrev pub Follows : (ℚ → ℚ) → ℚ → ℚ → Line → Option Piece → Type 0
Follows m from to line None = IsOn m from to (Some line)
Follows m from to line (Some q) = TakesOver m from to line q

-- the pieces of a stretch that starts at x with the value v
abbrev pub bent : ℚ → ℚ → Line → Option Piece → List Piece
bent x v line None = record { x = x; at = Fin v; line = Some line } ∷ []
bent x v line (Some q) = record { x = x; at = Fin v; line = Some line } ∷ q ∷ []

-- the same, the last first
abbrev pub bent_back : ℚ → ℚ → Line → Option Piece → List Piece
bent_back x v line None = record { x = x; at = Fin v; line = Some line } ∷ []
bent_back x v line (Some q) = q ∷ record { x = x; at = Fin v; line = Some line } ∷ []
