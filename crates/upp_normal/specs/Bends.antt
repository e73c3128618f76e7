-- Pieces of which each start is on the grid of times, or a bend: all bends turn one way. So crossings of lines may be
-- starts, and yet no period that is shorter than all distances of the grid is hidden. Own choice.
use Rattle.std.specs.Prelude.{◌≡◌, ℕ, Bool, true, false, List, [], ◌∷◌, Option, Some, None, ◌⊎◌}
use Rattle.rational.specs.Rational.{◌<ℚ◌}
use Rattle.rational.specs.Grid.{Whole}
use Rattle.rational.specs.Extended.{Ext}
use Rattle.rational.specs.declared.Extended.TheVariants.{Fin, Inf}
use Rattle.upp_curve.specs.declared.affine_segment.line.Line.{Line}
use Rattle.upp_curve.specs.declared.affine_segment.line.Piece.{Piece}

-- ---- numbers on the grids: slopes on 1 / S, values on 1 / D
abbrev pub ValueOn : ℕ → Ext → Type 0
ValueOn D Inf = Unit {0}
ValueOn D (Fin v) = Whole D v

abbrev pub LineOn : ℕ → ℕ → Option Line → Type 0
LineOn S D None = Unit {0}
LineOn S D (Some l) = Whole D l.icept × Whole S l.slope

-- a piece's line, and its value where it has no line
pub record NumbersOn (S D : ℕ) (p : Piece) : Type 0 where
  pub line : LineOn S D p.line
  pub at : p.line ≡ None → ValueOn D p.at

-- ---- bends
-- the slope rises from one line to the next (true), or falls (false)
abbrev pub SlopeTurns : Bool → Option Line → Option Line → Type 0
SlopeTurns rises None m = ⊥
SlopeTurns rises (Some l) None = ⊥
SlopeTurns true (Some l) (Some m) = l.slope <ℚ m.slope
SlopeTurns false (Some l) (Some m) = m.slope <ℚ l.slope

-- after p, each start is on 1 / T, or the slope rises there (true), or falls there (false)
abbrev pub BendAfter : Bool → (T S D : ℕ) → Piece → List Piece → Type 0
BendAfter rises T S D p [] = Unit {0}
BendAfter rises T S D p (q ∷ qs) = (Whole T q.x ⊎ SlopeTurns rises p.line q.line) × NumbersOn S D q
    × BendAfter rises T S D q qs

abbrev pub OnlyBend : Bool → (T S D : ℕ) → List Piece → Type 0
OnlyBend rises T S D [] = Unit {0}
OnlyBend rises T S D (p ∷ ps) = NumbersOn S D p × BendAfter rises T S D p ps
