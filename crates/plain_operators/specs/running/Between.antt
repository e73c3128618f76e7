-- The supremum of a window between two times, piece by piece; nowhere below 0, so that 0 may stand for nothing seen.
-- Own choice.
use Rattle.std.specs.Prelude.{◌≡◌, List, pos, ◌⊎◌}
use Rattle.rational.specs.Rational.{ℚ, ◌≤ℚ◌, ◌<ℚ◌, int}
use Rattle.rational.specs.Extended.{Ext, ◌≤ₑ◌, ◌<ₑ◌}
use Rattle.rational.specs.declared.Extended.TheVariants.{Fin}
use Rattle.upp_curve.specs.declared.affine_segment.line.Line.{Line}
use Rattle.upp_curve.specs.declared.affine_segment.line.Piece.{Piece}
use Rattle.upp_curve.specs.affine_segment.Values.{line_at}
use Rattle.upp_curve.specs.affine_segment.Fits.{LineFits}
use Rattle.plain_operators.specs.running.Scans.{IsLevel, HasLine}

-- each line is readable at both times
abbrev pub FitsAtBoth : ℚ → ℚ → List Piece → Type 0
FitsAtBoth from to ps = (l : Line) → HasLine l ps → LineFits from l × LineFits to l

-- v is 0, or the value or a limit of a piece, or a line's value at one of both times
abbrev pub IsLevelBetween : ℚ → ℚ → ℚ → List Piece → ℚ → Type 0
IsLevelBetween end from to ps v =
    (v ≡ int (pos 0)) ⊎ (IsLevel end ps v ⊎ ((l : Line) × HasLine l ps × ((v ≡ line_at l from) ⊎ (v ≡ line_at l to))))

-- a time of both stretches, [low, high) and [from, to), at which f is above y
pub record Above (f : ℚ → Ext) (low high from to y : ℚ) : Type 0 where
  pub at : ℚ
  pub late : low ≤ℚ at
  pub soon : at <ℚ high
  pub least : from ≤ℚ at
  pub early : at <ℚ to
  pub more : Fin y <ₑ f at

-- of the times in both f is nowhere above h, and above each number from 0 on that is below h
pub record IsHighestIn (f : ℚ → Ext) (low high from to h : ℚ) : Type 0 where
  pub above : (t : ℚ) → low ≤ℚ t → t <ℚ high → from ≤ℚ t → t <ℚ to → f t ≤ₑ Fin h
  pub near : (y : ℚ) → y <ℚ h → (y <ℚ int (pos 0)) ⊎ Above f low high from to y
