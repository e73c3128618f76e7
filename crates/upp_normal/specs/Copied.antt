-- A time past the rank of a periodic tail as one of the first period, and the steps that a line makes to the period of
-- the time. Own choice.
use Rattle.std.specs.Prelude.{◌≡◌, pos, Option, Some, None}
use Rattle.rational.specs.Rational.{ℚ, ◌-ℚ◌, ◌*ℚ◌, int}
use Rattle.rational.specs.Ratio.{IsSmall, SumFits}
use Rattle.rational.specs.Whole.{periods}
use Rattle.upp_curve.specs.declared.affine_segment.line.Line.{Line}
use Rattle.upp_normal.specs.declared.ahead.Turn.{Turn}
use Rattle.upp_curve.specs.Fitting.{MoveFits}

-- as many whole periods are taken off as lie between the rank and t
pub record TakesPeriodsOff (rank period t : ℚ) (turn : Turn) : Type 0 where
  pub count : turn.n ≡ int (pos (periods rank period t))
  pub by : turn.by ≡ turn.n *ℚ period
  pub early : turn.early ≡ t -ℚ turn.by

-- the steps to a line `by` later and n times the rise higher
pub record RiseSteps (by n rise : ℚ) (l : Line) : Type 0 where
  pub product : IsSmall (n *ℚ rise)
  pub moved : MoveFits by (n *ℚ rise) l

abbrev pub LineRises : Option Line → ℚ → ℚ → ℚ → Type 0
LineRises None by n rise = Unit {0}
LineRises (Some l) by n rise = RiseSteps by n rise l

-- a time that may be missing can be moved
abbrev pub NextMoves : ℚ → Option ℚ → Type 0
NextMoves by None = Unit {0}
NextMoves by (Some e) = SumFits e by
