-- Which steps are made to write out a curve's periods below a time, and when they all fit. Own choice.
use Rattle.std.specs.Prelude.{ℕ, ◌<◌, ◌^◌, pos, List}
use Rattle.rational.specs.Rational.{ℚ, ◌+ℚ◌, ◌-ℚ◌, ◌*ℚ◌, ◌<ℚ◌, int, neg_ℚ}
use Rattle.rational.specs.Ratio.{IsSmall, SumFits}
use Rattle.upp_curve.specs.declared.affine_segment.line.Piece.{Piece}
use Rattle.upp_curve.specs.Curve.{SpecCurve}
use Rattle.upp_curve.specs.affine_segment.Pieces.{Each}
use Rattle.upp_curve.specs.Unrolled.{from}
use Rattle.upp_curve.specs.Fitting.{LaterFits}
use Rattle.upp_limits.specs.Limits.{Sizes, curve_numbers}
use Rattle.upp_limits.specs.Sized.{Stands}
use Rattle.upp_normal.specs.Operand.{AreLimited}

-- the n-th copies of the pieces of a period, those that start before `end`: n times the period and the rise, what is
-- left to the end, and each copy's own steps
pub record TurnFits (n : ℕ) (period rise end : ℚ) (turn : List Piece) : Type 0 where
  pub number : n < 2 ^ 127
  pub by : IsSmall (int (pos n) *ℚ period)
  pub height : IsSmall (int (pos n) *ℚ rise)
  pub left : SumFits end (neg_ℚ (int (pos n) *ℚ period))
  pub copies : Each
      (λ p. p.x <ℚ end -ℚ int (pos n) *ℚ period → LaterFits (int (pos n) *ℚ period) (int (pos n) *ℚ rise) p) turn

-- each copy of the pieces from the rank on that begins before `end`
abbrev pub TurnsFit : List Piece → ℚ → ℚ → ℚ → ℚ → Type 0
TurnsFit ps rank period rise end = (n : ℕ) → rank +ℚ int (pos n) *ℚ period <ℚ end
    → TurnFits n period rise end (from rank ps)

-- some sizes of a gauge below 2 ^ 120, for a window that ends at `end`, hold the numbers of the curve in it
pub record IsOperandTo (end : ℚ) (c : SpecCurve) : Type 0 where
  pub sizes : Sizes
  pub limited : AreLimited sizes end
  pub stands : Stands sizes (curve_numbers end c)
