-- How a curve goes on from a time: its value there, the line that follows, and until when. Own choice.
use Rattle.std.specs.Prelude.{◌≡◌, ℕ, pos, Option, Some, None}
use Rattle.rational.specs.Rational.{ℚ, ◌+ℚ◌, ◌≤ℚ◌, ◌<ℚ◌, int}
use Rattle.rational.specs.Grid.{Whole, Within}
use Rattle.rational.specs.Extended.{Ext}
use Rattle.rational.specs.declared.Extended.TheVariants.{Fin, Inf}
use Rattle.upp_curve.specs.affine_segment.Values.{line_value}
use Rattle.upp_normal.specs.declared.ahead.Stretch.{Stretch}
use Rattle.upp_curve.specs.declared.curve.Tail.{Tail}
use Rattle.upp_curve.specs.declared.curve.Tail.TheVariants.{Periodic, Affine, Infinite}
use Rattle.upp_curve.specs.Curve.{SpecCurve}
use Rattle.upp_curve.specs.Curves.{IsCurve}
use Rattle.upp_curve.specs.affine_segment.Pieces.{Each}
use Rattle.upp_curve.specs.Steady.{rank_of}
use Rattle.upp_limits.specs.Periods.{period_of}
use Rattle.upp_limits.specs.Limits.{Sizes, curve_numbers}
use Rattle.upp_limits.specs.Sized.{Stands, grid_of, times_largest}
use Rattle.upp_normal.specs.Operand.{AreLimited}

-- u is before a time; where there is no such time, always
abbrev pub IsBeforeNext : ℚ → Option ℚ → Type 0
IsBeforeNext u None = Unit {0}
IsBeforeNext u (Some e) = u <ℚ e

-- f has the value at t, and then goes on with the line up to the next time
pub record GoesOn (f : ℚ → Ext) (t : ℚ) (s : Stretch) : Type 0 where
  pub at : s.at ≡ f t
  pub line : (u : ℚ) → t <ℚ u → IsBeforeNext u s.next → f u ≡ line_value s.line u
  pub next : IsBeforeNext t s.next

-- ---- the pieces
-- P of a time that may be missing
abbrev pub AtNext : (ℚ → Type 0) → Option ℚ → Type 0
AtNext P None = Unit {0}
AtNext P (Some e) = P e

-- ---- the grids
-- the rank, the period and all starts of a curve are whole multiples of 1 / d
pub record TimesStand (d : ℕ) (c : SpecCurve) : Type 0 where
  pub rank : Whole d (rank_of c.tail)
  pub period : AtNext (Whole d) (period_of c.tail)
  pub starts : Each (λ p. Whole d p.x) c.pieces

-- by `end` all pieces that are kept have started, and a first period is over
abbrev pub IsOverBy : ℚ → Tail → Type 0
IsOverBy end (Periodic rank period rise) = rank +ℚ period ≤ℚ end
IsOverBy end (Affine rank) = rank <ℚ end
IsOverBy end (Infinite rank) = rank <ℚ end

-- a curve whose numbers up to `end` have the sizes z
pub record HasWindow (z : Sizes) (end : ℚ) (c : SpecCurve) : Type 0 where
  pub curve : IsCurve c
  pub limited : AreLimited z end
  pub stands : Stands z (curve_numbers end c)
  pub over : IsOverBy end c.tail

-- a time of the window, on its grid
pub record IsTimeIn (z : Sizes) (end t : ℚ) : Type 0 where
  pub whole : Whole z.dt t
  pub nonneg : int (pos 0) ≤ℚ t
  pub before : t <ℚ end

-- a value at such a time
pub record IsGridValue (z : Sizes) (v : ℚ) : Type 0 where
  pub whole : Whole (grid_of z) v
  pub within : Within (times_largest 3 z) v

abbrev pub GridValue : Sizes → Ext → Type 0
GridValue z Inf = Unit {0}
GridValue z (Fin v) = IsGridValue z v

-- a value on the grid of sums, within k times the largest value
pub record AnswerValue (z : Sizes) (k : ℕ) (v : ℚ) : Type 0 where
  pub whole : Whole (grid_of z) v
  pub within : Within (times_largest k z) v
