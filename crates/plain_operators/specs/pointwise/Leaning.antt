-- Lines that a function lies under, or over, over some times. (Le Boudec and Thiran: a curve that repeats lies between two
-- lines of its rate.)
use Rattle.std.specs.Prelude.{◌≡◌, ℕ}
use Rattle.rational.specs.Rational.{ℚ, ◌+ℚ◌, ◌*ℚ◌, ◌≤ℚ◌}
use Rattle.rational.specs.Grid.{Whole}
use Rattle.rational.specs.Extended.{Ext, ◌≤ₑ◌}
use Rattle.rational.specs.declared.Extended.TheVariants.{Fin}
use Rattle.upp_curve.specs.Curve.{SpecCurve, value_at}
use Rattle.upp_curve.specs.Steady.{rate}
use Rattle.upp_limits.specs.Limits.{Sizes}
use Rattle.upp_normal.specs.Ahead.{TimesStand, HasWindow, IsTimeIn}
use Rattle.curve_call.specs.Gaps.{InWindow}
use Rattle.curve_call.specs.Bounds.{own_or}
use Rattle.plain_operators.specs.declared.pointwise.leaning.Lines.{Lines}
use Rattle.plain_operators.specs.declared.pointwise.leaning.Reached.{Reached}

-- from `from` up to `end` f is nowhere above the line of slope r that is k at time 0
abbrev pub IsUnder : (ℚ → Ext) → ℚ → ℚ → ℚ → ℚ → Type 0
IsUnder f from end r k = (t : ℚ) → InWindow from end t → f t ≤ₑ Fin (k +ℚ r *ℚ t)

-- nowhere below it
abbrev pub IsOver : (ℚ → Ext) → ℚ → ℚ → ℚ → ℚ → Type 0
IsOver f from end r k = (t : ℚ) → InWindow from end t → Fin (k +ℚ r *ℚ t) ≤ₑ f t

-- a curve whose numbers up to `end` have some sizes, and a time before that
abbrev pub IsSpan : SpecCurve → ℚ → ℚ → Type 0
IsSpan c from end = (z : Sizes) × HasWindow z end c × IsTimeIn z end from

-- a time from `from` up to `end`, on each grid of these and the curve
pub record IsOnWay (c : SpecCurve) (from end t : ℚ) : Type 0 where
  pub late : from ≤ℚ t
  pub most : t ≤ℚ end
  pub grid : (n : ℕ) → TimesStand n c → Whole n from → Whole n end → Whole n t

-- the times before s.until were looked at
pub record IsUnderUntil (c : SpecCurve) (from end r : ℚ) (s : Reached) : Type 0 where
  pub way : IsOnWay c from end s.until
  pub line : IsUnder (value_at c) from s.until r s.icept

pub record IsOverUntil (c : SpecCurve) (from end r : ℚ) (s : Reached) : Type 0 where
  pub way : IsOnWay c from end s.until
  pub line : IsOver (value_at c) from s.until r s.icept

-- from `from` on, for a period of their own, two curves lie under and over lines of their rates
pub record AreOwnLines (slow fast : SpecCurve) (from d : ℚ) (l : Lines) : Type 0 where
  pub low_rate : rate slow ≡ Fin l.low.slope
  pub high_rate : rate fast ≡ Fin l.high.slope
  pub under : IsUnder (value_at slow) from (from +ℚ own_or d slow) l.low.slope l.low.icept
  pub over : IsOver (value_at fast) from (from +ℚ own_or d fast) l.high.slope l.high.icept
