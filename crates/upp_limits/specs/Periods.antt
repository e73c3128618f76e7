-- The periods of curves: a curve's own, and the common one of two. Own choice.
use Rattle.std.specs.Prelude.{ℕ, pos, Option, Some, None}
use Rattle.rational.specs.Rational.{ℚ, ◌+ℚ◌, ◌*ℚ◌, ◌<ℚ◌, int}
use Rattle.rational.specs.MinMax.{max_q}
use Rattle.fraction128.specs.Multiple.{common_multiple}
use Rattle.upp_curve.specs.declared.curve.Tail.{Tail}
use Rattle.upp_curve.specs.declared.curve.Tail.TheVariants.{Periodic, Affine, Infinite}
use Rattle.upp_curve.specs.Curve.{SpecCurve}
use Rattle.upp_curve.specs.Steady.{steady}

abbrev pub period_of : Tail → Option ℚ
period_of (Periodic rank period rise) = Some period
period_of (Affine rank) = None
period_of (Infinite rank) = None

abbrev pub common_of : Option ℚ → Option ℚ → ℚ
common_of None None = int (pos 1)
common_of None (Some q) = q
common_of (Some p) None = p
common_of (Some p) (Some q) = common_multiple p q

-- the least common multiple of the two periods; the other's period where one curve has every period, and 1 where both
-- have
unfoldable pub common_period : SpecCurve → SpecCurve → ℚ
common_period f g = common_of (period_of f.tail) (period_of g.tail)

-- the period of a curve, and 1 where it has every period
unfoldable pub own_period : SpecCurve → ℚ
own_period f = common_of (period_of f.tail) None

-- the period of f, and d where f has every period
abbrev pub period_or : ℚ → Option ℚ → ℚ
period_or d None = d
period_or d (Some p) = p

-- from when on both repeat
abbrev pub both_steady : SpecCurve → SpecCurve → ℚ
both_steady f g = max_q (steady f) (steady g)

-- n times d after t
abbrev pub periods_after : ℚ → ℕ → ℚ → ℚ
periods_after t n d = t +ℚ int (pos n) *ℚ d

-- from when on f and g, moved right by theta, both repeat
abbrev pub moved_steady : SpecCurve → SpecCurve → ℚ → ℚ
moved_steady f g theta = max_q (steady f) (steady g +ℚ theta)

-- a period is above 0
abbrev pub HasPeriod : Tail → Type 0
HasPeriod (Periodic rank period rise) = int (pos 0) <ℚ period
HasPeriod (Affine rank) = Unit {0}
HasPeriod (Infinite rank) = Unit {0}
