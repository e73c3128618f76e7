-- From when on a curve repeats, by its values. (Bouillard, Boyer and Le Corronc: pseudo-periodic functions.)
use Rattle.std.specs.Prelude.{pos}
use Rattle.rational.specs.Rational.{ℚ, ◌≤ℚ◌, int}
use Rattle.upp_curve.specs.Curve.{SpecCurve, value_at}
use Rattle.upp_curve.specs.Steady.{IsWholePeriods, Repeats, rise_over}

-- from `from` on the value d later is higher by what the tail rises over d, for each d of whole periods
abbrev pub RepeatsFrom : SpecCurve → ℚ → Type 0
RepeatsFrom c from =
    (d : ℚ) → IsWholePeriods c.tail d → int (pos 0) ≤ℚ d → Repeats (value_at c) from d (rise_over c d)
