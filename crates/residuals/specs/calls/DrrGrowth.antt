-- What a queue of a deficit round robin server is served has the shape of a service curve, where the service has it.
-- (Bouillard, Boyer and Le Corronc.)
use Rattle.std.specs.Prelude.{◌≡◌, ◌≤◌, ◌<◌, ℕ, List, length, get_or, Ok}
use Rattle.rational.specs.Rational.{ℚ}
use Rattle.rational.specs.Extended.{Ext}
use Rattle.upp_curve.specs.Curve.{SpecCurve, value_at}
use Rattle.plain_operators.specs.CurveCalls.{GrowsFromZero, IsGrowingCurve}
use Rattle.residuals.specs.calls.DrrCalls.{AreQueues, MakesDrr}
use Rattle.residual_laws.specs.DrrLaws.{IsDrrService}

-- R is queue i's share of β, less what is owed
abbrev pub DrrServiceGrows : Type 0
DrrServiceGrows = (β R : ℚ → Ext) (quanta longest : List ℕ) (i : ℕ) →
    length longest ≡ length quanta → i < length quanta → 1 ≤ get_or quanta i 0 →
    GrowsFromZero β → IsDrrService β quanta longest i R → GrowsFromZero R

-- c is the curve that the calls make
abbrev pub DrrCurveGrows : Type 0
DrrCurveGrows = (β c : SpecCurve) (quanta longest : List ℕ) (i : ℕ) → AreQueues quanta longest → i < length quanta →
    GrowsFromZero (value_at β) → MakesDrr β quanta longest i (Ok c) → IsGrowingCurve c
