-- What a queue of a priority server is served has the shape of a service curve, where the service has it and the
-- higher queues' curve is nowhere below 0. (Le Boudec and Thiran, non-preemptive priority.)
use Rattle.std.specs.Prelude.{ℕ, Ok}
use Rattle.rational.specs.Rational.{ℚ}
use Rattle.rational.specs.Extended.{Ext}
use Rattle.upp_curve.specs.Curve.{SpecCurve, value_at}
use Rattle.min_plus.specs.Functions.{IsNonnegative}
use Rattle.plain_operators.specs.CurveCalls.{GrowsFromZero, IsGrowingCurve}
use Rattle.residuals.specs.calls.PriorityCalls.{MakesPriority}
use Rattle.residual_laws.specs.PriorityLaws.{IsPriorityService}

-- R is what β, the higher queues and one packet of the lower ones leave
abbrev pub PriorityServiceGrows : Type 0
PriorityServiceGrows = (β higher R : ℚ → Ext) (lower : ℕ) → GrowsFromZero β → IsNonnegative higher →
    IsPriorityService β higher lower R → GrowsFromZero R

-- c is the curve that the calls make
abbrev pub PriorityCurveGrows : Type 0
PriorityCurveGrows = (β higher c : SpecCurve) (lower : ℕ) → GrowsFromZero (value_at β) →
    IsNonnegative (value_at higher) → MakesPriority β higher lower (Ok c) → IsGrowingCurve c
