-- What a flow of a first in, first out queue is served has the shape of a service curve, whatever the other flows'
-- curve: the service that is left from need only be finite. (Le Boudec and Thiran, section 6.4.)
use Rattle.std.specs.Prelude.{Ok}
use Rattle.rational.specs.Rational.{ℚ}
use Rattle.rational.specs.Extended.{Ext, ◌≤ₑ◌}
use Rattle.rational.specs.declared.Extended.TheVariants.{Fin}
use Rattle.upp_limits.specs.declared.op_kind.OpKind.TheVariants.{FifoLeft}
use Rattle.upp_curve.specs.Curve.{SpecCurve, value_at}
use Rattle.min_plus.specs.Functions.{zero_q, IsFinite}
use Rattle.plain_operators.specs.CurveCalls.{Applies, GrowsFromZero, IsGrowingCurve}
use Rattle.residuals.specs.fifo.Laws.{IsResidual}

-- R is what β leaves of the others' curve
abbrev pub FifoServiceGrows : Type 0
FifoServiceGrows = (β cross R : ℚ → Ext) (θ : Ext) → Fin zero_q ≤ₑ θ → IsFinite β → IsResidual β cross θ R →
    GrowsFromZero R

-- c is the curve that the call makes
abbrev pub FifoCurveGrows : Type 0
FifoCurveGrows = (β cross c : SpecCurve) (θ : Ext) → Fin zero_q ≤ₑ θ → IsFinite (value_at β) →
    Applies (FifoLeft θ) β cross (Ok c) → IsGrowingCurve c
