use Rattle.std.proofs.Common.{refl, subst}
use Rattle.std.specs.Prelude.{IfOk}
use Rattle.rational.specs.Rational.{ℚ, ◌≤ℚ◌}
use Rattle.min_plus.specs.Functions.{zero_q}
use Rattle.min_plus.specs.Pointwise.{IsMinimum}
use Rattle.upp_curve.specs.Curve.{SpecCurve, value_at}
use Rattle.upp_limits.specs.Outcome.{KeepsLimits}
use Rattle.upp_limits.specs.declared.op_kind.OpKind.TheVariants as calls
use Rattle.curve_lang.proofs.questions.below_told.Goals as goal

pub returns-in-Ok : goal.returns-in-Ok
returns-in-Ok g c =
    let f = c.args.f.now in
    let h = c.args.g.now in
    let least = subst (λ x. IfOk x (λ (d : SpecCurve). (t : ℚ) → zero_q ≤ℚ t → IsMinimum (value_at f) (value_at h) t (value_at d t))) c.in-Ok.is c.min.ensures.value in (
      (
        subst (λ x. KeepsLimits calls.Min f h x) c.in-Ok.is c.min.ensures.limits,
        (c.is_below.result, c.is_below.ensures h least, refl),
      ),
      c.min.ensures.count,
    )
