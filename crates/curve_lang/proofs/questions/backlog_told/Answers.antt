use Rattle.std.proofs.Common.{refl, sym, subst, inl}
use Rattle.std.specs.Prelude.{IfOk, Err}
use Rattle.min_plus.specs.Deviations.{IsVerticalDeviation}
use Rattle.upp_curve.specs.Curve.{value_at}
use Rattle.upp_limits.specs.Outcome.{KeepsLimits}
use Rattle.upp_limits.specs.declared.op_kind.OpKind.TheVariants as calls
use Rattle.curve_lang.specs.Finding.{CallFinds}
use Rattle.curve_lang.specs.Found.{IsBacklog}
use Rattle.curve_lang.proofs.Kept.{refused}
use Rattle.curve_lang.proofs.questions.backlog_told.Goals as goal

pub vertical-requires : goal.vertical-requires
vertical-requires g c = c.is_finite.ensures.0 c.if-not-is_finite.false

pub returns-in-Ok : goal.returns-in-Ok
returns-in-Ok g c =
    let f = c.args.f.now in
    let h = c.args.g.now in
    inl (
      c.is_finite.ensures.0 c.if-not-is_finite.false,
      (
        (
          subst (λ x. KeepsLimits calls.Vertical f h x) c.in-Ok.is c.vertical.ensures.limits,
          (c.in-Ok.value, subst (λ x. IfOk x (IsVerticalDeviation (value_at f) (value_at h))) c.in-Ok.is c.vertical.ensures.value, refl),
        ),
        c.vertical.ensures.count,
      ),
    )

pub returns-in-Err : goal.returns-in-Err
returns-in-Err g c =
    let f = c.args.f.now in
    let h = c.args.g.now in
    inl (
      c.is_finite.ensures.0 c.if-not-is_finite.false,
      (
        subst (λ k. CallFinds calls.Vertical f h (IsBacklog f h) (Err k)) (sym c.told_call.ensures)
            (refused calls.Vertical f h (IsBacklog f h) c.in-Err.fault (subst (λ x. KeepsLimits calls.Vertical f h x) c.in-Err.is c.vertical.ensures.limits)),
        c.vertical.ensures.count,
      ),
    )
