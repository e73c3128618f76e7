use Rattle.std.proofs.Common.{refl, sym, subst}
use Rattle.std.specs.Prelude.{IfOk, Err}
use Rattle.min_plus.specs.Deviations.{IsHorizontalDeviation}
use Rattle.upp_curve.specs.Curve.{value_at}
use Rattle.upp_limits.specs.Outcome.{KeepsLimits}
use Rattle.upp_limits.specs.declared.op_kind.OpKind.TheVariants as calls
use Rattle.curve_lang.specs.Finding.{CallFinds}
use Rattle.curve_lang.specs.Found.{IsDelay}
use Rattle.curve_lang.proofs.Kept.{refused}
use Rattle.curve_lang.proofs.questions.delay_found.Goals as goal

pub horizontal-requires-clause-finite : goal.horizontal-requires-clause-finite
horizontal-requires-clause-finite g c = c.requires.finite

pub horizontal-requires-clause-rising : goal.horizontal-requires-clause-rising
horizontal-requires-clause-rising g c = (c.requires.first, c.requires.second)

pub returns-in-Ok : goal.returns-in-Ok
returns-in-Ok g c =
    let f = c.args.f.now in
    let h = c.args.g.now in (
      (
        subst (λ x. KeepsLimits calls.Horizontal f h x) c.in-Ok.is c.horizontal.ensures.limits,
        (c.in-Ok.value, subst (λ x. IfOk x (IsHorizontalDeviation (value_at f) (value_at h))) c.in-Ok.is c.horizontal.ensures.value, refl),
      ),
      c.horizontal.ensures.count,
    )

pub returns-in-Err : goal.returns-in-Err
returns-in-Err g c =
    let f = c.args.f.now in
    let h = c.args.g.now in (
      subst (λ k. CallFinds calls.Horizontal f h (IsDelay f h) (Err k)) (sym c.told_call.ensures)
          (refused calls.Horizontal f h (IsDelay f h) c.in-Err.fault (subst (λ x. KeepsLimits calls.Horizontal f h x) c.in-Err.is c.horizontal.ensures.limits)),
      c.horizontal.ensures.count,
    )
