-- What a queue of a priority server is served grows from zero where the service does: what is left is at most the
-- service, and so at most the service at any later time.
use Rattle.std.specs.Prelude.{ℕ}
use Rattle.rational.specs.Rational.{ℚ, ◌≤ℚ◌}
use Rattle.rational.specs.Extended.{Ext, ◌≤ₑ◌}
use Rattle.rational.specs.declared.Extended.TheVariants.{Fin}
use Rattle.rational.proofs.ExtendedOrder.{le_ext_trans, same_le_ext}
use Rattle.rational.proofs.Laws.{le_refl}
use Rattle.upp_curve.specs.Curve.{value_at}
use Rattle.min_plus.specs.Functions.{zero_q, IsNonnegative}
use Rattle.min_plus.specs.Pointwise.{excess}
use Rattle.run_laws.specs.Cards.{whole}
use Rattle.run_laws.proofs.Sizes.{whole_nonneg}
use Rattle.plain_operators.specs.CurveCalls.{GrowsFromZero, IsBoundedFromZero}
use Rattle.plain_operators.proofs.CurveCalls.{excess_nonneg, excess_nothing, excess_most, supremum_grows}
use Rattle.residuals.specs.calls.PriorityGrowth.{PriorityServiceGrows, PriorityCurveGrows}
use Rattle.residual_laws.specs.PriorityLaws.{priority_left}
use Rattle.residuals.proofs.calls.PriorityCalls.{made_curve, service_is}

left_most : (β higher : ℚ → Ext) (lower : ℕ) (t : ℚ) → zero_q ≤ℚ t → IsNonnegative β → IsNonnegative higher
    → priority_left β higher lower t ≤ₑ β t
left_most β higher lower t p low above =
    le_ext_trans (priority_left β higher lower t) (excess (β t) (higher t)) (β t)
    (excess_most (excess (β t) (higher t)) (Fin (whole lower)) (excess_nonneg (β t) (higher t)) (whole_nonneg lower))
    (excess_most (β t) (higher t) (low t p) (above t p))

left_bounded : (β higher : ℚ → Ext) (lower : ℕ) → GrowsFromZero β → IsNonnegative higher
    → IsBoundedFromZero (priority_left β higher lower)
left_bounded β higher lower grows above = record {
  bounded = λ t p.
      let level = grows.finite t p in (
        level.0,
        λ s low most.
            le_ext_trans (priority_left β higher lower s) (β s) (Fin level.0)
            (left_most β higher lower s low grows.nonneg above)
            (le_ext_trans (β s) (β t) (Fin level.0) (grows.rising s t low most) (same_le_ext level.1)),
      );
  start = excess_nothing (excess (β zero_q) (higher zero_q)) (Fin (whole lower))
      (excess_nothing (β zero_q) (higher zero_q) grows.start (above zero_q (le_refl zero_q))) (whole_nonneg lower);
  nonneg = λ t p. excess_nonneg (excess (β t) (higher t)) (Fin (whole lower));
}

pub service_grows : PriorityServiceGrows
service_grows β higher R lower grows above is =
    supremum_grows (priority_left β higher lower) R (left_bounded β higher lower grows above) is

pub curve_grows : PriorityCurveGrows
curve_grows β higher c lower grows above made = record {
  curve = made_curve β higher c lower made;
  grows = service_grows (value_at β) (value_at higher) (value_at c) lower grows above (service_is β higher c lower made);
}
